-- What a line of the device leaves, where a crash may come at any moment.
use Rattle.std.proofs.Common.{◌≡◌, ℕ, Bool, true, false, List, Ok, Err, Some, refl, ap, subst, sym}
use Rattle.std.specs.Prelude.{MatchBool}
use Rattle.queue_types.specs.Event.{Event, tell}
use Rattle.queue_types.specs.declared.event.Report.{Report}
use Rattle.queue_core.specs.Crash.{Leaves}
use Rattle.queue_core.specs.Machine.{step}
use Rattle.queue_core.specs.World.{World}
use Rattle.queue_core.proofs.Crashes.{leaves_by}
use Rattle.device_lines.specs.Lines.{Reads}
use Rattle.device_lines.specs.Reports.{AnswersReport, BringsLine, IsReported, IsUntaken, Tells, ToldBy, fault_line, is_fault_line, reports, unread_line}
use Rattle.device_lines.specs.declared.line.LineFault.{LineFault}
use Rattle.device_lines.specs.declared.line.LineFault.TheVariants.{Syntax, Range}

-- what was asked by a report was asked by its line, and a fault was told
pub as_told : {failed : Type 0} (line out : List ℕ) (r : Report) (now : ℕ) (w v u x : World) → Reads line (Ok r) → out ≡ fault_line → Leaves (λ e. e ≡ tell r) failed now w v u x
    → Leaves (ToldBy line) (is_fault_line out ≡ true) now w v u x
as_told line out r now w v u x reads text left =
    leaves_by _ _ _ _ now w v u x (λ e is. subst (λ (z : Event). Tells line (Some z)) (sym is) (reports r reads)) (λ err. ap is_fault_line text) left

pub match_false : (P Q : Type 0) (b : Bool) → b ≡ false → Q → MatchBool b P Q
match_false P Q true e q = absurd (cc)
match_false P Q false e q = q

pub match_true : (P Q : Type 0) (b : Bool) → b ≡ true → P → MatchBool b P Q
match_true P Q true e p = p
match_true P Q false e p = absurd (cc)

unread_quiet : (out : List ℕ) (f : LineFault) → out ≡ unread_line f → is_fault_line out ≡ false
unread_quiet out Syntax is = ap is_fault_line is
unread_quiet out Range is = ap is_fault_line is

-- the line of a fault
pub fault_brings : (w : World) (now : ℕ) (line out : List ℕ) → IsUntaken line out → out ≡ fault_line → BringsLine w now line w out
fault_brings w now line out untold is =
    let q : is_fault_line out ≡ true = ap is_fault_line is in
    match_true _ _ (is_fault_line out) q (untold, refl)

-- a line that can't be read
pub unread_reported : (w : World) (now : ℕ) (line : List ℕ) (f : LineFault) (out : List ℕ) → Reads line (Err f) → out ≡ unread_line f → IsReported w now line w out
unread_reported w now line f out reads is = record { reading = Err f; reads = reads; brings = (refl, is) }

pub unread_brings : (w : World) (now : ℕ) (line out : List ℕ) (f : LineFault) → Reads line (Err f) → out ≡ unread_line f → BringsLine w now line w out
unread_brings w now line out f reads is = match_false _ _ (is_fault_line out) (unread_quiet out f is) (unread_reported w now line f out reads is)

-- a report that was taken
pub read_reported : (w : World) (now : ℕ) (line : List ℕ) (r : Report) (out : List ℕ) → Reads line (Ok r) → AnswersReport r.job (step w now (tell r)).reply out → IsReported w now line (step w now (tell r)).world out
read_reported w now line r out reads answers = record { reading = Ok r; reads = reads; brings = (refl, answers) }
