-- What a line asks of the machine, by its one reading.
use Rattle.std.proofs.Common.{◌≡◌, ◌∙◌, ℕ, List, Option, None, Some, Result, Ok, Err, IfSome, refl, sym, ap}
use Rattle.queue_types.specs.Event.{Event, tell}
use Rattle.queue_types.specs.declared.event.Report.{Report}
use Rattle.queue_core.specs.Limits.{IsEvent}
use Rattle.queue_core.specs.Runs.{after}
use Rattle.queue_core.specs.World.{World}
use Rattle.device_lines.specs.Lines.{Reads}
use Rattle.device_lines.specs.Reports.{BringsAbout, IsReported, Tells, reports, unread}
use Rattle.device_lines.specs.declared.line.LineFault.{LineFault}
use Rattle.device_lines.proofs.Readings.{one_reading}

-- what a reading asks for
abbrev asked : Result Report LineFault → Option Event
asked (Ok r) = Some (tell r)
asked (Err f) = None

told_by : (line : List ℕ) (e : Option Event) → Tells line e → (r : Result Report LineFault) × Reads line r × (e ≡ asked r)
told_by line _ (reports r reads) = (Ok r, reads, refl)
told_by line _ (unread f reads) = (Err f, reads, refl)

pub one_telling : (line : List ℕ) (d e : Option Event) → Tells line d → Tells line e → d ≡ e
one_telling line d e p q =
    let x = told_by line d p in
    let y = told_by line e q in
    x.2 ∙ ap asked (one_reading line x.0 y.0 x.1 y.1) ∙ sym y.2

pub told_fits : (line : List ℕ) (e : Option Event) → Tells line e → IfSome e IsEvent
told_fits line _ (reports r reads) = reads.1
told_fits line _ (unread f reads) = tt

done_by : (now : ℕ) (w u : World) (line out : List ℕ) (r : Result Report LineFault) → Reads line r → BringsAbout r w now u out
    → (e : Option Event) × Tells line e × (u ≡ after w now e)
done_by now w u line out (Ok r) reads brings = (Some (tell r), reports r reads, brings.0)
done_by now w u line out (Err f) reads brings = (None, unread f reads, brings.0)

pub told_after : (now : ℕ) (w u : World) (line out : List ℕ) → IsReported w now line u out → (e : Option Event) × Tells line e × (u ≡ after w now e)
told_after now w u line out told = done_by now w u line out told.reading told.reads told.brings
