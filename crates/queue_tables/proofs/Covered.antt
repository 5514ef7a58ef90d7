-- In a sound world, who has no account has nothing reserved or printed.
use Rattle.std.proofs.Common.{◌≡◌, ℕ, ◌-◌, List, [], ◌∷◌, Bool, true, false, ◌||◌, if◌then◌else◌, Option, Some, None, is_some, IsTrue, refl, sym, ap, ◌∙◌, arith, sum_by, bytes_eq, cond}
use Rattle.std.specs.List.{AllByRecursion as Each}
use Rattle.std.specs.FinMap.{get, get-insert}
use Rattle.std.specs.Cmp.Lexicographic.{nat_list_cmp_total}
use Rattle.std.specs.Ordering.{eq_by_cmp}
use Rattle.std.proofs.lemmas.List.Sums.{sum_by-cons}
use Rattle.queue_types.specs.declared.event.FreeRow.{FreeRow}
use Rattle.queue_types.specs.declared.job.Job.{Job}
use Rattle.queue_types.specs.declared.job.Phase.{Phase}
use Rattle.queue_types.specs.declared.job.Phase.TheVariants.{Waiting, Running, Stopped}
use Rattle.queue_types.specs.Job.{owed, estimate, is_live_in}
use Rattle.queue_core.specs.Limits.{FitsPhase, IsSoundJob}
use Rattle.queue_core.specs.World.{World, Entry, text_cmp}
use Rattle.queue_core.specs.Sound.{IsSound, IsSoundEntry, IsIdle}
use Rattle.queue_tables.specs.Steps.{AreCovered, with_free}
use Rattle.queue_tables.proofs.Entries.{rows_in}
use Rattle.queue_tables.proofs.Puts.{of_account}
use Rattle.queue_tables.proofs.Accounts.{same_text}

none_ended : (o : Option ℕ) → o ≡ None → is_some o ≡ false
none_ended o e = ap (λ (p : Option ℕ). is_some p) e

live_idle : (h : Bool) (o : Option ℕ) (n : ℕ) → o ≡ None → IsTrue (h || is_some o) → (if h then 0 else n) ≡ 0
live_idle true o n e t = refl
live_idle false o n e t = absurd (let x : is_some o ≡ true = t in let y = none_ended o e in cc)

idle_in : (p : Phase) (j : Job) (n : ℕ) → FitsPhase p j → IsTrue (j.hold || is_some j.ended) → (if is_live_in p then (if j.hold then 0 else n) else 0) ≡ 0
idle_in Waiting j n fits t = live_idle j.hold j.ended n fits.2 t
idle_in Running j n fits t = live_idle j.hold j.ended n fits.3 t
idle_in Stopped j n fits t = live_idle j.hold j.ended n fits.3 t
idle_in _ j n fits t = refl

idle_owes_nothing : (j : Job) → IsSoundJob j → IsIdle j → owed j ≡ 0
idle_owes_nothing j sound idle = idle_in j.phase j (estimate j - j.count) sound.phase idle.2

none_of : (b : Bool) (n : ℕ) → (b ≡ true → n ≡ 0) → (if b then n else 0) ≡ 0
none_of true n zero = zero refl
none_of false n zero = refl

no_sum : (f : Job → ℕ) → ((j : Job) → IsSoundJob j → IsIdle j → f j ≡ 0) → (w : World) (a : List ℕ) → get w.free a ≡ None → (es : List Entry) → Each IsSoundEntry es
    → Each (λ e. get w.free e.row.owner ≡ None → IsIdle e.row) es → sum_by (of_account f a) (rows_in es) ≡ 0
no_sum f zero w a none [] sound idle = refl
no_sum f zero w a none (e ∷ es) sound idle =
    let here : of_account f a e.row ≡ 0 = none_of (bytes_eq e.row.owner a) (f e.row) (λ same. zero e.row sound.0.row (idle.0 (ap (get w.free) (same_text e.row.owner a same) ∙ none))) in
    let more = no_sum f zero w a none es sound.1 idle.1 in
    let sum = sum_by-cons (of_account f a) e.row (rows_in es) in
    omega (arith, here, more, sum)

pub sound_covered : (w : World) → IsSound w → AreCovered w
sound_covered w s = λ a none. (no_sum owed idle_owes_nothing w a none w.jobs s.entries s.idle, no_sum (λ j. j.count) (λ j sound idle. idle.1) w a none w.jobs s.entries s.idle)

pub covered_more : (w : World) (x : FreeRow) → AreCovered w → AreCovered (with_free x w)
covered_more w x covered = λ a none. covered a (before a (eq_by_cmp text_cmp a x.account) (sym (get-insert nat_list_cmp_total w.free x.account x.free a) ∙ none))
  where
    before : (a : List ℕ) (b : Bool) → cond b (Some x.free) (get w.free a) ≡ None → get w.free a ≡ None
    before a true e = absurd cc
    before a false e = e
