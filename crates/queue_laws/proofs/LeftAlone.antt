-- What a caller asks leaves of others.
use Rattle.std.proofs.Common.{◌≡◌, ℕ, ◌+◌, ◌⊎◌, List, refl, ap, sym, ◌∙◌, inl, inr, false}
use Rattle.std.specs.Prelude.{Some, bytes_eq, unwrap_or}
use Rattle.std.specs.FinMap.{get}
use Rattle.std.proofs.lemmas.Option.{same_Some}
use Rattle.queue_types.specs.Event.{Call, Change, ask, cancel_job}
use Rattle.queue_core.specs.World.{World, cut}
use Rattle.queue_core.specs.Machine.{decision, step}
use Rattle.queue_core.specs.Sound.{IsSound}
use Rattle.queue_laws.specs.Operating.{CancelsOwn}
use Rattle.queue_laws.specs.Own.{Own, own, own_jobs}
use Rattle.queue_laws.proofs.Callers.{others_made}
use Rattle.queue_types.specs.declared.job.Job.{Job}
use Rattle.queue_laws.proofs.Asked.{asked_by, cancel_by}
use Rattle.queue_laws.proofs.Base.{at}
use Rattle.queue_laws.proofs.Undrawn.{next_kept}

module _ (w : World) (now : ℕ) (caller other : List ℕ) (call : Call) (sound : IsSound w) (may : CancelsOwn caller call w) (apart : bytes_eq caller other ≡ false) where
  abbrev change : Change
  change = (decision (cut w now (ask caller call)) now (ask caller call)).change

  stays : own other (step w now (ask caller call)).world ≡ record (own other w) { next = unwrap_or change.next w.next }
  stays = others_made other caller w change apart (asked_by w now caller call sound may)

pub jobs_stay : (w : World) (now : ℕ) (caller other : List ℕ) (call : Call) → IsSound w → CancelsOwn caller call w → bytes_eq caller other ≡ false → own_jobs other (step w now (ask caller call)).world.jobs ≡ own_jobs other w.jobs
jobs_stay w now caller other call sound may apart = ap (λ (o : Own). o.jobs) (stays w now caller other call sound may apart)

pub account_stays : (w : World) (now : ℕ) (caller other : List ℕ) (call : Call) → IsSound w → CancelsOwn caller call w → bytes_eq caller other ≡ false → get (step w now (ask caller call)).world.free other ≡ get w.free other
account_stays w now caller other call sound may apart = ap (λ (o : Own). o.free) (stays w now caller other call sound may apart)

-- Cancel-Job of the job j leaves the accounts of others than its owner
pub others_account : (w : World) (now n : ℕ) (caller a : List ℕ) (j : Job) → IsSound w → at n w.jobs ≡ Some j → bytes_eq j.owner a ≡ false → get (step w now (ask caller (cancel_job n))).world.free a ≡ get w.free a
others_account w now n caller a j sound there apart =
    ap (λ (o : Own). o.free) (others_made a j.owner w (decision (cut w now (ask caller (cancel_job n))) now (ask caller (cancel_job n))).change apart
    (cancel_by w now caller n sound j.owner (λ k here. ap (λ (x : Job). x.owner) (same_Some k j (sym here ∙ there)))))

-- one number is drawn or none
by_drawn : (w : World) (now : ℕ) (caller : List ℕ) (call : Call) → IsSound w → ((n : ℕ) → call ≡ cancel_job n → ⊥) → ((step w now (ask caller call)).world.next ≡ w.next) ⊎ ((step w now (ask caller call)).world.next ≡ w.next + 1)
by_drawn w now caller call sound not_cancel =
    elim (asked_by w now caller call sound (inr not_cancel)).next as (λ _. ((step w now (ask caller call)).world.next ≡ w.next) ⊎ ((step w now (ask caller call)).world.next ≡ w.next + 1)) [
      | inl none ↦ inl (ap (λ o. unwrap_or o w.next) none)
      | inr one ↦ inr (ap (λ o. unwrap_or o w.next) one)
    ]

pub next_drawn : (w : World) (now : ℕ) (caller : List ℕ) (call : Call) → IsSound w → ((step w now (ask caller call)).world.next ≡ w.next) ⊎ ((step w now (ask caller call)).world.next ≡ w.next + 1)
next_drawn w now caller (cancel_job n) sound = inl (next_kept w now caller (cancel_job n) refl)
next_drawn w now caller call sound = by_drawn w now caller call sound (λ n e. absurd (cc))
