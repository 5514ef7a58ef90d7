-- The device's queue, and the documents that it may fetch.
use Rattle.std.proofs.Common.{◌≡◌, ℕ, ◌<◌, ◌+◌, ◌⊎◌, List, [], ◌∷◌, ◌++◌, length, refl, ap, ◌∙◌, arith, inl, inr, Bool, true, false, cond}
use Rattle.std.specs.Prelude.{Option, Some, None, nat_eq, nat_lt, ◌-◌, count_by, slice_get, ◌&&◌, ◌||◌}
use Rattle.std.proofs.lemmas.Bool.Decides.{nat_tests}
use Rattle.std.proofs.lemmas.Option.{slice_get_past}
use Rattle.std.proofs.lemmas.Bool.{and_right, cond-false}
use Rattle.queue_types.specs.Job.{state}
use Rattle.queue_core.specs.Order.{AreRising}
use Rattle.queue_core.specs.Shown.{pending_in, pending_jobs, document_of, document_at}
use Rattle.queue_core.specs.Sound.{IsSound}
use Rattle.queue_core.specs.World.{World, Entry, rows}
use Rattle.queue_types.specs.declared.document.Document.{Document}
use Rattle.queue_types.specs.declared.job.Job.{Job}
use Rattle.queue_laws.specs.Doing.{entry_at}
use Rattle.queue_laws.proofs.InOrder.{count_filter}
use Rattle.queue_laws.proofs.Standing.{chosen_rise}

-- ---- the queue

pub each_pending : (w : World) (p : Job → Bool) → count_by p (pending_jobs w) ≡ count_by (λ j. nat_eq (state j) 3 && p j) (rows w)
unfolding pending_in
each_pending w p = count_filter p (λ j. nat_eq (state j) 3) (rows w)

pub pending_rise : (w : World) → IsSound w → AreRising (pending_jobs w)
unfolding pending_in
pending_rise w sound = chosen_rise w sound (λ j. nat_eq (state j) 3)

-- ---- documents

at_place : (before after : List Document) (d : Document) → slice_get (before ++ d ∷ after) (length before) ≡ Some d
at_place [] after d = refl
at_place (b ∷ before) after d = at_place before after d

above_none : (n : ℕ) → nat_lt 0 (n + 1) ≡ true
above_none n = grind (arith, nat_tests)

one_less : (n : ℕ) → (n + 1) - 1 ≡ n
one_less n = omega arith

nowhere : (b : Bool) (o : Option Document) → o ≡ None → cond b o None ≡ None
nowhere true o none = none
nowhere false o none = refl

no_place : (b : Bool) (place : ℕ) (ds : List Document) → (place ≡ 0) ⊎ (length ds < place) → cond (b && nat_lt 0 place) (slice_get ds (place - 1)) None ≡ None
no_place b place ds (inl first) = ap (λ n. cond (b && nat_lt 0 n) (slice_get ds (n - 1)) None) first ∙ cond-false (b && false) (slice_get ds (0 - 1)) None (and_right b false refl)
no_place b place ds (inr past) = nowhere (b && nat_lt 0 place) (slice_get ds (place - 1)) (slice_get_past ds (place - 1) (omega arith))

module _ (w : World) (n : ℕ) where
  of_entry : (place : ℕ) (o : Option Entry) → entry_at n w.jobs ≡ o → document_at w n place ≡ document_of o place
  unfolding document_at
  of_entry place o there = ap (λ o. document_of o place) there

  pub no_job_fetched : (place : ℕ) → entry_at n w.jobs ≡ None → document_at w n place ≡ None
  no_job_fetched place none = of_entry place None none

  module _ (e : Entry) (there : entry_at n w.jobs ≡ Some e) where
    abbrev can : Bool
    can = nat_eq (state e.row) 3 || nat_eq (state e.row) 5 || nat_eq (state e.row) 6

    pub fetched : (before after : List Document) (d : Document) → can ≡ true → e.documents ≡ before ++ d ∷ after → document_at w n (length before + 1) ≡ Some d
    fetched before after d is documents =
        of_entry (length before + 1) (Some e) there
        ∙ (λ i. cond (is i && above_none (length before) i) (slice_get (documents i) (one_less (length before) i)) None)
        ∙ at_place before after d

    pub not_fetched : (place : ℕ) → can ≡ false → document_at w n place ≡ None
    not_fetched place is = of_entry place (Some e) there ∙ ap (λ b. cond (b && nat_lt 0 place) (slice_get e.documents (place - 1)) None) is

    pub no_document_fetched : (place : ℕ) → (place ≡ 0) ⊎ (length e.documents < place) → document_at w n place ≡ None
    no_document_fetched place out = of_entry place (Some e) there ∙ no_place can place e.documents out
