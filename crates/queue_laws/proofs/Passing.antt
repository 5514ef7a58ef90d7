-- What a report takes of an account's free pages, and what it moves.
use Rattle.std.proofs.Common.{◌≡◌, ℕ, ℤ, pos, ◌+ℤ◌, ◌-ℤ◌, ◌+◌, ◌-◌, [], ◌∷◌, map, refl, ap, sym, ◌∙◌, subst, arith, Bool, true, false, cond}
use Rattle.std.specs.Prelude.{Some, None, ◌≤ℤ◌, fold, option_map, is_some}
use Rattle.std.specs.FinMap.{get}
use Rattle.std.proofs.lemmas.Int.{ints}
use Rattle.std.proofs.lemmas.Option.{same_Some}
use Rattle.queue_types.specs.Event.{Decision, tell}
use Rattle.queue_types.specs.Job.{is_live, is_live_in, estimate, owed}
use Rattle.queue_core.specs.World.{World, cut, made_on, put_free, owner_row}
use Rattle.queue_core.specs.Machine.{decision, step, accepted, answered, credited, returned, taken}
use Rattle.queue_core.specs.Reports.{counted, moved_by}
use Rattle.queue_types.specs.declared.event.Kind.{Kind}
use Rattle.queue_types.specs.declared.event.Kind.TheVariants.{Count}
use Rattle.queue_types.specs.declared.event.Reply.{Reply}
use Rattle.queue_types.specs.declared.event.Reply.TheVariants.{Told, NotTold}
use Rattle.queue_types.specs.declared.event.Report.{Report}
use Rattle.queue_types.specs.declared.job.Job.{Job}
use Rattle.queue_types.specs.declared.job.Phase.{Phase}
use Rattle.queue_types.specs.declared.job.Phase.TheVariants.{Waiting, Running, Stopped}
use Rattle.queue_core.proofs.Own.{gives_back, moved_from}
use Rattle.queue_laws.proofs.Base.{at, own_key}
use Rattle.queue_laws.proofs.Telling.{declined, known, taken as told_of, IsAccepted, telling, is_before, is_after}

-- ---- a job that ended stays so

abbrev StaysEnded : Phase → Job → Type 0
StaysEnded p x = is_live_in p ≡ false → is_live x ≡ false

was_live : (p : Phase) (x : Job) → is_live_in p ≡ true → StaysEnded p x
was_live p x is ended = absurd (cc)

only_counted : (b : Bool) (p : Phase) (x y : Job) → y.phase ≡ p → cond b (Some y) None ≡ Some x → StaysEnded p x
only_counted true p x y is e ended = ap is_live (sym (same_Some y x e)) ∙ ap is_live_in is ∙ ended
only_counted false p x y is e ended = absurd (cc)

ended_stays : (c now : ℕ) (j x : Job) (k : Kind) (p : Phase) → j.phase ≡ p → moved_by k p now (counted c j) ≡ Some x → StaysEnded p x
ended_stays c now j x k Waiting is e = was_live Waiting x refl
ended_stays c now j x k Running is e = was_live Running x refl
ended_stays c now j x k Stopped is e = was_live Stopped x refl
ended_stays c now j x Count p is e = only_counted (is_some j.begun) p x (counted c j) is e
ended_stays c now j x _ _ is e = absurd (cc)

-- ---- amounts

passes : (was is hold : Bool) (pages m n : ℕ) (f : ℤ) → (was ≡ false → is ≡ false)
    → f ≤ℤ ((f +ℤ (pos (cond was (cond hold 0 (pages - m)) 0 + m) -ℤ pos (cond is (cond hold 0 (pages - n)) 0 + n))) +ℤ pos (n - (m + cond was (cond hold 0 (pages - m)) 0)))
passes true true true pages m n f ends = omega (arith, ints)
passes true true false pages m n f ends = omega (arith, ints)
passes true false true pages m n f ends = omega (arith, ints)
passes true false false pages m n f ends = omega (arith, ints)
passes false false hold pages m n f ends = omega (arith, ints)
passes false true hold pages m n f ends = let no : true ≡ false = ends refl in absurd (cc)

same_passes : (f g : ℤ) (n : ℕ) → f ≡ g → f ≤ℤ (g +ℤ pos n)
same_passes f g n e = omega (arith, ints)

nothing_moves : (f : ℤ) (m n : ℕ) → m ≡ n → f ≡ f +ℤ (pos m -ℤ pos n)
nothing_moves f m n e = omega (arith, ints)

module _ (w : World) (now : ℕ) (r : Report) where
  abbrev by : Decision → World
  by d = made_on d.change w

  abbrev d : Decision
  d = decision (cut w now (tell r)) now (tell r)

  module _ (a : IsAccepted w now r d) where
    abbrev j : Job
    j = a.before

    abbrev x : Job
    x = a.after

    same_number : x.number ≡ j.number
    same_number = ap (λ (k : Job). k.number) a.moved.0

    same_owner : x.owner ≡ j.owner
    same_owner = ap (λ (k : Job). k.owner) a.moved.0

    same_hold : x.hold ≡ j.hold
    same_hold = ap (λ (k : Job). k.hold) a.moved.0

    same_estimate : estimate x ≡ estimate j
    same_estimate = ap estimate a.moved.0

    taken_back : returned (j ∷ a.rest) j.owner (x ∷ []) ≡ pos (taken j) -ℤ pos (taken x)
    taken_back = gives_back j x a.rest j.owner same_number ∙ ap (λ b. cond b (pos (taken j) -ℤ pos (taken x)) (pos 0)) (own_key x.owner j.owner same_owner)

    free_then : (f : ℤ) → get w.free j.owner ≡ Some f → get (by (accepted (cut w now (tell r)) r x)).free j.owner ≡ Some (f +ℤ (pos (taken j) -ℤ pos (taken x)))
    free_then f there =
        ap (λ js. get (fold put_free w.free (map (credited js (x ∷ [])) (owner_row w.free js))) j.owner) a.jobs
        ∙ moved_from w.free j.owner j.owner (j ∷ a.rest) (x ∷ []) (get w.free j.owner) refl
        ∙ ap (λ t. cond t (option_map (λ f. f +ℤ returned (j ∷ a.rest) j.owner (x ∷ [])) (get w.free j.owner)) (get w.free j.owner)) (own_key j.owner j.owner refl)
        ∙ (λ i. option_map (λ f. f +ℤ taken_back i) (there i))

    owed_then : owed x ≡ cond (is_live x) (cond j.hold 0 (estimate j - x.count)) 0
    owed_then = λ i. cond (is_live x) (cond (same_hold i) 0 (same_estimate i - x.count)) 0

    job_passes : (f g : ℤ) → get w.free j.owner ≡ Some f → get (by d).free j.owner ≡ Some g → f ≤ℤ (g +ℤ pos (x.count - (j.count + owed j)))
    job_passes f g before then =
        let is : f +ℤ (pos (taken j) -ℤ pos (taken x)) ≡ g = same_Some (f +ℤ (pos (taken j) -ℤ pos (taken x))) g (sym (free_then f before) ∙ sym (ap (λ d. get (by d).free j.owner) a.is) ∙ then) in
        subst (λ g. f ≤ℤ (g +ℤ pos (x.count - (j.count + owed j)))) is
        (subst (λ o. f ≤ℤ ((f +ℤ (pos (taken j) -ℤ pos (o + x.count))) +ℤ pos (x.count - (j.count + owed j)))) (sym owed_then)
        (passes (is_live j) (is_live x) j.hold (estimate j) j.count x.count f (ended_stays r.count now j x r.kind j.phase refl a.came)))

  pub report_passes : (j k : Job) (f g : ℤ) → at r.job w.jobs ≡ Some j → at r.job (step w now (tell r)).world.jobs ≡ Some k → get w.free j.owner ≡ Some f → get (step w now (tell r)).world.free j.owner ≡ Some g → f ≤ℤ (g +ℤ pos (k.count - (j.count + owed j)))
  report_passes j k f g old new before then = elim (telling w now r) as (λ _. f ≤ℤ (g +ℤ pos (k.count - (j.count + owed j)))) [
    | declined cause e ↦ same_passes f g (k.count - (j.count + owed j)) (same_Some f g (sym before ∙ sym (ap (λ d. get (by d).free j.owner) e) ∙ then))
    | known kept is same e ↦ same_passes f g (k.count - (j.count + owed j)) (same_Some f g (sym before ∙ sym (ap (λ d. get (by d).free j.owner) e) ∙ then))
    | told_of a ↦
        let was : a.before ≡ j = is_before w now r d a j old in
        let is : a.after ≡ k = is_after w now r d a k new in
        subst (λ (k : Job). f ≤ℤ (g +ℤ pos (k.count - (j.count + owed j)))) is
        (subst (λ (j : Job). get w.free j.owner ≡ Some f → get (by d).free j.owner ≡ Some g → f ≤ℤ (g +ℤ pos (a.after.count - (j.count + owed j)))) was (job_passes a f g) before then)
  ]

  -- ---- what it moves

  abbrev Moves : Job → Job → Type 0
  Moves j k = (f : ℤ) → get w.free j.owner ≡ Some f → get (by d).free j.owner ≡ Some (f +ℤ (pos (taken j) -ℤ pos (taken k)))

  none_moves : (j k : Job) (reply : Reply) → d ≡ answered reply → at r.job w.jobs ≡ Some j → at r.job (by d).jobs ≡ Some k → Moves j k
  none_moves j k reply e old new f before =
      let same : j ≡ k = same_Some j k (sym old ∙ sym (ap (λ d. at r.job (by d).jobs) e) ∙ new) in
      ap (λ d. get (by d).free j.owner) e ∙ before ∙ ap Some (nothing_moves f (taken j) (taken k) (ap taken same))

  job_moves : (a : IsAccepted w now r d) → Moves a.before a.after
  job_moves a f before = ap (λ d. get (by d).free a.before.owner) a.is ∙ free_then a f before

  pub report_moves : (j k : Job) (f : ℤ) → at r.job w.jobs ≡ Some j → at r.job (step w now (tell r)).world.jobs ≡ Some k → get w.free j.owner ≡ Some f → get (step w now (tell r)).world.free j.owner ≡ Some (f +ℤ (pos (owed j + j.count) -ℤ pos (owed k + k.count)))
  report_moves j k f old new before = elim (telling w now r) as (λ _. get (by d).free j.owner ≡ Some (f +ℤ (pos (taken j) -ℤ pos (taken k)))) [
    | declined cause e ↦ none_moves j k (NotTold cause) e old new f before
    | known kept is same e ↦ none_moves j k (Told kept.state kept.total) e old new f before
    | told_of a ↦
        let was : a.before ≡ j = is_before w now r d a j old in
        let is : a.after ≡ k = is_after w now r d a k new in
        subst (λ (k : Job). Moves j k) is (subst (λ (j : Job). Moves j a.after) was (job_moves a)) f before
  ]
