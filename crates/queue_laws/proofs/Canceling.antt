-- What an operator's Cancel-Job makes of what is another caller's own.
use Rattle.std.proofs.Common.{◌≡◌, ℕ, List, [], refl, ap, sym, ◌∙◌, subst, Bool, true, false}
use Rattle.std.specs.Prelude.{Some, None, bytes_eq}
use Rattle.std.specs.List.{AllByRecursion as Each}
use Rattle.std.proofs.lemmas.Option.{same_Some}
use Rattle.queue_types.specs.Settings.{SettingValues}
use Rattle.queue_types.specs.Event.{Decision, ask, cancel_job}
use Rattle.queue_core.specs.World.{World, rows, cut, made_on, numbered, queue_counts, has_number}
use Rattle.queue_core.specs.Machine.{decision, step, cancel_row, cause, of_seen}
use Rattle.queue_core.specs.Sound.{IsSound}
use Rattle.queue_types.specs.declared.job.Job.{Job}
use Rattle.queue_types.specs.declared.event.Scene.{Scene}
use Rattle.queue_laws.specs.Own.{Own, own, own_jobs}
use Rattle.queue_laws.proofs.Asked.{cancel_by}
use Rattle.queue_laws.proofs.Base.{at, none_named, named as named_job}
use Rattle.queue_laws.proofs.Callers.{IsBy, own_made, own_made_on, others_made}
use Rattle.queue_laws.proofs.Heard.{own_has, all_own}
use Rattle.queue_laws.proofs.Seen.{named, own_free_row, own_account, each_own}
use Rattle.queue_laws.proofs.Undrawn.{next_kept}

-- ---- another's job, or none

module _ (u caller : List ℕ) (w : World) (now n : ℕ) (sound : IsSound w) (no : has_number n (own_jobs u w.jobs) ≡ false) where
  others_ended : (j : Job) → at n w.jobs ≡ Some j → (b : Bool) → bytes_eq j.owner u ≡ b → own u (step w now (ask caller (cancel_job n))).world ≡ own u w
  others_ended j there true is = let yes : has_number n (own_jobs u w.jobs) ≡ true = own_has u n w.jobs j there is in absurd (cc)
  others_ended j there false is =
      others_made u j.owner w (decision (cut w now (ask caller (cancel_job n))) now (ask caller (cancel_job n))).change is
      (cancel_by w now caller n sound j.owner (λ k here. ap (λ (x : Job). x.owner) (same_Some k j (sym here ∙ there))))
      ∙ ap (λ m. record (own u w) { next = m }) (next_kept w now caller (cancel_job n) refl)

  none_ended : at n w.jobs ≡ None → own u (step w now (ask caller (cancel_job n))).world ≡ own u w
  none_ended none =
      let s : Scene = cut w now (ask caller (cancel_job n)) in
      ap (λ js. own u (made_on (of_seen w.settings.operators caller (λ j. cancel_row s now (cause caller j) j) js).change w)) (none_named n (rows w) none)

  pub canceled_others : own u (step w now (ask caller (cancel_job n))).world ≡ own u w
  canceled_others = elim (at n w.jobs) as (λ o. at n w.jobs ≡ o → own u (step w now (ask caller (cancel_job n))).world ≡ own u w) [
    | None ↦ none_ended
    | Some j ↦ λ there. others_ended j there (bytes_eq j.owner u) refl
  ] refl

-- ---- a job of u's

-- the scene that is cut from what is u's own
abbrev pub seen_cancel : List ℕ → SettingValues → Own → ℕ → Scene
seen_cancel u s o n = record {
  settings = s;
  jobs = named n o.jobs;
  free = own_free_row u o (named n o.jobs);
  live = 0;
  counts = queue_counts [];
  report = None;
  known = [];
  next = 1;
}

abbrev pub own_canceled_on : List ℕ → List ℕ → SettingValues → ℕ → ℕ → Own → Own
own_canceled_on u caller s now n o = own_made_on u (decision (seen_cancel u s o n) now (ask caller (cancel_job n))).change o

module _ (u caller : List ℕ) (w : World) (now n : ℕ) (sound : IsSound w) (yes : has_number n (own_jobs u w.jobs) ≡ true) where
  all : numbered n (rows w) ≡ named n (own_jobs u w.jobs)
  all = all_own u n w sound yes

  scene_same : cut w now (ask caller (cancel_job n)) ≡ seen_cancel u w.settings (own u w) n
  scene_same = λ i. record { settings = w.settings; jobs = all i; free = own_account u n w all i; live = 0; counts = queue_counts []; report = None; known = []; next = 1 }

  decided_same : decision (cut w now (ask caller (cancel_job n))) now (ask caller (cancel_job n)) ≡ decision (seen_cancel u w.settings (own u w) n) now (ask caller (cancel_job n))
  decided_same = ap (λ (s : Scene). decision s now (ask caller (cancel_job n))) scene_same

  owned : (j : Job) → at n w.jobs ≡ Some j → j.owner ≡ u
  owned j there = let it = named_job n (rows w) j there in (subst (λ js. Each (λ (j : Job). j.owner ≡ u) js) (sym all ∙ it.is) (each_own u n w)).0

  canceled_by : IsBy u w (decision (cut w now (ask caller (cancel_job n))) now (ask caller (cancel_job n))).change
  canceled_by = cancel_by w now caller n sound u owned

  pub canceled_own : own u (step w now (ask caller (cancel_job n))).world ≡ own_canceled_on u caller w.settings now n (own u w)
  canceled_own =
      own_made u w (decision (cut w now (ask caller (cancel_job n))) now (ask caller (cancel_job n))).change sound canceled_by
      ∙ ap (λ (d : Decision). own_made_on u d.change (own u w)) decided_same
