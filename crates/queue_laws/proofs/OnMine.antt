-- What Cancel-My-Jobs makes of each job.
use Rattle.std.proofs.Common.{◌≡◌, ◌⊎◌, ℕ, ◌+◌, ◌<◌, List, [], ◌∷◌, map, refl, ap, sym, ◌∙◌, arith, inl, inr, Bool, true, false, cond}
use Rattle.std.specs.Prelude.{Some, None, nat_eq, bytes_eq, filter, fold, ◌&&◌, ◌||◌}
use Rattle.std.proofs.lemmas.Option.{same_Some, none-some}
use Rattle.std.proofs.lemmas.Bool.{false_from_ne_true, ne_eqb}
use Rattle.std.proofs.Math.Bool.{or-false}
use Rattle.queue_types.specs.Event.{Decision, ask, cancel_job, cancel_my_jobs}
use Rattle.queue_types.specs.Job.{is_live_in, is_live}
use Rattle.queue_types.specs.Operators.{is_operator}
use Rattle.queue_core.specs.World.{World, Entry, rows, cut, numbered, with_row}
use Rattle.queue_core.specs.Machine.{Step, step, becomes, refused, canceled, canceled_by, cause, is_cancelable_in, is_cancelable, cancel_row, of_seen}
use Rattle.queue_core.specs.Sound.{IsSound, Rise}
use Rattle.queue_types.specs.declared.job.Job.{Job}
use Rattle.queue_types.specs.declared.job.Why.TheVariants.{ByUser, ByOperator}
use Rattle.queue_types.specs.declared.job.Phase.{Phase}
use Rattle.queue_types.specs.declared.job.Phase.TheVariants.{Waiting}
use Rattle.queue_types.specs.declared.event.Reply.TheVariants.{Done}
use Rattle.queue_types.specs.declared.event.Scene.{Scene}
use Rattle.queue_laws.specs.Doing.{entry_at}
use Rattle.queue_laws.specs.Jobs.{has_job, is_owned_by}
use Rattle.queue_laws.proofs.Asked.{same_canceled}
use Rattle.queue_laws.proofs.Base.{at, rows_of, equal, each_map, none_named}
use Rattle.queue_laws.proofs.OneJob.{any_job, seen_any}
use Rattle.queue_laws.proofs.OneDone.{by, row_at, becomes_at}
use Rattle.queue_laws.proofs.OfNumber.{no_row, once, stays_at, canceled_at, both_filters, has_chosen}
use Rattle.queue_laws.proofs.Standing.{Stands, all_stand}

live_cancelable : (own : Bool) (p : Phase) (j : Job) → ((own && is_live_in p) && is_cancelable_in p j) ≡ (own && is_cancelable_in p j)
live_cancelable true Waiting j = refl
live_cancelable true _ j = refl
live_cancelable false p j = refl

-- ---- the caller has the job of a number

no_above : (caller : List ℕ) (n first next : ℕ) (es : List Entry) → n < first → Rise first es next → has_job caller n (rows_of es) ≡ false
no_above caller n first next [] low rise = refl
no_above caller n first next (e ∷ es) low rise =
    let least = rise.0 in
    ap (λ t. (t && is_owned_by caller e.row) || has_job caller n (rows_of es)) (ne_eqb e.row.number n (λ same. omega arith))
    ∙ no_above caller n (e.row.number + 1) next es (omega arith) rise.1

pub owns_it : (caller : List ℕ) (n first next : ℕ) (es : List Entry) (e : Entry) → Rise first es next → entry_at n es ≡ Some e → has_job caller n (rows_of es) ≡ true → bytes_eq e.row.owner caller ≡ true
owns_it caller n first next [] e rise there has = absurd (none-some e there)
owns_it caller n first next (f ∷ es) e rise there has =
    elim (nat_eq f.row.number n) as (λ t. nat_eq f.row.number n ≡ t → cond t (Some f) (entry_at n es) ≡ Some e → ((t && is_owned_by caller f.row) || has_job caller n (rows_of es)) ≡ true → bytes_eq e.row.owner caller ≡ true) [
      | true ↦ λ is there has.
          let here : f.row.number ≡ n = equal f.row.number n is in
          let rest : has_job caller n (rows_of es) ≡ false = no_above caller n (f.row.number + 1) next es (omega arith) rise.1 in
          let own : Bool = is_owned_by caller f.row in
          ap (λ (x : Entry). bytes_eq x.row.owner caller) (sym (same_Some f e there)) ∙ sym (or-false own) ∙ ap (λ b. own || b) (sym rest) ∙ has
      | false ↦ λ is there has. owns_it caller n (f.row.number + 1) next es e rise.1 there has
    ] refl there has

module _ (w : World) (now : ℕ) (caller : List ℕ) where
  -- ---- Cancel-Job

  abbrev pub one : ℕ → Step
  one n = step w now (ask caller (cancel_job n))

  abbrev pub scene : ℕ → Scene
  scene n = cut w now (ask caller (cancel_job n))

  abbrev pub by_tests : ℕ → Job → Bool → Bool → Decision
  by_tests n j own can = cond own (cond can (becomes (scene n) (canceled now j)) (refused 0x0404)) (refused 0x0406)

  -- the caller is no operator, or owns the job
  abbrev pub Sees : Job → Type 0
  Sees j = (is_operator w.settings.operators caller ≡ false) ⊎ (bytes_eq j.owner caller ≡ true)

  by_parts : (n : ℕ) (j : Job) (own operator : Bool) → (operator ≡ false) ⊎ (own ≡ true)
      → cond (own || operator) (cond (is_cancelable j) (becomes (scene n) (canceled_by (cond own ByUser ByOperator) now j)) (refused 0x0404)) (refused 0x0406) ≡ by_tests n j own (is_cancelable j)
  by_parts n j true operator sees = refl
  by_parts n j false operator (inl plain) = ap (λ b. cond b (cond (is_cancelable j) (becomes (scene n) (canceled_by ByOperator now j)) (refused 0x0404)) (refused 0x0406)) plain
  by_parts n j false operator (inr own) = absurd (cc)

  pub one_step : (n : ℕ) (e : Entry) → entry_at n w.jobs ≡ Some e → Sees e.row → one n ≡ by w (by_tests n e.row (bytes_eq e.row.owner caller) (is_cancelable e.row))
  one_step n e there sees =
      let row : Job → Decision = λ j. cancel_row (scene n) now (cause caller j) j in
      let operator : Bool = is_operator w.settings.operators caller in
      ap (by w) (seen_any w.settings.operators caller row (numbered n (rows w))
      ∙ any_job operator caller (rows w) row n e.row (row_at n w.jobs e there) (bytes_eq e.row.owner caller || operator) refl
      ∙ by_parts n e.row (bytes_eq e.row.owner caller) operator sees)

  pub none_step : (n : ℕ) → entry_at n w.jobs ≡ None → one n ≡ by w (refused 0x0406)
  none_step n none = ap (λ js. by w (of_seen w.settings.operators caller (λ j. cancel_row (scene n) now (cause caller j) j) js)) (none_named n (rows w) (no_row n w.jobs none))

  one_after : (n : ℕ) (e : Entry) → entry_at n w.jobs ≡ Some e → Sees e.row → entry_at n (one n).world.jobs ≡ Some (once now n e (bytes_eq e.row.owner caller && is_cancelable e.row))
  one_after n e there sees = ap (λ (s : Step). entry_at n s.world.jobs) (one_step n e there sees)
      ∙ elim (bytes_eq e.row.owner caller) as (λ own. entry_at n (by w (by_tests n e.row own (is_cancelable e.row))).world.jobs ≡ Some (once now n e (own && is_cancelable e.row))) [
        | true ↦ elim (is_cancelable e.row) as (λ can. entry_at n (by w (by_tests n e.row true can)).world.jobs ≡ Some (once now n e can)) [
          | true ↦ becomes_at w n (scene n) e (canceled now e.row) there (same_canceled ByUser now e.row e.row.phase).number
          | false ↦ there
        ]
        | false ↦ there
      ]

  none_after : (n : ℕ) → entry_at n w.jobs ≡ None → entry_at n (one n).world.jobs ≡ None
  none_after n none = ap (λ (s : Step). entry_at n s.world.jobs) (none_step n none) ∙ none

  -- ---- several of the caller's jobs

  module _ (sound : IsSound w) where
    abbrev pub after : List Job → List Entry
    after ks = fold with_row w.jobs (map (canceled now) ks)

    same_row : (n : ℕ) (e : Entry) → entry_at n w.jobs ≡ Some e → (k : Job) → Stands (rows w) k → nat_eq k.number n ≡ true → k ≡ e.row
    same_row n e there k stand is = same_Some k e.row (sym stand ∙ ap (λ m. at m w.jobs) (equal k.number n is) ∙ row_at n w.jobs e there)

    not_named : (n : ℕ) → entry_at n w.jobs ≡ None → (k : Job) → Stands (rows w) k → nat_eq k.number n ≡ false
    not_named n none k stand = false_from_ne_true (nat_eq k.number n) (λ is. none-some k (sym (no_row n w.jobs none) ∙ ap (λ m. at m w.jobs) (sym (equal k.number n is)) ∙ stand))

    -- where of those that are chosen exactly the caller's cancelable ones have this number
    pub as_one : (n : ℕ) (c : Job → Bool) → ((e : Entry) → entry_at n w.jobs ≡ Some e → Sees e.row) → ((e : Entry) → entry_at n w.jobs ≡ Some e → c e.row ≡ (bytes_eq e.row.owner caller && is_cancelable e.row)) → entry_at n (after (filter c (rows w))) ≡ entry_at n (one n).world.jobs
    as_one n c sees same =
        elim (entry_at n w.jobs) as (λ o. entry_at n w.jobs ≡ o → entry_at n (after (filter c (rows w))) ≡ entry_at n (one n).world.jobs) [
          | None ↦ λ none. stays_at now n (filter c (rows w)) w.jobs (each_map (Stands (rows w)) (λ k. nat_eq k.number n ≡ false) (filter c (rows w)) (not_named n none) (all_stand w sound c)) ∙ none ∙ sym (none_after n none)
          | Some e ↦ λ there.
              canceled_at now n e (filter c (rows w)) w.jobs false (each_map (Stands (rows w)) (λ k. nat_eq k.number n ≡ true → k ≡ e.row) (filter c (rows w)) (same_row n e there) (all_stand w sound c)) there
              ∙ ap (λ b. Some (once now n e b)) (has_chosen n w.next c 1 w.jobs e sound.numbers there ∙ same e there)
              ∙ sym (one_after n e there (sees e there))
        ] refl

    abbrev live_own : Job → Bool
    live_own j = bytes_eq j.owner caller && is_live j

    pub seen_by : (n : ℕ) (e : Entry) → entry_at n w.jobs ≡ Some e → (is_operator w.settings.operators caller ≡ false) ⊎ (has_job caller n (rows w) ≡ true) → Sees e.row
    seen_by n e there (inl plain) = inl plain
    seen_by n e there (inr has) = inr (owns_it caller n 1 w.next w.jobs e sound.numbers there has)

    pub all_as_one : (n : ℕ) → (is_operator w.settings.operators caller ≡ false) ⊎ (has_job caller n (rows w) ≡ true) → entry_at n (step w now (ask caller (cancel_my_jobs None))).world.jobs ≡ entry_at n (one n).world.jobs
    all_as_one n may =
        ap (λ ks. entry_at n (after ks)) (both_filters is_cancelable live_own (rows w))
        ∙ as_one n (λ j. live_own j && is_cancelable j) (λ e there. seen_by n e there may) (λ e there. live_cancelable (bytes_eq e.row.owner caller) e.row.phase e.row)

  pub all_done : (step w now (ask caller (cancel_my_jobs None))).reply ≡ Done
  all_done = refl
