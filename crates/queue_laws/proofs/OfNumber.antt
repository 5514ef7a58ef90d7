-- What becomes of the job of a number as several jobs are canceled.
use Rattle.std.proofs.Common.{◌≡◌, ℕ, ◌+◌, ◌<◌, List, [], ◌∷◌, map, refl, ap, sym, ◌∙◌, arith, Bool, true, false, cond}
use Rattle.std.specs.Prelude.{Some, None, nat_eq, filter, fold, ◌&&◌, ◌||◌}
use Rattle.std.specs.List.{list_all, list_any, AllByRecursion as Each}
use Rattle.std.proofs.lemmas.Bool.{ne_eqb, or_right, and_right}
use Rattle.std.proofs.lemmas.Option.{same_Some, none-some}
use Rattle.queue_core.specs.World.{Entry, with_row}
use Rattle.queue_core.specs.Machine.{canceled}
use Rattle.queue_core.specs.Sound.{Rise}
use Rattle.queue_types.specs.declared.job.Job.{Job}
use Rattle.queue_types.specs.declared.job.Why.TheVariants.{ByUser}
use Rattle.queue_laws.specs.Doing.{entry_at}
use Rattle.queue_laws.proofs.Asked.{same_canceled}
use Rattle.queue_laws.proofs.Base.{at, rows_of, fresh, equal}
use Rattle.queue_laws.proofs.OneDone.{with_row_at}

or_false : (b : Bool) → b ≡ (b || false)
or_false true = refl
or_false false = refl

pub no_row : (n : ℕ) (es : List Entry) → entry_at n es ≡ None → at n es ≡ None
no_row n [] none = refl
no_row n (f ∷ es) none =
    elim (nat_eq f.row.number n) as (λ t. cond t (Some f) (entry_at n es) ≡ None → cond t (Some f.row) (at n es) ≡ None) [
      | true ↦ λ none. absurd (none-some f (sym none))
      | false ↦ λ none. no_row n es none
    ] none

-- ---- rows that are put

pub other_row_at : (n : ℕ) (x : Job) (es : List Entry) → nat_eq x.number n ≡ false → entry_at n (with_row es x) ≡ entry_at n es
other_row_at n x [] other = ap (λ t. cond t (Some (fresh x)) None) other
other_row_at n x (f ∷ es) other =
    elim (nat_eq f.row.number x.number) as (λ t. nat_eq f.row.number x.number ≡ t → entry_at n (cond t (record f { row = x } ∷ es) (f ∷ with_row es x)) ≡ cond (nat_eq f.row.number n) (Some f) (entry_at n es)) [
      | true ↦ λ is. ap (λ t. cond t (Some (record f { row = x })) (entry_at n es)) other ∙ sym (ap (λ t. cond t (Some f) (entry_at n es)) (ap (λ m. nat_eq m n) (equal f.row.number x.number is) ∙ other))
      | false ↦ λ is. ap (λ o. cond (nat_eq f.row.number n) (Some f) o) (other_row_at n x es other)
    ] refl

module _ (now n : ℕ) where
  abbrev pub is_of : Job → Bool
  is_of k = nat_eq k.number n

  pub stays_at : (ks : List Job) (es : List Entry) → Each (λ k. is_of k ≡ false) ks → entry_at n (fold with_row es (map (canceled now) ks)) ≡ entry_at n es
  stays_at [] es each = refl
  stays_at (k ∷ ks) es each = stays_at ks (with_row es (canceled now k)) each.1 ∙ other_row_at n (canceled now k) es (ap (λ m. nat_eq m n) (same_canceled ByUser now k k.phase).number ∙ each.0)

  -- the job as it was, or canceled
  abbrev pub once : Entry → Bool → Entry
  once e b = record e { row = cond b (canceled now e.row) e.row }

  pub canceled_at : (e : Entry) (ks : List Job) (es : List Entry) (b : Bool) → Each (λ k. is_of k ≡ true → k ≡ e.row) ks → entry_at n es ≡ Some (once e b) → entry_at n (fold with_row es (map (canceled now) ks)) ≡ Some (once e (b || list_any is_of ks))
  canceled_at e [] es b each before = before ∙ ap (λ b. Some (once e b)) (or_false b)
  canceled_at e (k ∷ ks) es b each before =
      elim (nat_eq k.number n) as (λ t. nat_eq k.number n ≡ t → entry_at n (fold with_row (with_row es (canceled now k)) (map (canceled now) ks)) ≡ Some (once e (b || (t || list_any is_of ks)))) [
        | true ↦ λ is.
            let put : entry_at n (with_row es (canceled now k)) ≡ Some (once e true) = with_row_at n (canceled now k) es (once e b) ((same_canceled ByUser now k k.phase).number ∙ equal k.number n is) before ∙ ap (λ j. Some (record e { row = canceled now j })) (each.0 is) in
            canceled_at e ks (with_row es (canceled now k)) true each.1 put ∙ ap (λ b. Some (once e b)) (sym (or_right b true refl))
        | false ↦ λ is. canceled_at e ks (with_row es (canceled now k)) b each.1 (other_row_at n (canceled now k) es (ap (λ m. nat_eq m n) (same_canceled ByUser now k k.phase).number ∙ is) ∙ before)
      ] refl

-- ---- whether the job of a number is among those that are chosen

pub both_filters : (p q : Job → Bool) (js : List Job) → filter p (filter q js) ≡ filter (λ j. q j && p j) js
both_filters p q [] = refl
both_filters p q (j ∷ js) =
    elim (q j) as (λ b. filter p (cond b (j ∷ filter q js) (filter q js)) ≡ cond (b && p j) (j ∷ filter (λ j. q j && p j) js) (filter (λ j. q j && p j) js)) [
      | true ↦ ap (λ t. cond (p j) (j ∷ t) t) (both_filters p q js)
      | false ↦ both_filters p q js
    ]

module _ (n next : ℕ) (c : Job → Bool) where
  abbrev chosen : List Entry → List Job
  chosen es = filter c (rows_of es)

  abbrev has : List Job → Bool
  has ks = list_any (λ k. nat_eq k.number n) ks

  none_later : (first : ℕ) (es : List Entry) → n < first → Rise first es next → has (chosen es) ≡ false
  none_later first [] low rise = refl
  none_later first (f ∷ es) low rise =
      let least = rise.0 in
      let rest : has (chosen es) ≡ false = none_later (f.row.number + 1) es (omega arith) rise.1 in
      elim (c f.row) as (λ b. has (cond b (f.row ∷ chosen es) (chosen es)) ≡ false) [
        | true ↦ ap (λ t. t || has (chosen es)) (ne_eqb f.row.number n (λ same. omega arith)) ∙ rest
        | false ↦ rest
      ]

  pub has_chosen : (first : ℕ) (es : List Entry) (e : Entry) → Rise first es next → entry_at n es ≡ Some e → has (chosen es) ≡ c e.row
  has_chosen first [] e rise there = absurd (none-some e there)
  has_chosen first (f ∷ es) e rise there =
      elim (nat_eq f.row.number n) as (λ t. nat_eq f.row.number n ≡ t → cond t (Some f) (entry_at n es) ≡ Some e → has (cond (c f.row) (f.row ∷ chosen es) (chosen es)) ≡ c e.row) [
        | true ↦ λ is there.
            let rest : has (chosen es) ≡ false = none_later (f.row.number + 1) es (let here = equal f.row.number n is in omega arith) rise.1 in
            elim (c f.row) as (λ b. has (cond b (f.row ∷ chosen es) (chosen es)) ≡ b) [
              | true ↦ ap (λ t. t || has (chosen es)) is
              | false ↦ rest
            ] ∙ ap (λ (x : Entry). c x.row) (same_Some f e there)
        | false ↦ λ is there.
            elim (c f.row) as (λ b. has (cond b (f.row ∷ chosen es) (chosen es)) ≡ has (chosen es)) [
              | true ↦ ap (λ t. t || has (chosen es)) is
              | false ↦ refl
            ] ∙ has_chosen (f.row.number + 1) es e rise.1 there
      ] refl there

  -- one of those that are chosen doesn't pass
  pub not_all : (d : Job → Bool) (es : List Entry) (e : Entry) → entry_at n es ≡ Some e → c e.row ≡ true → d e.row ≡ false → list_all d (chosen es) ≡ false
  not_all d [] e there is isnt = absurd (none-some e there)
  not_all d (f ∷ es) e there is isnt =
      elim (nat_eq f.row.number n) as (λ t. cond t (Some f) (entry_at n es) ≡ Some e → list_all d (cond (c f.row) (f.row ∷ chosen es) (chosen es)) ≡ false) [
        | true ↦ λ there.
            let same : f.row ≡ e.row = ap (λ (x : Entry). x.row) (same_Some f e there) in
            ap (λ b. list_all d (cond b (f.row ∷ chosen es) (chosen es))) (ap c same ∙ is) ∙ ap (λ b. b && list_all d (chosen es)) (ap d same ∙ isnt)
        | false ↦ λ there.
            let rest : list_all d (chosen es) ≡ false = not_all d es e there is isnt in
            elim (c f.row) as (λ b. list_all d (cond b (f.row ∷ chosen es) (chosen es)) ≡ false) [
              | true ↦ ap (λ b. d f.row && b) rest ∙ and_right (d f.row) false refl
              | false ↦ rest
            ]
      ] there
