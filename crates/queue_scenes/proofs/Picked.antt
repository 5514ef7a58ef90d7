-- The jobs of given numbers, one number after another.
use Rattle.std.proofs.Common.{◌≡◌, inl, inr, ℕ, zero, suc, ◌+◌, ◌<◌, ◌≤◌, List, [], ◌∷◌, ◌++◌, filter, take, length, get_or, Bool, false, ◌&&◌, ◌||◌, ◌==◌, refl, sym, ap, ap₂, subst, ◌∙◌, arith, is_eq, Less, All, Result, Ok, Err, is_ok}
use mathlib.Core.Bool.{and-false, and-true, or-false}
use Rattle.std.specs.List.{list_any, AllByRecursion as Each}
use Rattle.std.specs.List.Sorted.{IsBinarySearchResult, IsStrictlySortedBy}
use Rattle.std.specs.Cmp.{nat_eq_equiv, unsigned_tied}
use Rattle.std.specs.Ordering.{nat_cmp}
use Rattle.std.proofs.lemmas.Bool.{and_right, cases_Bool, eq-eqb, eqb-true, ne_eqb}
use Rattle.std.proofs.lemmas.Cmp.{ranked}
use Rattle.std.proofs.lemmas.List.{get_or_default, take_more}
use Rattle.std.proofs.lemmas.List.Elements.{All-append, All-filter}
use Rattle.std.proofs.lemmas.List.Folds.{list_any-append, list_any_at, list_any_none}
use Rattle.std.proofs.lemmas.List.Sorted.{searched}
use Rattle.std.proofs.lemmas.Map.Keys.{non_decreasing_from_sorted}
use Rattle.sqlite_keyed.proofs.ListLemmas.{all_weaker, any_from_none, filter_none}
use Rattle.queue_core.specs.World.{is_one_of, numbered}
use Rattle.queue_types.specs.declared.job.Job.{Job}
use Rattle.queue_scenes.proofs.Numbers.{AreRising}

abbrev pub has : ℕ → List ℕ → Bool
has q ns = list_any (λ n. n == q) ns

-- ---- a set's keys

pub has_key : (q : ℕ) (ks : List ℕ) → has q ks ≡ list_any (λ k. is_eq (nat_cmp q k)) ks
has_key q [] = refl
has_key q (k ∷ ks) = ap₂ ◌||◌ (nat_eq_equiv.symm k q ∙ sym (unsigned_tied q k)) (has_key q ks)

-- ---- rising numbers

beside : (i k n q : ℕ) → (k < i → n < q) → (i ≤ k → q < n) → n ≡ q → ⊥
beside i k n q before behind same = grind arith

-- what is found among them
pub found_among : (ns : List ℕ) (q : ℕ) (r : Result ℕ ℕ) → IsBinarySearchResult (λ n. nat_cmp n q) ns r → IsStrictlySortedBy nat_cmp ns → is_ok r ≡ has q ns
found_among ns q (Ok i) found rise =
    let at = searched ns q (Ok i) found (λ a b le lt. non_decreasing_from_sorted ns rise a b 0 le lt) in
    sym (list_any_at (λ n. n == q) ns i 0 at.0 (eq-eqb (get_or ns i 0) q at.1))
found_among ns q (Err i) found rise =
    let at = searched ns q (Err i) found (λ a b le lt. non_decreasing_from_sorted ns rise a b 0 le lt) in
    sym (list_any_none (λ n. n == q) ns (λ k d low. ne_eqb (get_or ns k d) q (λ same.
    beside i k (get_or ns k 0) q (at.1 k) (λ past. at.2 k past low) (sym (get_or_default ns k d 0 low) ∙ same))))

-- each of the first numbers is below the next
pub before_next : (ns : List ℕ) (i k : ℕ) → IsStrictlySortedBy nat_cmp ns → i < length ns → k ≡ get_or ns i k → Each (λ n. n < k) (take i ns)
unfolding IsStrictlySortedBy
before_next [] i k rise low is = absurd (omega (arith, low))
before_next (n ∷ ns) zero k rise low is = tt
before_next (n ∷ ns) (suc i) k rise low is = (ranked n k Less (sym (each_at ns i k rise.0 (omega (arith, low)) is)), before_next ns i k rise.1 (omega (arith, low)) is)
  where
    each_at : (ns : List ℕ) (i k : ℕ) → Each (λ y. nat_cmp n y ≡ Less) ns → i < length ns → k ≡ get_or ns i k → nat_cmp n k ≡ Less
    each_at [] i k all low is = absurd (omega (arith, low))
    each_at (m ∷ ns) zero k all low is = subst (λ y. nat_cmp n y ≡ Less) (sym is) all.0
    each_at (m ∷ ns) (suc i) k all low is = each_at ns i k all.1 (omega (arith, low)) is

-- ---- one number more

has_push : (q k : ℕ) (ns : List ℕ) → has q (ns ++ k ∷ []) ≡ (has q ns || k == q)
has_push q k ns = list_any-append (λ n. n == q) ns (k ∷ []) ∙ ap (λ (b : Bool). has q ns || b) (or-false (k == q))

has_none : (q : ℕ) (ns : List ℕ) → Each (λ n. n < q) ns → has q ns ≡ false
has_none q ns all = any_from_none (λ n. n == q) ns (all_weaker (λ n. n < q) (λ n. (n == q) ≡ false) (λ n low. ne_eqb n q (λ same. omega (arith, low, same))) ns all)

pub none_numbered : (k : ℕ) (js : List Job) → Each (λ (j : Job). k < j.number) js → numbered k js ≡ []
none_numbered k js high =
    filter_none (λ (j : Job). j.number == k) js (all_weaker (λ (j : Job). k < j.number) (λ (j : Job). (j.number == k) ≡ false) (λ j low. ne_eqb j.number k (λ same. omega (arith, low, same))) js high)

module _ (p : Job → Bool) where
  abbrev pub picked : List ℕ → List Job → List Job
  picked ns js = filter (λ (j : Job). p j && has j.number ns) js

  none_picked : (ns : List ℕ) (k : ℕ) (js : List Job) → Each (λ n. n < k) ns → Each (λ (j : Job). k < j.number) js → picked ns js ≡ []
  none_picked ns k js all high =
      filter_none (λ (j : Job). p j && has j.number ns) js (all_weaker (λ (j : Job). k < j.number) (λ (j : Job). (p j && has j.number ns) ≡ false) (λ j low.
      and_right (p j) (has j.number ns) (has_none j.number ns (all_weaker (λ n. n < k) (λ n. n < j.number) (λ n l. omega (arith, l, low)) ns all))) js high)

  pub picked_more : (ns : List ℕ) (k : ℕ) (js : List Job) → Each (λ n. n < k) ns → AreRising js → picked (ns ++ k ∷ []) js ≡ picked ns js ++ filter p (numbered k js)
  picked_more ns k [] all rise = refl
  picked_more ns k (j ∷ js) all rise =
      let more = picked_more ns k js all rise.1 in
      let both : (p j && has j.number (ns ++ k ∷ [])) ≡ (p j && (has j.number ns || k == j.number)) = ap (λ (b : Bool). p j && b) (has_push j.number k ns) in
      elim (cases_Bool (j.number == k)) [
        | inl same ↦
            let is : j.number ≡ k = eqb-true j.number k same in
            let high : Each (λ (x : Job). k < x.number) js = subst (λ n. Each (λ (x : Job). n < x.number) js) is rise.0 in
            let out : has j.number ns ≡ false = has_none j.number ns (subst (λ n. Each (λ m. m < n) ns) (sym is) all) in
            let here : (p j && has j.number (ns ++ k ∷ [])) ≡ p j = both ∙ rw (out, nat_eq_equiv.symm k j.number ∙ same) (and-true (p j)) in
            let before : (p j && has j.number ns) ≡ false = and_right (p j) (has j.number ns) out in
            let rest : picked (ns ++ k ∷ []) js ≡ [] = more ∙ ap₂ ◌++◌ (none_picked ns k js all high) (ap (filter p) (none_numbered k js high)) in
            elim (cases_Bool (p j)) [
              | inl passes ↦ rw (here ∙ passes, before, same, none_picked ns k js all high, passes, none_numbered k js high, rest) refl
              | inr fails ↦ rw (here ∙ fails, before, same, none_picked ns k js all high, fails, none_numbered k js high, rest) refl
            ]
        | inr apart ↦
            let here : (p j && has j.number (ns ++ k ∷ [])) ≡ (p j && has j.number ns) = both ∙ rw (nat_eq_equiv.symm k j.number ∙ apart) (ap (λ (b : Bool). p j && b) (or-false (has j.number ns))) in
            elim (cases_Bool (p j && has j.number ns)) [
              | inl passes ↦ rw (here ∙ passes, passes, apart) (ap (λ (xs : List Job). j ∷ xs) more)
              | inr fails ↦ rw (here ∙ fails, fails, apart) more
            ]
      ]

  pub picked_none : (js : List Job) → picked [] js ≡ []
  picked_none [] = refl
  picked_none (j ∷ js) = rw (and-false (p j)) (picked_none js)

-- the same numbers pick the same jobs
pub picked_same : (p : Job → Bool) (ms ns : List ℕ) → ((q : ℕ) → has q ms ≡ has q ns) → (js : List Job) → filter (λ (j : Job). p j && has j.number ms) js ≡ filter (λ (j : Job). p j && is_one_of ns j) js
unfolding is_one_of
picked_same p ms ns same [] = refl
picked_same p ms ns same (j ∷ js) =
    let here : (p j && has j.number ms) ≡ (p j && has j.number ns) = ap (λ (b : Bool). p j && b) (same j.number) in
    elim (cases_Bool (p j && has j.number ns)) [
      | inl passes ↦ rw (here ∙ passes, passes) (ap (λ (xs : List Job). j ∷ xs) (picked_same p ms ns same js))
      | inr fails ↦ rw (here ∙ fails, fails) (picked_same p ms ns same js)
    ]

-- those that pass a second test, among those that pass a first
pub picked_among : (p q : Job → Bool) (js : List Job) → filter q (filter p js) ≡ filter (λ (j : Job). p j && q j) js
picked_among p q [] = refl
picked_among p q (j ∷ js) = elim (cases_Bool (p j)) [
  | inl passes ↦ elim (cases_Bool (q j)) [ inl there ↦ rw (passes, there, picked_among p q js) refl | inr gone ↦ rw (passes, gone, picked_among p q js) refl ]
  | inr fails ↦ rw (fails, picked_among p q js) refl
]

pub taken_more : (ns : List ℕ) (i k : ℕ) → i < length ns → k ≡ get_or ns i k → take (i + 1) ns ≡ take i ns ++ k ∷ []
taken_more ns i k low is = take_more ns i k low ∙ ap (λ (n : ℕ). take i ns ++ n ∷ []) (sym is)

-- what all jobs have, those that are added have
pub all_more : (P : Job → Type 0) (p : Job → Bool) (xs ys : List Job) → All P xs → All P ys → All P (xs ++ filter p ys)
all_more P p xs ys front back = All-append P xs (filter p ys) front (All-filter p P ys back)
