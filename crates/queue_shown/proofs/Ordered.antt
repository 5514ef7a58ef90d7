-- A SELECT in the order of a number that no two of its rows share.
use Rattle.std.proofs.Common.{◌≡◌, inl, inr, ℕ, pos, ◌<◌, List, [], ◌∷◌, map, filter, Bool, refl, sym, ap, subst, ◌∙◌, arith, Less}
use Rattle.std.specs.Cmp.{int_cmp_is}
use Rattle.std.specs.List.Sorted.{IsPermutation, IsSorted}
use Rattle.std.proofs.lemmas.Bool.{cases_Bool}
use Rattle.std.proofs.lemmas.Int.{ints}
use Rattle.std.proofs.lemmas.List.Sorted.{IsPermutation-map, IsPermutation-trans}
use Rattle.sqlite_keyed.proofs.ListLemmas.{ascending-map, ascending_weaker}
use Rattle.sqlite_keyed.proofs.SortLemmas.{sorted_unique}
use Rattle.sqlite_sql.proofs.QueryLemmas.{output_cmp_total}
use Rattle.sqlite_trees.proofs.ListLemmas.{IsPermutation-filter}
use Rattle.sqlite_trees.specs.Tree.{IsAscending}
use Rattle.sqlite_value.proofs.OrderLemmas.{value_cmp-Int}
use Rattle.sqlite_value.specs.declared.keys.Key.{Key}
use Rattle.sqlite.specs.declared.types.Value.TheVariants.{Int}
use Rattle.sqlite.specs.Order.{Row, value_cmp}
use Rattle.sqlite.specs.Query.{Query, Output, output_cmp}
use Rattle.sqlite.specs.Term.{Term}
use Rattle.queue_tables.specs.Kept.{HasRows}
use Rattle.queue_tables.proofs.PlainQueries.{plain_query, passes}
use Rattle.queue_tables.proofs.Writing.{kept_of, sorted_and_shown, IsListing}

-- ---- from the rows of a table to the values that it holds

module _ (tree : ℕ) (terms project : List Term) (order : List (Term × Key)) (params : Row) (view : Row → Row) (test : Row → Bool) (out : Row → Output)
    (alike : (r : Row) → passes terms params r ≡ test (view r)) (shows : (r : Row) → sorted_and_shown order project params r ≡ out (view r)) where
  kept_view : (rs : List Row) → kept_of tree terms project order params rs ≡ map out (filter test (map view rs))
  kept_view [] = refl
  kept_view (r ∷ rs) = elim (cases_Bool (test (view r))) [
    | inl through ↦
        rw (alike r, through) (ap (λ (o : Output). o ∷ kept_of tree terms project order params rs) (shows r) ∙ ap (λ (t : List Output). out (view r) ∷ t) (kept_view rs))
    | inr apart ↦ rw (alike r, apart) (kept_view rs)
  ]

  pub listed_values : {K : Type 0} (values rs rows : List Row) → HasRows K view values rs → IsListing tree terms project order params rs rows
      → (os : List Output) × IsPermutation (map out (filter test values)) os × IsSorted (output_cmp (plain_query tree terms project order)) os × (rows ≡ map (λ (o : Output). o.1) os)
  listed_values values rs rows has l =
      let moved = IsPermutation-map out _ _ (IsPermutation-filter test _ _ has.same) in
      let kept : IsPermutation (map out (filter test values)) (kept_of tree terms project order params rs) = subst (λ (t : List Output). IsPermutation (map out (filter test values)) t) (sym (kept_view rs)) moved in
      (l.ordered, IsPermutation-trans _ _ _ kept l.same, l.sorted, l.shown)

-- ---- one order alone

-- each number is below those after it
abbrev pub Rises : {X : Type 0} → (X → ℕ) → List X → Type 0
Rises {X} num = IsAscending (λ (a b : X). num a < num b)

pub less_value : (m n : ℕ) → m < n → value_cmp (Int (pos m)) (Int (pos n)) ≡ Less
less_value m n low = value_cmp-Int (pos m) (pos n) ∙ sym (int_cmp_is (pos m) (pos n) Less (omega (arith, ints)))

module _ {X : Type 0} (num : X → ℕ) (sent : X → Output) (q : Query) (before : (a b : X) → num a < num b → output_cmp q (sent a) (sent b) ≡ Less) where
  -- what is sorted by its numbers, which rise, stands in their order
  pub in_order : (xs : List X) (os : List Output) → Rises num xs → IsPermutation (map sent xs) os → IsSorted (output_cmp q) os → os ≡ map sent xs
  in_order xs os rise same sorted =
      let IsBefore = λ (o p : Output). output_cmp q o p ≡ Less in
      let strict : IsAscending IsBefore (map sent xs) = ascending-map IsBefore sent xs (ascending_weaker (λ (a b : X). num a < num b) (λ (a b : X). IsBefore (sent a) (sent b)) before xs rise) in
      sorted_unique (output_cmp q) (output_cmp_total q) (map sent xs) os strict same sorted
