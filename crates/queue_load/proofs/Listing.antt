-- What a SELECT of a whole table shows.
use Rattle.std.proofs.Common.{◌≡◌, ℕ, ◌+◌, ◌<◌, List, [], ◌∷◌, ◌++◌, map, take, length, All, false, refl, sym, ap, subst, ◌∙◌, arith, slice_index_or}
use Rattle.std.proofs.lemmas.List.{length-map}
use Rattle.std.proofs.Math.ListN.{get_or-map}
use Rattle.std.specs.List.Sorted.{IsPermutation, IsSorted}
use Rattle.std.specs.Ordering.{is_lt}
use Rattle.std.specs.declared.cmp.Ordering.{Ordering}
use Rattle.std.proofs.lemmas.List.Sorted.{All-permutation, IsPermutation-map, IsPermutation-sym}
use Rattle.std.proofs.lemmas.List.Elements.{All-map, All-tail}
use Rattle.sqlite.specs.Order.{Row}
use Rattle.sqlite.specs.Term.{Term, eval_all}
use Rattle.sqlite_value.specs.declared.keys.Key.{Key}
use Rattle.sqlite.specs.Query.{Query, output_cmp, Output}
use Rattle.queue_tables.proofs.PlainQueries.{plain_query, shown_of}
use Rattle.queue_tables.proofs.Writing.{kept_of, IsListing}

-- a row with the part by which it is sorted
abbrev pub sorted_by : ℕ → Row → Output
sorted_by k v = (take k v, v)

seconds : (k : ℕ) (vs : List Row) → map (λ (o : Output). o.1) (map (sorted_by k) vs) ≡ vs
seconds k [] = refl
seconds k (v ∷ vs) = ap (λ (t : List Row). v ∷ t) (seconds k vs)

again : (k : ℕ) (os : List Output) → All (λ o. o ≡ sorted_by k o.1) os → os ≡ map (sorted_by k) (map (λ (o : Output). o.1) os)
again k [] all = refl
again k (o ∷ os) all =
    let first : o ≡ sorted_by k o.1 = all 0 o (omega arith) in
    let rest : os ≡ map (sorted_by k) (map (λ (p : Output). p.1) os) = again k os (All-tail (λ p. p ≡ sorted_by k p.1) o os all) in
    ap (λ (p : Output). p ∷ os) first ∙ ap (λ (t : List Output). sorted_by k o.1 ∷ t) rest

-- the element after the first ones
pub all_at : {X : Type 0} (P : X → Type 0) (xs : List X) (y : X) (zs : List X) → All P ((xs ++ y ∷ []) ++ zs) → P y
all_at P [] y zs all = all 0 y (omega arith)
all_at P (x ∷ xs) y zs all = all_at P xs y zs (All-tail P x _ all)

module _ (tree : ℕ) (project : List Term) (order : List (Term × Key)) (k : ℕ)
    (leads : (r : Row) → eval_all (map (λ t. t.0) order) ([] ∷ r ∷ []) ≡ take k (shown_of project [] r)) where
  kept_pairs : (rs : List Row) → kept_of tree [] project order [] rs ≡ map (sorted_by k) (map (shown_of project []) rs)
  kept_pairs [] = refl
  kept_pairs (r ∷ rs) = ap (λ (a : Row). (a, shown_of project [] r) ∷ kept_of tree [] project order [] rs) (leads r) ∙ ap (λ (t : List Output). sorted_by k (shown_of project [] r) ∷ t) (kept_pairs rs)

  -- the rows of the table in another order, which ORDER BY allows
  pub listing_is : (rs rows : List Row) → IsListing tree [] project order [] rs rows
      → IsPermutation rows (map (shown_of project []) rs) × IsSorted (output_cmp (plain_query tree [] project order)) (map (sorted_by k) rows)
  listing_is rs rows it =
      let q = plain_query tree [] project order in
      let views = map (shown_of project []) rs in
      let same : IsPermutation (map (sorted_by k) views) it.ordered = subst (λ (t : List Output). IsPermutation t it.ordered) (kept_pairs rs) it.same in
      let pairs : All (λ o. o ≡ sorted_by k o.1) (map (sorted_by k) views) = All-map (λ o. o ≡ sorted_by k o.1) (sorted_by k) views (λ i d low. refl) in
      let ordered : it.ordered ≡ map (sorted_by k) (map (λ (o : Output). o.1) it.ordered) = again k it.ordered (All-permutation (λ o. o ≡ sorted_by k o.1) _ it.ordered same pairs) in
      let moved : IsPermutation (map (λ (o : Output). o.1) (map (sorted_by k) views)) (map (λ (o : Output). o.1) it.ordered) = IsPermutation-map (λ (o : Output). o.1) _ it.ordered same in
      let both : IsPermutation views (map (λ (o : Output). o.1) it.ordered) = subst (λ (t : List Row). IsPermutation t (map (λ (o : Output). o.1) it.ordered)) (seconds k views) moved in
      let rows_are : map (λ (o : Output). o.1) it.ordered ≡ rows = sym it.shown in (
        IsPermutation-sym views rows (subst (λ (t : List Row). IsPermutation views t) rows_are both),
        subst (λ (t : List Output). IsSorted (output_cmp q) t) (ordered ∙ ap (map (sorted_by k)) rows_are) it.sorted,
      )

-- ---- typed rows

module _ {T : Type 0} (values : T → Row) (cmp : T → T → Ordering) (q : Query) (k : ℕ) (same : (a b : T) → output_cmp q (sorted_by k (values a)) (sorted_by k (values b)) ≡ cmp a b) where
  pub typed_sorted : (ts : List T) → IsSorted (output_cmp q) (map (sorted_by k) (map values ts)) → IsSorted cmp ts
  typed_sorted ts sorted = λ i d low high.
      let within : i + 1 < length (map (sorted_by k) (map values ts)) = omega (arith, length-map (map values ts) (sorted_by k), length-map ts values) in
      let h = sorted i (sorted_by k (values d)) low within in
      let at = λ (n : ℕ). get_or-map (sorted_by k) (map values ts) n (values d) ∙ ap (sorted_by k) (get_or-map values ts n d) in
      let late = at (i + 1) in
      let early = at i in
      ap is_lt (sym (same _ _)) ∙ subst (λ (o : Output). is_lt (output_cmp q o (sorted_by k (values (slice_index_or ts i d)))) ≡ false) late (subst (λ (o : Output). is_lt (output_cmp q (slice_index_or (map (sorted_by k) (map values ts)) (i + 1) (sorted_by k (values d))) o) ≡ false) early h)

-- a row that was given is one of the table's, so it is that of one of the typed rows
module _ {T : Type 0} (values : T → Row) (Formed : T → Type 0) (view : Row → Row) where
  pub given_is : (rs given rest : List Row) (row : Row) (ts : List T) → IsPermutation ((given ++ row ∷ []) ++ rest) (map view rs) → IsPermutation (map values ts) (map view rs) → All Formed ts
      → (t : T) × Formed t × (row ≡ values t)
  given_is rs given rest row ts listed are formed =
      let Is = λ (v : Row). (t : T) × Formed t × (v ≡ values t) in
      let each : All Is (map values ts) = All-map Is values ts (λ i d low. (slice_index_or ts i d, formed i d low, refl)) in
      let viewed : All Is (map view rs) = All-permutation Is _ _ are each in
      all_at Is given row rest (All-permutation Is _ _ (IsPermutation-sym _ _ listed) viewed)
