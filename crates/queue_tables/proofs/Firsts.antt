-- One row, or none.
use Rattle.std.proofs.Common.{◌≡◌, List, [], ◌∷◌, Option, None, Some, slice_get, refl, sym, subst}
use Rattle.std.specs.List.Sorted.{IsPermutation}
use Rattle.sqlite.specs.Order.{Row}
use Rattle.sqlite.proofs.Callers.{one_permutation}
use Rattle.queue_tables.proofs.Changing.{none_permuted}

module _ {X : Type 0} (values : X → Row) where
  abbrev pub rows_for : Option X → List Row
  rows_for None = []
  rows_for (Some x) = values x ∷ []

  pub exactly : (o : Option X) (rs : List Row) → IsPermutation (rows_for o) rs → rs ≡ rows_for o
  exactly None rs p = none_permuted rs p
  exactly (Some x) rs p = one_permutation (values x) rs p

  pub first_none : (rs : List Row) (o : Option X) → slice_get rs 0 ≡ None → rs ≡ rows_for o → o ≡ None
  first_none rs None none is = refl
  first_none rs (Some x) none is = absurd (let e : ◌≡◌ {A = Option Row} (Some (values x)) None = subst (λ (k : List Row). slice_get k 0 ≡ None) is none in cc)

  pub first_some : (rs : List Row) (row : Row) (o : Option X) → slice_get rs 0 ≡ Some row → rs ≡ rows_for o → (x : X) × (o ≡ Some x) × (row ≡ values x)
  first_some rs row None some is = absurd (let e : ◌≡◌ {A = Option Row} None (Some row) = subst (λ (k : List Row). slice_get k 0 ≡ Some row) is some in cc)
  first_some rs row (Some x) some is =
      let first : ◌≡◌ {A = Option Row} (Some (values x)) (Some row) = subst (λ (l : List Row). slice_get l 0 ≡ Some row) is some in
      let same : values x ≡ row = cc in
      (x, refl, sym same)
