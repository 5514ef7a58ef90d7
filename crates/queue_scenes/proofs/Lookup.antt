-- The entry of one key among those of a map, and the row of it that a SELECT shows.
use Rattle.std.proofs.Common.{◌≡◌, inl, inr, List, [], ◌∷◌, map, filter, Bool, false, T, Option, Some, None, refl, sym, ap, subst, ◌∙◌, is_eq, is_lt, Ordering, Less, Equal, slice_get}
use Rattle.std.specs.List.{AllByRecursion as Each}
use Rattle.std.specs.List.Sorted.{IsPermutation}
use Rattle.std.specs.FinMap.{FinMap, get, get-entries, entries, entries_sorted, is_sorted, find}
use Rattle.std.specs.FinMap.Entries.{below_all}
use Rattle.std.specs.Cmp.{Equal-is}
use Rattle.std.proofs.lemmas.Bool.{cases_Bool}
use Rattle.std.proofs.lemmas.List.Elements.{filter_agree}
use Rattle.sqlite.specs.Order.{Row}
use Rattle.sqlite.proofs.Callers.{one_permutation}
use Rattle.sqlite_keyed.proofs.ListLemmas.{filter-map}
use Rattle.queue_tables.proofs.Accounts.{T_first, T_second}
use Rattle.queue_tables.proofs.Changing.{none_permuted}

less_of : (o : Ordering) → T (is_lt o) → is_eq o ≡ false
less_of Less h = refl
less_of _ h = absurd h

-- ---- entries

-- the entry, where there is a value
abbrev pub entry_of : {K X : Type 0} → K → Option X → List (K × X)
entry_of k None = []
entry_of k (Some x) = (k, x) ∷ []

module _ {K X : Type 0} (cmp : K → K → Ordering) (exact : (a b : K) → cmp a b ≡ Equal → a ≡ b) (k : K) (q : K × X → Bool) (tells : (e : K × X) → q e ≡ is_eq (cmp k e.0)) where
  none_below : (es : List (K × X)) → T (below_all cmp k es) → filter q es ≡ []
  none_below [] low = refl
  none_below (e ∷ es) low = rw (tells e ∙ less_of (cmp k e.0) (T_first _ _ low)) (none_below es (T_second _ _ low))

  found_among : (es : List (K × X)) → T (is_sorted cmp es) → filter q es ≡ entry_of k (find cmp k es)
  found_among [] rise = refl
  found_among (e ∷ es) rise = elim (cases_Bool (is_eq (cmp k e.0))) [
    | inl same ↦
        let is : k ≡ e.0 = exact k e.0 ((Equal-is (cmp k e.0)).0 same) in
        let others : filter q es ≡ [] = none_below es (subst (λ (j : K). T (below_all cmp j es)) (sym is) (T_first _ _ rise)) in
        rw (tells e ∙ same, same, others) (ap (λ (j : K). (j, e.1) ∷ []) (sym is))
    | inr apart ↦ rw (tells e ∙ apart, apart) (found_among es (T_second _ _ rise))
  ]

  pub found_in : (m : FinMap cmp X) → filter q (entries m) ≡ entry_of k (get m k)
  found_in m = found_among (entries m) (entries_sorted m) ∙ ap (entry_of k) (sym (get-entries m k))

-- ---- rows

-- the rows that pass are those of the values that pass
pub rows_passing : {X : Type 0} (row_of : X → Row) (q : Row → Bool) (p : X → Bool) → ((x : X) → q (row_of x) ≡ p x) → (xs : List X) → filter q (map row_of xs) ≡ map row_of (filter p xs)
rows_passing row_of q p same xs = filter-map q row_of xs ∙ ap (map row_of) (filter_agree (λ x. q (row_of x)) p same xs)

pub map_alike : {X Y : Type 0} (f g : X → Y) (xs : List X) → Each (λ x. f x ≡ g x) xs → map f xs ≡ map g xs
map_alike f g [] all = refl
map_alike f g (x ∷ xs) all = rw (all.0, map_alike f g xs all.1) refl

module _ {K X : Type 0} (k : K) (row_of : K × X → Row) where
  -- one row at most, so there is one order alone
  pub exactly : (o : Option X) (rs : List Row) → IsPermutation (map row_of (entry_of k o)) rs → rs ≡ map row_of (entry_of k o)
  exactly None rs p = none_permuted rs p
  exactly (Some x) rs p = one_permutation (row_of (k, x)) rs p

  pub none_found : (o : Option X) (rs : List Row) → slice_get rs 0 ≡ None → rs ≡ map row_of (entry_of k o) → o ≡ None
  none_found None rs none is = refl
  none_found (Some x) rs none is = absurd (let e : ◌≡◌ {A = Option Row} (Some (row_of (k, x))) None = subst (λ (l : List Row). slice_get l 0 ≡ None) is none in cc)

  pub some_found : (o : Option X) (rs : List Row) (row : Row) → slice_get rs 0 ≡ Some row → rs ≡ map row_of (entry_of k o) → (x : X) × (o ≡ Some x) × (row ≡ row_of (k, x))
  some_found None rs row some is = absurd (let e : ◌≡◌ {A = Option Row} None (Some row) = subst (λ (l : List Row). slice_get l 0 ≡ Some row) is some in cc)
  some_found (Some x) rs row some is =
      let e : ◌≡◌ {A = Option Row} (Some (row_of (k, x))) (Some row) = subst (λ (l : List Row). slice_get l 0 ≡ Some row) is some in
      let same : row_of (k, x) ≡ row = cc in
      (x, refl, sym same)
