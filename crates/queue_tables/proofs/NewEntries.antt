-- Maps with one more entry.
use Rattle.std.proofs.Common.{◌≡◌, List, [], ◌∷◌, ◌++◌, map, cond, Some, None, sym, subst, ◌∙◌, is_eq, Ordering, Less, Equal, Greater}
use Rattle.std.specs.FinMap.{FinMap, entries, put, find, get, get-entries, insert, entries-insert}
use Rattle.std.specs.FinMap.Entries.{by_order}
use Rattle.std.specs.Cmp.{IsTotalOrder}
use Rattle.std.specs.List.Sorted.{IsPermutation}
use Rattle.std.proofs.lemmas.List.Sorted.{IsPermutation-refl, IsPermutation-trans, IsPermutation-cons, IsPermutation-sym, IsPermutation-map}
use Rattle.sqlite.specs.Order.{Row}
use Rattle.queue_tables.proofs.Permuting.{swap_front}
use Rattle.queue_tables.proofs.Held.{at_end}

module _ {K X : Type 0} (R : K → K → Ordering) (k : K) (v : X) where
  put_by : (o : Ordering) (e : K × X) (es : List (K × X)) → (find R k es ≡ None → IsPermutation ((k, v) ∷ es) (put R k v es)) → cond (is_eq o) (Some e.1) (find R k es) ≡ None
      → IsPermutation ((k, v) ∷ e ∷ es) (by_order o ((k, v) ∷ e ∷ es) ((e.0, v) ∷ es) (e ∷ put R k v es))
  put_by Less e es more none = IsPermutation-refl ((k, v) ∷ e ∷ es)
  put_by Equal e es more none = absurd cc
  put_by Greater e es more none = IsPermutation-trans ((k, v) ∷ e ∷ es) (e ∷ (k, v) ∷ es) (e ∷ put R k v es) (swap_front (k, v) e es) (IsPermutation-cons e ((k, v) ∷ es) (put R k v es) (more none))

  -- an entry whose key is new is one more
  pub put_new : (es : List (K × X)) → find R k es ≡ None → IsPermutation ((k, v) ∷ es) (put R k v es)
  put_new [] none = IsPermutation-refl ((k, v) ∷ [])
  put_new (e ∷ es) none = put_by (R k e.0) e es (put_new es) none

-- what is made of the entries has one row more
pub rows_with : {K X : Type 0} {R : K → K → Ordering} → IsTotalOrder R → (f : K × X → Row) (m : FinMap R X) (k : K) (v : X) → get m k ≡ None
    → IsPermutation (map f (entries m) ++ f (k, v) ∷ []) (map f (entries (insert m k v)))
rows_with {K} {X} {R} total f m k v none =
    let more : IsPermutation ((k, v) ∷ entries m) (entries (insert m k v)) = subst (IsPermutation ((k, v) ∷ entries m)) (sym (entries-insert total m k v)) (put_new R k v (entries m) (sym (get-entries m k) ∙ none)) in
    IsPermutation-trans (map f (entries m) ++ f (k, v) ∷ []) (f (k, v) ∷ map f (entries m)) (map f (entries (insert m k v)))
    (IsPermutation-sym (f (k, v) ∷ map f (entries m)) (map f (entries m) ++ f (k, v) ∷ []) (at_end (f (k, v)) (map f (entries m))))
    (IsPermutation-map f ((k, v) ∷ entries m) (entries (insert m k v)) more)
