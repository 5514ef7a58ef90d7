-- What a hash table has is what a map of its entries has.
use Rattle.std.proofs.Common.{◌≡◌, List, [], ◌∷◌, refl, ap, sym, ◌∙◌, Bool, cond}
use Rattle.std.specs.Prelude.{Some}
use Rattle.std.specs.Cmp.{IsTotalOrder, eq_by_cmp_equiv}
use Rattle.std.specs.FinMap.{IsAntisymmetric, find, from_entries, get, get-from_entries, get-insert, insert, same_map}
use Rattle.std.specs.Map.{lookup}
use Rattle.std.specs.Ordering.{eq_by_cmp}
use Rattle.std.specs.declared.cmp.Ordering.{Ordering}

-- at keys whose order and whose test of equality say the same
module _ {K X : Type 0} (R : K → K → Ordering) (total : IsTotalOrder R) (exact : IsAntisymmetric R) (eq : K → K → Bool) (tied : (x y : K) → eq_by_cmp R x y ≡ eq x y) where
  find_is : (es : List (K × X)) (q : K) → find R q es ≡ lookup (eq q) es
  find_is [] q = refl
  find_is (e ∷ es) q = ap (λ b. cond b (Some e.1) (find R q es)) (tied q e.0) ∙ ap (cond (eq q e.0) (Some e.1)) (find_is es q)

  pub value_at : (es : List (K × X)) (q : K) → get (from_entries {R = R} es) q ≡ lookup (eq q) es
  value_at es q = get-from_entries total es q ∙ find_is es q

  -- a table that has v at k, and else what the other has
  pub put_at_key : (es fs : List (K × X)) (k : K) (v : X) → ((q : K) → lookup (eq q) fs ≡ cond (eq k q) (Some v) (lookup (eq q) es)) → from_entries {R = R} fs ≡ insert (from_entries es) k v
  put_at_key es fs k v puts = same_map total exact _ _ (λ q.
      value_at fs q ∙ puts q
      ∙ ap (λ b. cond b (Some v) (lookup (eq q) es)) (sym (tied k q) ∙ (eq_by_cmp_equiv total).symm k q)
      ∙ ap (cond (eq_by_cmp R q k) (Some v)) (sym (value_at es q))
      ∙ sym (get-insert total (from_entries es) k v q))

  -- two tables that answer alike are one map
  pub same_at_keys : (es fs : List (K × X)) → ((q : K) → lookup (eq q) fs ≡ lookup (eq q) es) → from_entries {R = R} fs ≡ from_entries es
  same_at_keys es fs alike = same_map total exact _ _ (λ q. value_at fs q ∙ alike q ∙ sym (value_at es q))
