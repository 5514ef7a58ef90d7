-- The keys of grants and reports.
use Rattle.std.proofs.Common.{◌≡◌, ℕ, ◌+◌, List, [], ◌∷◌, refl, ap, sym, ◌∙◌, arith, Bool, true, false, ◌&&◌}
use Rattle.std.specs.Prelude.{None, sum_by}
use Rattle.std.specs.FinMap.{FinMap, get, insert, entries, entries-insert, get-entries, find, put}
use Rattle.std.specs.FinMap.Entries.{by_order}
use Rattle.std.specs.Ordering.{is_eq, eq_by_cmp, nat_cmp, ordering_then}
use Rattle.std.specs.declared.cmp.Ordering.{Ordering}
use Rattle.std.specs.declared.cmp.Ordering.TheVariants.{Less, Equal, Greater}
use Rattle.std.specs.Cmp.{unsigned_tied, eq_by_cmp_equiv}
use Rattle.std.proofs.lemmas.Bool.{and_parts, eqb-true}
use Rattle.std.proofs.lemmas.List.Sums.{sum_by-cons}
use Rattle.std.proofs.lemmas.Map.Text.{is_eq-slice_cmp}
use Rattle.queue_core.specs.World.{grant_cmp, report_cmp, text_cmp}
pub use Rattle.queue_core.specs.World.{grant_total, report_total}
use Rattle.queue_core.proofs.Keep.{no_value, same_key}

abbrev pub is_report_key : ℕ × ℕ → ℕ × ℕ → Bool
is_report_key q k = eq_by_cmp report_cmp q k

abbrev pub is_grant_key : List ℕ × List ℕ → List ℕ × List ℕ → Bool
is_grant_key q k = eq_by_cmp grant_cmp q k

-- two comparisons in turn are equal where both are
pub both_equal : (a b : Ordering) → is_eq (ordering_then a b) ≡ (is_eq a && is_eq b)
both_equal Equal b = refl
both_equal _ b = refl

pub own_report_key : (n s : ℕ) → is_report_key (n, s) (n, s) ≡ true
own_report_key n s = (eq_by_cmp_equiv report_total).refl (n, s)

pub own_grant_key : (a b : List ℕ) → is_grant_key (a, b) (a, b) ≡ true
own_grant_key a b = (eq_by_cmp_equiv grant_total).refl (a, b)

pub report_key : (n s m t : ℕ) → is_report_key (n, s) (m, t) ≡ true → (n ≡ m) × (s ≡ t)
report_key n s m t e =
    let both = and_parts (is_eq (nat_cmp n m)) (is_eq (nat_cmp s t)) (sym (both_equal (nat_cmp n m) (nat_cmp s t)) ∙ e) in
    (eqb-true n m (sym (unsigned_tied n m) ∙ both.0), eqb-true s t (sym (unsigned_tied s t) ∙ both.1))

pub grant_key : (a b c d : List ℕ) → is_grant_key (a, b) (c, d) ≡ true → (a ≡ c) × (b ≡ d)
grant_key a b c d e =
    let both = and_parts (is_eq (text_cmp a c)) (is_eq (text_cmp b d)) (sym (both_equal (text_cmp a c) (text_cmp b d)) ∙ e) in
    (same_key a c (sym (is_eq-slice_cmp a c) ∙ both.0), same_key b d (sym (is_eq-slice_cmp b d) ∙ both.1))

-- a new key adds its part to a sum
sum-put : (f : (List ℕ × List ℕ) × ℕ → ℕ) (k : List ℕ × List ℕ) (v : ℕ) (es : List ((List ℕ × List ℕ) × ℕ)) → find grant_cmp k es ≡ None → sum_by f (put grant_cmp k v es) ≡ sum_by f es + f (k, v)
sum-put f k v [] none = omega (arith, sum_by-cons f (k, v) [])
sum-put f k v (e ∷ es) none =
    let split = no_value (is_eq (grant_cmp k e.0)) e.1 (find grant_cmp k es) none in
    elim (grant_cmp k e.0) as (λ o. is_eq o ≡ false → sum_by f (by_order o ((k, v) ∷ e ∷ es) ((e.0, v) ∷ es) (e ∷ put grant_cmp k v es)) ≡ sum_by f (e ∷ es) + f (k, v)) [
      | Less ↦ λ apart. omega (arith, sum_by-cons f (k, v) (e ∷ es))
      | Equal ↦ λ apart. absurd (cc)
      | Greater ↦ λ apart. let more = sum-put f k v es split.1 in omega (arith, sum_by-cons f e (put grant_cmp k v es), sum_by-cons f e es, more)
    ] split.0

pub sum-insert : (f : (List ℕ × List ℕ) × ℕ → ℕ) (m : FinMap grant_cmp ℕ) (k : List ℕ × List ℕ) (v : ℕ) → get m k ≡ None → sum_by f (entries (insert m k v)) ≡ sum_by f (entries m) + f (k, v)
sum-insert f m k v none = ap (sum_by f) (entries-insert grant_total m k v) ∙ sum-put f k v (entries m) (sym (get-entries m k) ∙ none)
