-- The rows of the accounts: their sums, and their free pages.
use Rattle.std.proofs.Common.{◌≡◌, ◌⊎◌, inl, inr, ℕ, ℤ, pos, negsuc, ◌+ℤ◌, ◌^◌, arith, List, [], ◌∷◌, map, filter, Bool, true, false, ◌&&◌, if◌then◌else◌, refl, sym, ap, subst, ◌∙◌, is_eq, is_lt, Ordering, Less, Equal, Greater}
use Rattle.std.specs.FinMap.{FinMap, entries, is_sorted, entries_sorted, entries-insert, put, insert}
use Rattle.std.specs.FinMap.Entries.{below_all}
use Rattle.std.specs.Prelude.{T}
use Rattle.std.specs.Ordering.{ordering_reverse}
use Rattle.std.specs.Prelude.{neg_ℤ, ◌≤ℤ◌}
use Rattle.std.proofs.lemmas.Bool.Decides.{nat_tests}
use Rattle.queue_tables.proofs.Permuting.{replaced_none}
use Rattle.std.specs.Cmp.Lexicographic.{nat_list_cmp_total}
use Rattle.std.proofs.lemmas.Bool.{cases_Bool}
use Rattle.std.proofs.lemmas.Map.Text.{is_eq-slice_cmp}
use Rattle.std.proofs.lemmas.Slice.Eq.{bytes_eq-Decides}
use Rattle.std.proofs.Common.{rules, bytes_eq}
use Rattle.sqlite.specs.Order.{Row, column}
use Rattle.sqlite.specs.Ops.{fits_i64}
use Rattle.queue_core.specs.World.{text_cmp}
use Rattle.queue_tables.specs.Kept.{replaced}
use Rattle.queue_tables.specs.Values.{account_values}
use Rattle.queue_tables.specs.Steps.{is_named, plus}
use Rattle.queue_tables.proofs.Numbers.{named_account}
use Rattle.queue_tables.proofs.Sums.{free_put}

-- accounts with these sums
abbrev pub account_rows : (List ℕ → ℤ) → (List ℕ → ℤ) → List (List ℕ × ℤ) → List Row
account_rows r p es = map (λ (a : List ℕ × ℤ). account_values a.0 a.1 (r a.0) (p a.0)) es

pub same_text : (a b : List ℕ) → bytes_eq a b ≡ true → a ≡ b
same_text a b e = search (rules, bytes_eq-Decides)

pub text_itself : (a : List ℕ) → bytes_eq a a ≡ true
text_itself a = search (rules, bytes_eq-Decides)

-- ---- sums

abbrev pub sums_put : ℤ → ℤ → Row → Row
sums_put x y v = column v 0 ∷ column v 1 ∷ plus x (column v 2) ∷ plus y (column v 3) ∷ []

abbrev pub added_at : List ℕ → ℤ → (List ℕ → ℤ) → List ℕ → ℤ
added_at name x r a = if bytes_eq a name then r a +ℤ x else r a

pub sums_of : (name : List ℕ) (x y : ℤ) (r p : List ℕ → ℤ) (es : List (List ℕ × ℤ)) → replaced (is_named name) (sums_put x y) (account_rows r p es) ≡ account_rows (added_at name x r) (added_at name y p) es
sums_of name x y r p [] = refl
sums_of name x y r p (a ∷ es) = elim (cases_Bool (bytes_eq a.0 name)) [
  | inl same ↦ rw (named_account name a.0 a.1 (r a.0) (p a.0) ∙ same, same, sums_of name x y r p es) refl
  | inr apart ↦ rw (named_account name a.0 a.1 (r a.0) (p a.0) ∙ apart, apart, sums_of name x y r p es) refl
]

pub sums_alike : (r p s t : List ℕ → ℤ) → ((a : List ℕ) → r a ≡ s a) → ((a : List ℕ) → p a ≡ t a) → (es : List (List ℕ × ℤ)) → account_rows r p es ≡ account_rows s t es
sums_alike r p s t one two [] = refl
sums_alike r p s t one two (a ∷ es) = rw (one a.0, two a.0, sums_alike r p s t one two es) refl

-- ---- an account has one row at most

pub T_first : (a b : Bool) → T (a && b) → T a
T_first true b h = tt
T_first false b h = h

pub T_second : (a b : Bool) → T (a && b) → T b
T_second true b h = h
T_second false b h = absurd h

T_both : (a b : Bool) → T a → T b → T (a && b)
T_both true b h k = k
T_both false b h k = absurd h

less_of : (o : Ordering) → T (is_lt o) → o ≡ Less
less_of Less h = refl
less_of _ h = absurd h

-- the test of a key by its place
by_place : (a b : List ℕ) (o : Ordering) → text_cmp b a ≡ o → bytes_eq a b ≡ is_eq (ordering_reverse o)
by_place a b o e = sym (is_eq-slice_cmp a b) ∙ ap is_eq (nat_list_cmp_total.antisymm a b) ∙ ap (λ o. is_eq (ordering_reverse o)) e

pub none_below : (name : List ℕ) (r p : List ℕ → ℤ) (es : List (List ℕ × ℤ)) → T (below_all text_cmp name es) → filter (is_named name) (account_rows r p es) ≡ []
none_below name r p [] low = refl
none_below name r p (a ∷ es) low =
    let here : bytes_eq a.0 name ≡ false = by_place a.0 name Less (less_of _ (T_first _ _ low)) in
    rw (named_account name a.0 a.1 (r a.0) (p a.0) ∙ here) (none_below name r p es (T_second _ _ low))

pub one_account : (name : List ℕ) (r p : List ℕ → ℤ) (es : List (List ℕ × ℤ)) → T (is_sorted text_cmp es)
    → (filter (is_named name) (account_rows r p es) ≡ []) ⊎ ((free : ℤ) × (filter (is_named name) (account_rows r p es) ≡ account_values name free (r name) (p name) ∷ []))
one_account name r p [] rise = inl refl
one_account name r p (a ∷ es) rise = elim (cases_Bool (bytes_eq a.0 name)) [
  | inl same ↦
      let is = same_text a.0 name same in
      let others = none_below name r p es (subst (λ k. T (below_all text_cmp k es)) is (T_first _ _ rise)) in
      inr (a.1, rw (named_account name a.0 a.1 (r a.0) (p a.0) ∙ same, others, is) refl)
  | inr apart ↦ rw (named_account name a.0 a.1 (r a.0) (p a.0) ∙ apart) (one_account name r p es (T_second _ _ rise))
]

-- ---- free pages

below_both : (x y : List ℕ) (es : List (List ℕ × ℤ)) → text_cmp x y ≡ Less → T (below_all text_cmp y es) → T (below_all text_cmp x es)
below_both x y [] less low = tt
below_both x y (e ∷ es) less low =
    T_both _ _ (subst (λ o. T (is_lt o)) (sym (nat_list_cmp_total.trans x y e.0 less (less_of _ (T_first _ _ low)))) tt) (below_both x y es less (T_second _ _ low))

-- the free pages of an account that is there
pub free_of : (name : List ℕ) (free : ℤ) (r p : List ℕ → ℤ) (es : List (List ℕ × ℤ)) → T (is_sorted text_cmp es) → (filter (is_named name) (account_rows r p es) ≡ [] → ⊥)
    → replaced (is_named name) (free_put free) (account_rows r p es) ≡ account_rows r p (put text_cmp name free es)
free_of name free r p [] rise there = absurd (there refl)
free_of name free r p (a ∷ es) rise there = at (text_cmp name a.0) (λ more. free_of name free r p es (T_second _ _ rise) more) refl
  where
    at : (o : Ordering) → ((filter (is_named name) (account_rows r p es) ≡ [] → ⊥) → replaced (is_named name) (free_put free) (account_rows r p es) ≡ account_rows r p (put text_cmp name free es)) → text_cmp name a.0 ≡ o → replaced (is_named name) (free_put free) (account_rows r p (a ∷ es)) ≡ account_rows r p (put text_cmp name free (a ∷ es))
    at Less more e = absurd (there (none_below name r p (a ∷ es) (T_both _ _ (subst (λ o. T (is_lt o)) (sym e) tt) (below_both name a.0 es e (T_first _ _ rise)))))
    at Equal more e =
        let same : bytes_eq a.0 name ≡ true = by_place a.0 name Equal e in
        let others = none_below name r p es (subst (λ k. T (below_all text_cmp k es)) (same_text a.0 name same) (T_first _ _ rise)) in
        rw (e, named_account name a.0 a.1 (r a.0) (p a.0) ∙ same, replaced_none (is_named name) (free_put free) (account_rows r p es) others) refl
    at Greater more e =
        let apart : bytes_eq a.0 name ≡ false = by_place a.0 name Greater e in
        let here = named_account name a.0 a.1 (r a.0) (p a.0) ∙ apart in
        rw (e, here) (ap (λ (rs : List Row). account_values a.0 a.1 (r a.0) (p a.0) ∷ rs) (more (λ none. there (rw here none))))

pub free_put_of : (m : FinMap text_cmp ℤ) (name : List ℕ) (free : ℤ) (r p : List ℕ → ℤ) → (filter (is_named name) (account_rows r p (entries m)) ≡ [] → ⊥)
    → replaced (is_named name) (free_put free) (account_rows r p (entries m)) ≡ account_rows r p (entries (insert m name free))
free_put_of m name free r p there = free_of name free r p (entries m) (entries_sorted m) there ∙ ap (account_rows r p) (sym (entries-insert nat_list_cmp_total m name free))

-- ---- sums that 64 bits hold

pub fits : (z : ℤ) → neg_ℤ (pos (2 ^ 62)) ≤ℤ z → z ≤ℤ pos (2 ^ 62) → fits_i64 z ≡ true
fits (pos n) low high = grind (arith, nat_tests)
fits (negsuc n) low high = grind (arith, nat_tests)
