-- Where all routes of a kind begin with a text, so does each path that has one.
use Rattle.std.proofs.Common.{◌≡◌, ◌≢◌, ◌∙◌, ◌<◌, ℕ, zero, suc, ◌-◌, List, [], ◌∷◌, ◌++◌, ◌⊎◌, inl, inr, length, drop, Option, None, Some, Bool, true, false, cond, ltb, refl, sym, ap, subst, arith}
use Rattle.std.specs.Prelude.{◌&&◌, ◌||◌, ◌==◌, not, nat_lt}
use Rattle.std.proofs.lemmas.Bool.Decides.{nat_tests}
use Rattle.std.proofs.lemmas.Bool.{and_from, and_parts, cases_Bool, eqb-true, ltb-true, not-true}
use Rattle.matchit.specs.Rows.{RowsOf, param_token, catch_all_token}
use Rattle.matchit.specs.Seek.{has_slash, longest_suffix, or_else, own, param_step, same_text, seek, segment, step, with_suffix}

module _ {K : Type 0} (of_kind : K → Bool) where
  -- ---- rows without a route of the kind

  abbrev is_free : RowsOf K → Bool
  is_free [] = true
  is_free ((t, key) ∷ rs) = not (of_kind key) && is_free rs

  free_step : (b : ℕ) (rs : RowsOf K) → is_free rs ≡ true → is_free (step b rs) ≡ true
  free_step b [] h = refl
  free_step b (([], key) ∷ rs) h = free_step b rs (and_parts (not (of_kind key)) (is_free rs) h).1
  free_step b ((x ∷ t, key) ∷ rs) h =
      let e = and_parts (not (of_kind key)) (is_free rs) h in
      let rest = free_step b rs e.1 in
      elim (x == b) as (λ v. is_free (cond v ((t, key) ∷ step b rs) (step b rs)) ≡ true) [
        | true ↦ and_from (not (of_kind key)) (is_free (step b rs)) e.0 rest
        | false ↦ rest
      ]

  free_suffix : (s : List ℕ) (rs : RowsOf K) → is_free rs ≡ true → is_free (with_suffix s rs) ≡ true
  free_suffix s [] h = refl
  free_suffix s ((t, key) ∷ rs) h =
      let e = and_parts (not (of_kind key)) (is_free rs) h in
      let rest = free_suffix s rs e.1 in
      elim (same_text (segment t) s) as (λ v. is_free (cond v ((t, key) ∷ with_suffix s rs) (with_suffix s rs)) ≡ true) [
        | true ↦ and_from (not (of_kind key)) (is_free (with_suffix s rs)) e.0 rest
        | false ↦ rest
      ]

  free_param : (rs : RowsOf K) (path : List ℕ) → is_free rs ≡ true → is_free (param_step rs path).1 ≡ true
  unfolding param_step
  free_param rs path h =
      let suffix = longest_suffix (segment path) rs in
      elim (ltb 0 (length suffix)) as (λ v. is_free (cond {A = ℕ × RowsOf K} v (length (segment path) - length suffix, with_suffix suffix rs) (cond (has_slash path) (0, []) (length path, rs))).1 ≡ true) [
        | true ↦ free_suffix suffix rs h
        | false ↦ elim (has_slash path) as (λ v. is_free (cond {A = ℕ × RowsOf K} v (0, []) (length path, rs)).1 ≡ true) [ true ↦ refl | false ↦ h ]
      ]

  free_own : (rs : RowsOf K) (key : K) → is_free rs ≡ true → own rs ≡ Some key → of_kind key ≡ false
  free_own [] key h is = absurd cc
  free_own (([], k) ∷ rs) key h is = let same : k ≡ key = cc in ap of_kind (sym same) ∙ not-true (of_kind k) (and_parts (not (of_kind k)) (is_free rs) h).0
  free_own ((x ∷ t, k) ∷ rs) key h is = free_own rs key (and_parts (not (of_kind k)) (is_free rs) h).1 is

  either : (o p : Option K) (key : K) → or_else o p ≡ Some key → (o ≡ Some key) ⊎ (p ≡ Some key)
  either None p key is = inr is
  either (Some k) p key is = inl is

  free_seek : (skip : ℕ) (rs : RowsOf K) (path : List ℕ) (key : K) → is_free rs ≡ true → seek skip rs path ≡ Some key → of_kind key ≡ false
  unfolding seek
  free_seek skip rs [] key h is = free_own rs key h is
  free_seek (suc skip) rs (b ∷ path) key h is = free_seek skip rs path key h is
  free_seek zero rs (b ∷ path) key h is =
      let params = param_step (step param_token rs) (b ∷ path) in
      elim (either (seek 0 (step b rs) path) (or_else (seek (params.0 - 1) params.1 path) (own (step catch_all_token rs))) key is) [
        | inl by_byte ↦ free_seek 0 (step b rs) path key (free_step b rs h) by_byte
        | inr other ↦ elim (either (seek (params.0 - 1) params.1 path) (own (step catch_all_token rs)) key other) [
          | inl by_param ↦ free_seek (params.0 - 1) params.1 path key (free_param (step param_token rs) (b ∷ path) (free_step param_token rs h)) by_param
          | inr by_rest ↦ free_own (step catch_all_token rs) key (free_step catch_all_token rs h) by_rest
        ]
      ]

  -- ---- rows whose routes of the kind begin with a byte

  abbrev leads : ℕ → RowsOf K → Bool
  leads c [] = true
  leads c (([], key) ∷ rs) = not (of_kind key) && leads c rs
  leads c ((x ∷ t, key) ∷ rs) = (x == c || not (of_kind key)) && leads c rs

  -- a row that begins with another byte
  other_row : (x b c : ℕ) (n : Bool) → (x == c || n) ≡ true → (x == b) ≡ true → b ≢ c → n ≡ true
  other_row x b c n h e other = let differ : (x == c) ≡ false = grind (arith, nat_tests) in rw differ at h

  leads_other : (c b : ℕ) (rs : RowsOf K) → leads c rs ≡ true → b ≢ c → is_free (step b rs) ≡ true
  leads_other c b [] h other = refl
  leads_other c b (([], key) ∷ rs) h other = leads_other c b rs (and_parts (not (of_kind key)) (leads c rs) h).1 other
  leads_other c b ((x ∷ t, key) ∷ rs) h other =
      let e = and_parts (x == c || not (of_kind key)) (leads c rs) h in
      let rest = leads_other c b rs e.1 other in
      elim (cases_Bool (x == b)) [
        | inl same ↦ rw same (and_from (not (of_kind key)) (is_free (step b rs)) (other_row x b c (not (of_kind key)) e.0 same other) rest)
        | inr differ ↦ rw differ rest
      ]

  leads_own : (c : ℕ) (rs : RowsOf K) (key : K) → leads c rs ≡ true → own rs ≡ Some key → of_kind key ≡ false
  leads_own c [] key h is = absurd cc
  leads_own c (([], k) ∷ rs) key h is = let same : k ≡ key = cc in ap of_kind (sym same) ∙ not-true (of_kind k) (and_parts (not (of_kind k)) (leads c rs) h).0
  leads_own c ((x ∷ t, k) ∷ rs) key h is = leads_own c rs key (and_parts (x == c || not (of_kind k)) (leads c rs) h).1 is

  never : {A : Type 0} (key : K) → of_kind key ≡ true → of_kind key ≡ false → A
  never key is not_so = absurd (let e : true ≡ false = sym is ∙ not_so in cc)

  -- the path goes on with that byte
  lead_on : (c b : ℕ) (path : List ℕ) (rs : RowsOf K) (key : K) → c < 256 → leads c rs ≡ true → seek 0 rs (b ∷ path) ≡ Some key → of_kind key ≡ true
      → (b ≡ c) × (seek 0 (step c rs) path ≡ Some key)
  unfolding seek
  lead_on c b path rs key small h is kind =
      let params = param_step (step param_token rs) (b ∷ path) in
      let no_param = leads_other c param_token rs h (λ e. omega (arith, e)) in
      let no_rest = leads_other c catch_all_token rs h (λ e. omega (arith, e)) in
      elim (either (seek 0 (step b rs) path) (or_else (seek (params.0 - 1) params.1 path) (own (step catch_all_token rs))) key is) [
        | inl by_byte ↦ elim (cases_Bool (b == c)) [
          | inl same ↦ let e = eqb-true b c same in (e, subst (λ (a : ℕ). seek 0 (step a rs) path ≡ Some key) e by_byte)
          | inr differ ↦ never key kind (free_seek 0 (step b rs) path key (leads_other c b rs h (λ e. grind (arith, nat_tests))) by_byte)
        ]
        | inr other ↦ elim (either (seek (params.0 - 1) params.1 path) (own (step catch_all_token rs)) key other) [
          | inl by_param ↦ never key kind (free_seek (params.0 - 1) params.1 path key (free_param (step param_token rs) (b ∷ path) no_param) by_param)
          | inr by_rest ↦ never key kind (free_own (step catch_all_token rs) key no_rest by_rest)
        ]
      ]

  -- ---- rows whose routes of the kind begin with a text

  abbrev pub leads_with : List ℕ → RowsOf K → Bool
  leads_with [] rs = true
  leads_with (c ∷ text) rs = nat_lt c 256 && (leads c rs && leads_with text (step c rs))

  pub begins_with : (text path : List ℕ) (rs : RowsOf K) (key : K) → leads_with text rs ≡ true → seek 0 rs path ≡ Some key → of_kind key ≡ true → path ≡ text ++ drop (length text) path
  unfolding seek
  begins_with [] path rs key h is kind = refl
  begins_with (c ∷ text) [] rs key h is kind =
      let p = and_parts (nat_lt c 256) (leads c rs && leads_with text (step c rs)) h in
      let q = and_parts (leads c rs) (leads_with text (step c rs)) p.1 in
      never key kind (leads_own c rs key q.0 is)
  begins_with (c ∷ text) (b ∷ path) rs key h is kind =
      let p = and_parts (nat_lt c 256) (leads c rs && leads_with text (step c rs)) h in
      let q = and_parts (leads c rs) (leads_with text (step c rs)) p.1 in
      let on = lead_on c b path rs key (ltb-true _ _ p.0) q.0 is kind in
      let rest = begins_with text path (step c rs) key q.1 on.1 kind in
      ap (λ l. b ∷ l) rest ∙ ap (λ a. a ∷ (text ++ drop (length text) path)) on.0
