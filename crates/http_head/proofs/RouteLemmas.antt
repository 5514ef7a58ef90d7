-- The routes, and paths that have one.
use Rattle.std.proofs.Common.{append-nil, append_assoc, length-append, drop, ltb, ◌≡◌, ◌≢◌, ◌∙◌, ℕ, zero, suc, ◌-◌, ◌<◌, List, [], ◌∷◌, ◌++◌, length, Option, None, Some, Bool, true, false, cond, refl, sym, ap, arith}
use Rattle.std.specs.Prelude.{codes, option_map, ◌&&◌, ◌==◌}
use Rattle.std.specs.List.{AllByRecursion as Each}
use Rattle.std.proofs.Math.Seq.{drop-append_seam}
use Rattle.std.proofs.lemmas.Bool.{and_parts, ne_eqb}
use Rattle.std.proofs.lemmas.Bool.Decides.{nat_tests}
use Rattle.matchit.specs.Rows.{RowsOf, param_token, catch_all_token}
use Rattle.matchit.specs.Seek.{step, or_else, seek, param_step, has_slash, segment, cuts}
use Rattle.matchit.specs.Route.{scan}
use Rattle.http_head.specs.Routes.{IsSegment, route_of, routes, value_of}
use Rattle.http_head.specs.declared.routes.Route.TheVariants.{Document, Print, Queue, Report}

-- ---- segments

abbrev pub AreInSegment : List ℕ → Type 0
AreInSegment s = Each (λ b. (b < 256) × (b ≢ 47)) s

no_slash : (s : List ℕ) → AreInSegment s → has_slash s ≡ false
no_slash [] is = refl
no_slash (b ∷ s) is = let e : (b == 47) ≡ false = ne_eqb b 47 is.0.1 in rw e (no_slash s is.1)

-- a segment and the slash behind it
segment_is : (s n : List ℕ) → AreInSegment s → segment (s ++ 47 ∷ n) ≡ s ++ 47 ∷ []
segment_is [] n is = refl
segment_is (b ∷ s) n is = let e : (b == 47) ≡ false = ne_eqb b 47 is.0.1 in rw e (ap (λ l. b ∷ l) (segment_is s n is.1))

-- a segment with its slash ends with a slash
cuts_slash : (s : List ℕ) → 0 < length s → cuts (s ++ 47 ∷ []) (47 ∷ []) ≡ true
cuts_slash s some =
    let end : List ℕ = 47 ∷ [] in
    let sum = length-append s end in
    let more : ltb (length end) (length (s ++ end)) ≡ true = grind (arith, nat_tests) in
    let less : length (s ++ end) - length end ≡ length s = omega (arith, sum) in
    let last : drop (length (s ++ end) - length end) (s ++ end) ≡ end = ap (λ k. drop k (s ++ end)) less ∙ drop-append_seam s end in
    rw (more, last) refl

module _ {K : Type 0} where
  -- ---- no rows

  or_else-none : (o : Option K) → or_else o None ≡ o
  or_else-none None = refl
  or_else-none (Some k) = refl

  param_step-empty : (path : List ℕ) → (param_step {K = K} [] path).1 ≡ []
  unfolding param_step
  param_step-empty path =
      elim (has_slash path) as (λ v. (cond {A = ℕ × RowsOf K} v (0, []) (length path, [])).1 ≡ []) [
        | true ↦ refl
        | false ↦ refl
      ]

  seek-empty : (k : ℕ) (path : List ℕ) → seek {K = K} k [] path ≡ None
  unfolding seek
  seek-empty k [] = refl
  seek-empty (suc k) (b ∷ path) = seek-empty k path
  seek-empty zero (b ∷ path) = simp (seek-empty 0 path, param_step-empty (b ∷ path), seek-empty (((param_step {K = K} [] (b ∷ path)).0) - 1) path)

  -- ---- a text that stands for itself

  abbrev is_none : RowsOf K → Bool
  is_none [] = true
  is_none (r ∷ rs) = false

  -- at each byte of the text no row goes on with a parameter
  abbrev is_plain : List ℕ → RowsOf K → Bool
  is_plain [] rs = true
  is_plain (b ∷ text) rs = is_none (step param_token rs) && (is_none (step catch_all_token rs) && is_plain text (step b rs))

  -- the rows behind a text
  abbrev behind : List ℕ → RowsOf K → RowsOf K
  behind [] rs = rs
  behind (b ∷ text) rs = behind text (step b rs)

  none_is : (rs : RowsOf K) → is_none rs ≡ true → rs ≡ []
  none_is [] is = refl
  none_is (r ∷ rs) is = absurd cc

  one_byte : (b : ℕ) (path : List ℕ) (rs : RowsOf K) → step param_token rs ≡ [] → step catch_all_token rs ≡ [] → seek 0 rs (b ∷ path) ≡ seek 0 (step b rs) path
  unfolding seek
  one_byte b path rs no_param no_rest =
      simp (no_param, no_rest, param_step-empty (b ∷ path), seek-empty ((param_step {K = K} [] (b ∷ path)).0 - 1) path, or_else-none)

  along : (text path : List ℕ) (rs : RowsOf K) → is_plain text rs ≡ true → seek 0 rs (text ++ path) ≡ seek 0 (behind text rs) path
  along [] path rs is = refl
  along (b ∷ text) path rs is =
      let p = and_parts (is_none (step param_token rs)) (is_none (step catch_all_token rs) && is_plain text (step b rs)) is in
      let q = and_parts (is_none (step catch_all_token rs)) (is_plain text (step b rs)) p.1 in
      one_byte b (text ++ path) rs (none_is (step param_token rs) p.0) (none_is (step catch_all_token rs) q.0) ∙ along text path (step b rs) q.1

  -- ---- parameters

  skipped : (front path : List ℕ) (rs : RowsOf K) → seek (length front) rs (front ++ path) ≡ seek 0 rs path
  unfolding seek
  skipped [] path rs = refl
  skipped (b ∷ front) path rs = skipped front path rs

  not_param : (b : ℕ) (rest : List ℕ) (key : K) → b < 256 → step b ((param_token ∷ rest, key) ∷ []) ≡ []
  not_param b rest key small = let e : (param_token == b) ≡ false = ne_eqb param_token b (λ i. omega arith) in rw e refl

  whole : (path : List ℕ) (key : K) → has_slash path ≡ false → param_step (([], key) ∷ []) path ≡ (length path, ([], key) ∷ [])
  unfolding param_step
  whole path key none = rw none refl

  -- a parameter at the end of a route takes the last segment
  last_param : (s : List ℕ) (key : K) → 0 < length s → AreInSegment s → seek 0 ((param_token ∷ [], key) ∷ []) s ≡ Some key
  unfolding seek
  last_param [] key some is = absurd (omega arith)
  last_param (b ∷ s) key some is =
      let rest : seek (length s) (([], key) ∷ []) s ≡ Some key = ap (λ l. seek (length s) (([], key) ∷ []) l) (sym (append-nil s)) ∙ skipped s [] (([], key) ∷ []) in
      let less : length (b ∷ s) - 1 ≡ length s = omega arith in
      simp (not_param b [] key is.0.0, seek-empty 0 s, whole (b ∷ s) key (no_slash (b ∷ s) is), less, rest)

  -- a row that goes on with a slash and a parameter
  abbrev on_slash : K → RowsOf K
  on_slash key = (47 ∷ param_token ∷ [], key) ∷ []

  up_to_slash : (s n : List ℕ) (key : K) → 0 < length s → AreInSegment s → param_step (on_slash key) (s ++ 47 ∷ n) ≡ (length (s ++ 47 ∷ []) - 1, on_slash key)
  unfolding param_step
  up_to_slash s n key some is = rw (segment_is s n is, cuts_slash s some) refl

  -- one with a slash and another parameter behind it takes a segment, the slash and the last segment
  two_params : (s n : List ℕ) (key : K) → 0 < length s → AreInSegment s → 0 < length n → AreInSegment n → seek 0 ((param_token ∷ 47 ∷ param_token ∷ [], key) ∷ []) (s ++ 47 ∷ n) ≡ Some key
  unfolding seek
  two_params [] n key some is some_n is_n = absurd (omega arith)
  two_params (b ∷ s) n key some is some_n is_n =
      let rest : seek (length s) (on_slash key) (s ++ 47 ∷ n) ≡ Some key =
      skipped s (47 ∷ n) (on_slash key) ∙ one_byte 47 n (on_slash key) refl refl ∙ last_param n key some_n is_n in
      let less : length (b ∷ s ++ 47 ∷ []) - 1 - 1 ≡ length s = omega (arith, length-append s (47 ∷ [])) in
      simp (not_param b (47 ∷ param_token ∷ []) key is.0.0, seek-empty 0 (s ++ 47 ∷ n), up_to_slash (b ∷ s) n key some is, less, rest)

-- ---- the paths without a parameter

pub of_print : route_of (codes "/ipp/print") ≡ Some Print
unfolding route_of seek scan
of_print = ap (option_map value_of) (along (codes "/ipp/print") [] routes refl)

pub of_report : route_of (codes "/device/report") ≡ Some Report
unfolding route_of seek scan
of_report = ap (option_map value_of) (along (codes "/device/report") [] routes refl)

pub of_queue : route_of (codes "/device/queue") ≡ Some Queue
unfolding route_of seek scan
of_queue = ap (option_map value_of) (along (codes "/device/queue") [] routes refl)

-- ---- those with parameters

pub of_job : (job : List ℕ) → IsSegment job → route_of (codes "/ipp/print/" ++ job) ≡ Some Print
unfolding route_of scan
of_job job is = ap (option_map value_of) (along (codes "/ipp/print/") job routes refl ∙ last_param job _ is.0 is.1)

pub of_document : (job n : List ℕ) → IsSegment job → IsSegment n → route_of (codes "/device/document/" ++ job ++ codes "/" ++ n) ≡ Some Document
unfolding route_of scan
of_document job n is is_n =
    ap (λ l. option_map value_of (seek 0 routes (codes "/device/document/" ++ l))) (append_assoc job (codes "/") n)
    ∙ ap (option_map value_of) (along (codes "/device/document/") (job ++ 47 ∷ n) routes refl ∙ two_params job n _ is.0 is.1 is_n.0 is_n.1)
