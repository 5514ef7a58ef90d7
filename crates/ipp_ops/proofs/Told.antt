-- A job-uri that a reply tells names its job.
use Rattle.std.proofs.Common.{◌≡◌, ℕ, ◌+◌, ◌<◌, ◌≤◌, List, [], ◌∷◌, ◌++◌, ◌==◌, ◌∙◌, Bool, true, false, cond, ◌&&◌, ◌||◌, length, drop, refl, sym, ap, arith, zero, suc, append_assoc, length-drop}
use Rattle.std.specs.Prelude.{Some, codes, not, nat_eq, nat_le}
use Rattle.std.specs.Char.{is_ascii_digit}
use Rattle.std.specs.Cmp.Lexicographic.{same_text}
use Rattle.std.specs.Fmt.{decimal}
use Rattle.std.specs.List.{before_first, list_all, position_or_len, prefix_len, starts_with}
use Rattle.std.specs.Str.{byte}
use Rattle.std.proofs.lemmas.Bool.{and_from, and_parts}
use Rattle.std.proofs.lemmas.Bool.Decides.{nat_tests}
use Rattle.std.proofs.lemmas.Fmt.{digits_decimal}
use Rattle.std.proofs.lemmas.List.{drop-append-le, take_all}
use Rattle.std.proofs.lemmas.List.Folds.{list_all-append, prefix_len-append}
use Rattle.queue_types.specs.Settings.{SettingValues, AreSettings, is_uri_byte}
use Rattle.queue_types.specs.Uri.{behind_mark, path_of, printer_path}
use Rattle.queue_core.specs.Limits.{IsPositive}
use Rattle.ipp_request.specs.Request.{job_in}
use Rattle.ipp_request.proofs.Numbers.{model}
use Rattle.ipp_ops.proofs.Laws.{path_found}

abbrev is_slash : ℕ → Bool
is_slash b = b == byte "/"

-- it ends a path
abbrev is_end : ℕ → Bool
is_end b = b == byte "?" || b == byte "#"

abbrev goes_on : ℕ → Bool
goes_on b = not (is_end b)

abbrev from_slash : List ℕ → List ℕ
from_slash bs = drop (position_or_len is_slash bs) bs

-- ---- each of a list

all_weaker : (p q : ℕ → Bool) → ((b : ℕ) → p b ≡ true → q b ≡ true) → (bs : List ℕ) → list_all p bs ≡ true → list_all q bs ≡ true
all_weaker p q weaker [] h = refl
all_weaker p q weaker (b ∷ bs) h = let e = and_parts (p b) (list_all p bs) h in and_from (q b) _ (weaker b e.0) (all_weaker p q weaker bs e.1)

all_dropped : (p : ℕ → Bool) (n : ℕ) (bs : List ℕ) → list_all p bs ≡ true → list_all p (drop n bs) ≡ true
all_dropped p zero bs h = h
all_dropped p (suc n) [] h = refl
all_dropped p (suc n) (b ∷ bs) h = all_dropped p n bs (and_parts (p b) (list_all p bs) h).1

all_behind : (p : ℕ → Bool) (bs : List ℕ) → list_all p bs ≡ true → list_all p (behind_mark bs) ≡ true
all_behind p [] h = refl
all_behind p (b ∷ bs) h =
    let e = (and_parts (p b) (list_all p bs) h).1 in
    elim (starts_with nat_eq (b ∷ bs) (codes "://")) as (λ c. list_all p (cond c (drop 2 bs) (behind_mark bs)) ≡ true) [ true ↦ all_dropped p 2 bs e | false ↦ all_behind p bs e ]

-- ---- a path with more behind it

marked : (c : Bool) (a b longer_a longer_b more : List ℕ) → 0 < length (cond c a b) → longer_a ≡ a ++ more → (0 < length b → longer_b ≡ b ++ more) → cond c longer_a longer_b ≡ cond c a b ++ more
marked true a b longer_a longer_b more h e f = e
marked false a b longer_a longer_b more h e f = f h

abbrev no_bytes : List ℕ
no_bytes = []

empty : (c : Bool) → 0 < length (cond c no_bytes no_bytes) → ⊥
empty true h = omega arith
empty false h = omega arith

empty_twice : (c d : Bool) → 0 < length (cond c no_bytes (cond d no_bytes no_bytes)) → ⊥
empty_twice true d h = omega arith
empty_twice false d h = empty d h

mark_more : (bs more : List ℕ) → 0 < length (behind_mark bs) → behind_mark (bs ++ more) ≡ behind_mark bs ++ more
mark_more [] more h = absurd (omega arith)
mark_more (b ∷ []) more h = absurd (empty _ h)
mark_more (b ∷ c ∷ []) more h = absurd (empty_twice _ _ h)
mark_more (b ∷ c ∷ d ∷ bs) more h = marked (starts_with nat_eq (b ∷ c ∷ d ∷ bs) (codes "://")) bs (behind_mark (c ∷ d ∷ bs)) (bs ++ more) (behind_mark (c ∷ d ∷ bs ++ more)) more h refl (mark_more (c ∷ d ∷ bs) more)

not_all : (n m k : ℕ) → n < m → cond (n == m) k n ≡ n
not_all n m k h = grind (arith, nat_tests)

slash_more : (bs more : List ℕ) → 0 < length (from_slash bs) → from_slash (bs ++ more) ≡ from_slash bs ++ more
slash_more bs more h =
    let n = position_or_len is_slash bs in
    let inside : n < length bs = omega (arith, length-drop n bs) in
    let same : position_or_len is_slash (bs ++ more) ≡ n = prefix_len-append (λ b. not (is_slash b)) bs more ∙ not_all n (length bs) _ inside in
    ap (λ (k : ℕ). drop k (bs ++ more)) same ∙ drop-append-le n bs more (omega arith)

all_prefix : (p : ℕ → Bool) (bs : List ℕ) → list_all p bs ≡ true → prefix_len p bs ≡ length bs
all_prefix p [] h = refl
all_prefix p (b ∷ bs) h =
    let e = and_parts (p b) (list_all p bs) h in
    let rest : 1 + prefix_len p bs ≡ length (b ∷ bs) = omega (arith, all_prefix p bs e.1) in
    ap (λ (c : Bool). cond c (1 + prefix_len p bs) 0) e.0 ∙ rest

whole_before : (bs : List ℕ) → list_all goes_on bs ≡ true → before_first is_end bs ≡ bs
whole_before bs h =
    let long : position_or_len is_end bs ≡ length bs = all_prefix goes_on bs h in
    take_all (position_or_len is_end bs) bs (omega arith)

-- where no query and no fragment begins, the path goes on with what is put behind
path_more : (uri more : List ℕ) → list_all goes_on uri ≡ true → list_all goes_on more ≡ true → 0 < length (path_of uri) → path_of (uri ++ more) ≡ path_of uri ++ more
path_more uri more h k some =
    let all_from = λ (bs : List ℕ) (all : list_all goes_on bs ≡ true). all_dropped goes_on (position_or_len is_slash (behind_mark bs)) (behind_mark bs) (all_behind goes_on bs all) in
    let before : path_of uri ≡ from_slash (behind_mark uri) = whole_before (from_slash (behind_mark uri)) (all_from uri h) in
    let slashed : 0 < length (from_slash (behind_mark uri)) = omega (arith, ap length before) in
    let behind : 0 < length (behind_mark uri) = omega (arith, slashed, length-drop (position_or_len is_slash (behind_mark uri)) (behind_mark uri)) in
    let all : list_all goes_on (uri ++ more) ≡ true = list_all-append goes_on uri more ∙ and_from (list_all goes_on uri) (list_all goes_on more) h k in
    whole_before (from_slash (behind_mark (uri ++ more))) (all_from (uri ++ more) all)
    ∙ ap from_slash (mark_more uri more behind)
    ∙ slash_more (behind_mark uri) more slashed
    ∙ ap (λ (bs : List ℕ). bs ++ more) (sym before)

-- ---- a job's

uri_goes_on : (b : ℕ) → is_uri_byte b ≡ true → goes_on b ≡ true
uri_goes_on b h = (and_parts (nat_le 32 b && nat_le b 126) (goes_on b) h).1

digit_goes_on : (b : ℕ) → is_ascii_digit b ≡ true → goes_on b ≡ true
digit_goes_on b h = grind (arith, nat_tests)

pub told : (s : SettingValues) (n : ℕ) → AreSettings s → IsPositive n → job_in (path_of (s.uri ++ codes "/" ++ decimal n)) ≡ Some n
told s n are positive =
    let high : n ≤ 2147483647 = omega (arith, positive.1) in
    let path : path_of s.uri ≡ printer_path = same_text (path_of s.uri) printer_path (sym are.uri_path) in
    let digits : list_all goes_on (decimal n) ≡ true = all_weaker is_ascii_digit goes_on digit_goes_on (decimal n) (digits_decimal model n (omega arith)) in
    path_found _ n (record {
      low = positive.0;
      high = high;
      spelled =
          ap path_of (append_assoc s.uri (codes "/") (decimal n))
          ∙ path_more s.uri (codes "/" ++ decimal n) (all_weaker is_uri_byte goes_on uri_goes_on s.uri are.uri_bytes) digits (omega (arith, ap length path))
          ∙ ap (λ (bs : List ℕ). bs ++ (codes "/" ++ decimal n)) path;
    })
