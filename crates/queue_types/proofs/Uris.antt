-- The parts of a URI, from the front on.
use Rattle.std.proofs.Common.{◌≡◌, ◌≢◌, ◌⊎◌, ◌++◌, ◌+◌, ℕ, List, [], ◌∷◌, ◌==◌, ◌∙◌, Bool, true, false, cond, ◌&&◌, ◌||◌, length, drop, take, inl, inr, refl, sym, ap, arith, append-nil, drop_at, take_at, take-append-drop, take_all}
use Rattle.std.specs.Prelude.{codes, not, nat_eq}
use Rattle.std.specs.Cmp.Lexicographic.{same_text}
use Rattle.std.specs.List.{before_first, list_all, position_or_len, prefix_len, starts_with}
use Rattle.std.specs.Str.{byte}
use Rattle.std.proofs.lemmas.Bool.Decides.{nat_tests}
use Rattle.std.proofs.lemmas.List.{drop_all}
use Rattle.queue_types.specs.Uri.{behind_mark, path_of}
use Rattle.queue_types.proofs.Texts.{both}

abbrev fails : (ℕ → Bool) → List ℕ → Bool
fails p = list_all (λ b. not (p b))

-- the first that passes stands behind all that fail
passes_at : (p : ℕ → Bool) (xs : List ℕ) (y : ℕ) (ys : List ℕ) → fails p xs ≡ true → p y ≡ true → position_or_len p (xs ++ y ∷ ys) ≡ length xs
passes_at p [] y ys none passes = ap (λ (c : Bool). cond (not c) (1 + prefix_len (λ b. not (p b)) ys) 0) passes
passes_at p (x ∷ xs) y ys none passes =
    let e = both (not (p x)) (fails p xs) none in
    let rest : 1 + position_or_len p (xs ++ y ∷ ys) ≡ length (x ∷ xs) = omega (arith, passes_at p xs y ys e.1 passes) in
    ap (λ (c : Bool). cond c (1 + position_or_len p (xs ++ y ∷ ys)) 0) e.0 ∙ rest

none_passes : (p : ℕ → Bool) (xs : List ℕ) → fails p xs ≡ true → position_or_len p xs ≡ length xs
none_passes p [] none = refl
none_passes p (x ∷ xs) none =
    let e = both (not (p x)) (fails p xs) none in
    let rest : 1 + position_or_len p xs ≡ length (x ∷ xs) = omega (arith, none_passes p xs e.1) in
    ap (λ (c : Bool). cond c (1 + position_or_len p xs) 0) e.0 ∙ rest

-- ---- `://`

no_colon : (b : ℕ) → not (b == byte ":") ≡ true → nat_eq (byte ":") b ≡ false
no_colon b h = grind (arith, nat_tests)

marked_at : (scheme rest : List ℕ) → fails (λ b. b == byte ":") scheme ≡ true → behind_mark (scheme ++ codes "://" ++ rest) ≡ rest
marked_at [] rest none = refl
marked_at (b ∷ bs) rest none =
    let e = both (not (b == byte ":")) (fails (λ x. x == byte ":") bs) none in
    let more = bs ++ codes "://" ++ rest in
    skipped b more (no_colon b e.0) ∙ marked_at bs rest e.1
  where
    skipped : (b : ℕ) (more : List ℕ) → nat_eq (byte ":") b ≡ false → behind_mark (b ∷ more) ≡ behind_mark more
    skipped b [] differs = ap (λ (c : Bool). cond (c && false) [] []) differs
    skipped b (c ∷ []) differs = ap (λ (t : Bool). cond (t && (nat_eq (byte "/") c && false)) (drop 2 (c ∷ [])) (behind_mark (c ∷ []))) differs
    skipped b (c ∷ d ∷ more) differs = ap (λ (t : Bool). cond (t && (nat_eq (byte "/") c && (nat_eq (byte "/") d && true))) more (behind_mark (c ∷ d ∷ more))) differs

pub unmarked_is : (uri : List ℕ) → ((front rest : List ℕ) → uri ≢ front ++ codes "://" ++ rest) → behind_mark uri ≡ []
unmarked_is [] none = refl
unmarked_is (b ∷ bs) none = elim (starts_with nat_eq (b ∷ bs) (codes "://")) as (λ c. starts_with nat_eq (b ∷ bs) (codes "://") ≡ c → cond c (drop 2 bs) (behind_mark bs) ≡ []) [
  | true ↦ λ begins. absurd (none [] (drop 2 bs) (sym (take-append-drop 3 (b ∷ bs)) ∙ ap (λ front. front ++ drop 2 bs) (sym (same_text (codes "://") (take 3 (b ∷ bs)) (sym begins)))))
  | false ↦ λ ends. unmarked_is bs (λ front rest same. none (b ∷ front) rest (ap (λ xs. b ∷ xs) same))
] refl

-- ---- the path

abbrev is_slash : ℕ → Bool
is_slash b = b == byte "/"

abbrev is_end : ℕ → Bool
is_end b = b == byte "?" || b == byte "#"

rooted_at : (authority path : List ℕ) → fails is_slash authority ≡ true → drop (position_or_len is_slash (authority ++ byte "/" ∷ path)) (authority ++ byte "/" ∷ path) ≡ byte "/" ∷ path
rooted_at authority path none = ap (λ n. drop n (authority ++ byte "/" ∷ path)) (passes_at is_slash authority (byte "/") path none refl) ∙ drop_at authority (byte "/" ∷ path) (length authority) refl

cut_at : (path rest : List ℕ) → fails is_end path ≡ true → (rest ≡ []) ⊎ ((more : List ℕ) × ((rest ≡ byte "?" ∷ more) ⊎ (rest ≡ byte "#" ∷ more))) → before_first is_end (path ++ rest) ≡ path
cut_at path rest none (inl nothing) = ap (λ r. before_first is_end (path ++ r)) nothing ∙ ap (before_first is_end) (append-nil path) ∙ ap (λ n. take n path) (none_passes is_end path none) ∙ take_all (length path) path (omega arith)
cut_at path rest none (inr some) = elim some.1 [
  | inl query ↦ ap (λ r. before_first is_end (path ++ r)) query ∙ ended (byte "?") refl
  | inr fragment ↦ ap (λ r. before_first is_end (path ++ r)) fragment ∙ ended (byte "#") refl
]
  where
    ended : (b : ℕ) → is_end b ≡ true → before_first is_end (path ++ b ∷ some.0) ≡ path
    ended b ends = ap (λ n. take n (path ++ b ∷ some.0)) (passes_at is_end path b some.0 none ends) ∙ take_at path (b ∷ some.0) (length path) refl

pub path_found : (scheme authority path rest : List ℕ) → list_all (λ b. not (b == byte ":")) scheme ≡ true → list_all (λ b. not (b == byte "/")) authority ≡ true
    → list_all (λ b. not (b == byte "?" || b == byte "#")) path ≡ true → (rest ≡ []) ⊎ ((more : List ℕ) × ((rest ≡ byte "?" ∷ more) ⊎ (rest ≡ byte "#" ∷ more)))
    → path_of (scheme ++ codes "://" ++ (authority ++ byte "/" ∷ (path ++ rest))) ≡ byte "/" ∷ path
path_found scheme authority path rest named hosted plain ends =
    ap (λ behind. before_first is_end (drop (position_or_len is_slash behind) behind)) (marked_at scheme (authority ++ byte "/" ∷ (path ++ rest)) named)
    ∙ ap (before_first is_end) (rooted_at authority (path ++ rest) hosted)
    ∙ cut_at (byte "/" ∷ path) rest plain ends

pub no_path : (scheme authority : List ℕ) → list_all (λ b. not (b == byte ":")) scheme ≡ true → list_all (λ b. not (b == byte "/")) authority ≡ true
    → path_of (scheme ++ codes "://" ++ authority) ≡ []
no_path scheme authority named hosted =
    ap (λ behind. before_first is_end (drop (position_or_len is_slash behind) behind)) (marked_at scheme authority named)
    ∙ ap (λ n. before_first is_end (drop n authority)) (none_passes is_slash authority hosted)
    ∙ ap (before_first is_end) (drop_all (length authority) authority (omega arith))

pub no_mark : (uri : List ℕ) → ((front rest : List ℕ) → uri ≢ front ++ codes "://" ++ rest) → path_of uri ≡ []
no_mark uri none = ap (λ behind. before_first is_end (drop (position_or_len is_slash behind) behind)) (unmarked_is uri none)
