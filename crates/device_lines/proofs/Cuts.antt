-- A line has one reading: each part of it ends at a byte that it doesn't have.
use Rattle.std.proofs.Common.{◌≡◌, ◌≢◌, ℕ, zero, suc, ◌<◌, ◌^◌, ◌==◌, not, List, [], ◌∷◌, ◌++◌, get_or, if◌then◌else◌, true, refl, sym, ap, ◌∙◌, arith, decimal}
use Rattle.std.specs.List.{AllPass, list_all}
use Rattle.std.specs.Str.Parse.{AllDigits}
use Rattle.std.proofs.lemmas.Bool.Decides.{nat_tests}
use Rattle.std.proofs.lemmas.List.Sums.{AllPass-from_list_all}
use Rattle.std.proofs.lemmas.Fmt.{decimal_is_IsNumeral, decimal_injective}
use Rattle.std.proofs.lemmas.Str.Parse.{digit_from_value}
use Rattle.queue_types.specs.declared.event.Kind.{Kind}
use Rattle.queue_types.specs.declared.event.Kind.TheVariants.{Start, Stop, Resume, Count, Done, Fail, Halt}
use Rattle.device_lines.specs.Lines.{kind_word}

-- the byte is none of these
abbrev pub IsFree : ℕ → List ℕ → Type 0
IsFree x bs = AllPass (λ b. not (b == x)) bs

free_cons : (x b : ℕ) (bs : List ℕ) → b ≢ x → IsFree x bs → IsFree x (b ∷ bs)
free_cons x b bs h f zero d l = grind (arith, nat_tests)
free_cons x b bs h f (suc k) d l = f k d (omega arith)

free_head : (x b : ℕ) (bs : List ℕ) → IsFree x (b ∷ bs) → b ≢ x
free_head x b bs f e = let t : not (b == x) ≡ true = f 0 b (omega arith) in grind (arith, nat_tests)

free_tail : (x b : ℕ) (bs : List ℕ) → IsFree x (b ∷ bs) → IsFree x bs
free_tail x b bs f = λ k d l. f (suc k) d (omega arith)

-- ---- cuts

-- what ends at its first such byte has no byte of it before that
pub one_cut : (x : ℕ) (a b c d : List ℕ) → IsFree x a → IsFree x c → a ++ x ∷ b ≡ c ++ x ∷ d → (a ≡ c) × (b ≡ d)
one_cut x [] b [] d f g e = (refl, cc)
one_cut x [] b (y ∷ c) d f g e = let same : x ≡ y = cc in absurd (free_head x y c g (sym same))
one_cut x (y ∷ a) b [] d f g e = let same : y ≡ x = cc in absurd (free_head x y a f same)
one_cut x (y ∷ a) b (z ∷ c) d f g e =
    let same : y ≡ z = cc in
    let rest : a ++ x ∷ b ≡ c ++ x ∷ d = cc in
    let both = one_cut x a b c d (free_tail x y a f) (free_tail x z c g) rest in
    (cc, both.1)

pub no_cut : (x : ℕ) (a b : List ℕ) → IsFree x (a ++ x ∷ b) → ⊥
no_cut x [] b f = free_head x x b f refl
no_cut x (y ∷ a) b f = no_cut x a b (free_tail x y (a ++ x ∷ b) f)

-- ---- numbers and words

free_digits : (x : ℕ) (ds : List ℕ) → x < 48 → AllDigits 10 ds → IsFree x ds
free_digits x [] h digits = λ k d l. absurd (omega arith)
free_digits x (c ∷ cs) h digits = let low = digit_from_value c digits.0 in free_cons x c cs (λ e. omega (arith, low)) (free_digits x cs h digits.1)

pub free_decimal : (x n : ℕ) → x < 48 → n < 10 ^ 10 → IsFree x (decimal n)
free_decimal x n h small = free_digits x (decimal n) h (decimal_is_IsNumeral n (omega arith)).0.1

has_no_space : (k : Kind) → list_all (λ b. not (b == 32)) (kind_word k) ≡ true
has_no_space Start = refl
has_no_space _ = refl

pub free_word : (k : Kind) → IsFree 32 (kind_word k)
free_word k = AllPass-from_list_all (λ b. not (b == 32)) (kind_word k) (has_no_space k)

-- the third letter tells the word
kind_by : ℕ → Kind
kind_by c = if c == 97 then Start else (if c == 111 then Stop else (if c == 115 then Resume else (if c == 117 then Count else (if c == 110 then Done else (if c == 105 then Fail else Halt)))))

kind_of : List ℕ → Kind
kind_of word = kind_by (get_or word 2 0)

told_kind : (k : Kind) → kind_of (kind_word k) ≡ k
unfolding kind_of kind_by
told_kind Start = refl
told_kind _ = refl

pub one_kind : (j k : Kind) → kind_word j ≡ kind_word k → j ≡ k
one_kind j k e = sym (told_kind j) ∙ ap kind_of e ∙ told_kind k

-- ---- what a number or a word with its end is

pub number_cut : (x m n : ℕ) (b d : List ℕ) → x < 48 → m < 10 ^ 10 → n < 10 ^ 10 → decimal m ++ x ∷ b ≡ decimal n ++ x ∷ d → (m ≡ n) × (b ≡ d)
number_cut x m n b d h p q e =
    let both = one_cut x (decimal m) b (decimal n) d (free_decimal x m h p) (free_decimal x n h q) e in
    (decimal_injective m n (omega arith) (omega arith) both.0, both.1)

pub kind_cut : (j k : Kind) (b d : List ℕ) → kind_word j ++ 32 ∷ b ≡ kind_word k ++ 32 ∷ d → (j ≡ k) × (b ≡ d)
kind_cut j k b d e =
    let both = one_cut 32 (kind_word j) b (kind_word k) d (free_word j) (free_word k) e in
    (one_kind j k both.0, both.1)
