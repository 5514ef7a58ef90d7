-- The words of a head, as the code reads them.
use Rattle.std.proofs.Common.{◌≡◌, ◌+◌, ◌-◌, ◌*◌, ◌<◌, ℕ, List, [], ◌∷◌, ◌&&◌, Bool, true, false, length, ◌^◌, take, map, min, refl, sym, ap, ◌∙◌, arith, get_or, IsTrue, ◌↔◌}
use Rattle.std.specs.Prelude.{◌==◌, not, bytes_eq, codes, if◌then◌else◌, ◌||◌, nat_eq, nat_lt, Option, Some, None, Result, Ok, Err}
use Rattle.std.specs.List.{list_all, list_any, starts_with}
use Rattle.std.specs.Result.{result_ok}
use Rattle.std.specs.Char.{is_ascii_digit, digit_value}
use Rattle.std.specs.Str.{IsAscii, is_utf8}
use Rattle.std.specs.Str.Parse.{digits_value, ParsesUnsigned}
use Rattle.std.proofs.Common.{rules, zero, suc}
use Rattle.std.proofs.Math.Dec.{eqb-suc-zero}
use Rattle.std.proofs.lemmas.Bool.Decides.{nat_tests}
use Rattle.std.proofs.lemmas.Str.{IsUtf8-from_ascii, is_utf8-from_IsUtf8}
use Rattle.std.proofs.lemmas.Str.Ascii.{IsAscii-nil, IsAscii-cons}
use Rattle.std.proofs.lemmas.Str.Parse.{IsNumeralModel, numerals_by_value, parse_digits}
use Rattle.std.proofs.lemmas.Int.Digits.{digits_value_more}
use Rattle.std.proofs.lemmas.List.Folds.{list_all-map}
use Rattle.std.proofs.lemmas.Bool.{and_parts, false_from_ne_true, ltb-true}
use Rattle.std.proofs.lemmas.Bool.Decides.{same_from_decides}
use Rattle.std.proofs.lemmas.Slice.Eq.{bytes_eq-Decides}
use Rattle.http_head.specs.Fields.{fits_word, number_in}
use Rattle.http_head.specs.Framing.{all_same, first_text, is_there}

-- a test that tells whether texts are equal
pub told : (r : Bool) (a b : List ℕ) → (IsTrue r ↔ (a ≡ b)) → r ≡ bytes_eq a b
told r a b h = same_from_decides r (bytes_eq a b) h (bytes_eq-Decides a b)

-- ---- numbers

digit_ascii : (b : ℕ) → is_ascii_digit b ≡ true → b < 128
digit_ascii b h = grind (arith, nat_tests)

digits_ascii : (bs : List ℕ) → list_all is_ascii_digit bs ≡ true → IsAscii bs
digits_ascii [] h = IsAscii-nil
digits_ascii (b ∷ bs) h = let e = and_parts (is_ascii_digit b) (list_all is_ascii_digit bs) h in IsAscii-cons b bs (digit_ascii b e.0) (digits_ascii bs e.1)

-- digits are text
pub digits_utf8 : (bs : List ℕ) → list_all is_ascii_digit bs ≡ true → is_utf8 bs ≡ true
digits_utf8 bs h = is_utf8-from_IsUtf8 bs (IsUtf8-from_ascii bs (digits_ascii bs h))

pub model : IsNumeralModel (λ ds. list_all is_ascii_digit ds ≡ true) (digits_value 10)
model = numerals_by_value _ (search rules)

not_small : (bs : List ℕ) → ((0 < length bs) × (digits_value 10 bs < 2 ^ 32) → ⊥) → fits_word bs ≡ true → ⊥
not_small bs h p =
    let e = and_parts (nat_lt 0 (length bs)) (nat_lt (digits_value 10 bs) 4294967296) p in
    h (ltb-true _ _ e.0, ltb-true _ _ e.1)

none_chosen : (a b : Bool) (n : ℕ) → b ≡ false → None ≡ (if a && b then Some n else None)
none_chosen true true n h = absurd (cc)
none_chosen true false n h = refl
none_chosen false b n h = refl

-- what is read of digits without a leading zero
pub parsed_is : {E : Type 0} (bs : List ℕ) (r : Result ℕ E) (o : Option ℕ) → list_all is_ascii_digit bs ≡ true → starts_with nat_eq bs (codes "0") ≡ false
    → ParsesUnsigned 32 10 bs r → o ≡ result_ok r → o ≡ number_in bs
parsed_is {E = E} bs (Ok n) o digits plain parsed is =
    let p = parse_digits model {E = E} 32 bs (Ok n) parsed digits in
    let some : nat_lt 0 (length bs) ≡ true = grind (arith, nat_tests, p.0.0) in
    let fits : nat_lt (digits_value 10 bs) 4294967296 ≡ true = grind (arith, nat_tests, p.0.1) in
    rw (digits, plain, some, fits) (is ∙ ap Some p.1)
parsed_is bs (Err e) o digits plain parsed is =
    is ∙ none_chosen _ (fits_word bs) (digits_value 10 bs) (false_from_ne_true (fits_word bs) (not_small bs (parse_digits model 32 bs (Err e) parsed digits)))

-- what text is chosen
pub text_chosen : (b : Bool) (t bs : List ℕ) → Some t ≡ (if b then Some bs else None) → t ≡ bs
text_chosen true t bs h = cc
text_chosen false t bs h = absurd (cc)

pub text_missed : {A : Type 0} (b : Bool) (bs : List ℕ) → None ≡ (if b then Some bs else None) → b ≡ true → A
text_missed true bs h e = absurd (cc)
text_missed false bs h e = absurd (cc)

digit_is : (b : ℕ) → is_ascii_digit b ≡ true → digit_value b ≡ b - 48
digit_is b h = grind (arith, nat_tests)

digit_at : (bs : List ℕ) (i : ℕ) → i < length bs → list_all is_ascii_digit bs ≡ true → is_ascii_digit (get_or bs i 0) ≡ true
digit_at [] i h a = absurd (omega arith)
digit_at (b ∷ bs) zero h a = (and_parts (is_ascii_digit b) (list_all is_ascii_digit bs) a).0
digit_at (b ∷ bs) (suc i) h a = digit_at bs i (omega arith) (and_parts (is_ascii_digit b) (list_all is_ascii_digit bs) a).1

capped_step : (v n d m : ℕ) → n ≡ min v 16777217 → m ≡ min (n * 10 + d) 16777217 → m ≡ min (v * 10 + d) 16777217
capped_step v n d m e f = grind (arith, nat_tests)

pub capped_more : (text : List ℕ) (i n d m : ℕ) → i < length text → list_all is_ascii_digit text ≡ true → n ≡ min (digits_value 10 (take i text)) 16777217
    → d ≡ get_or text i 0 - 48 → m ≡ min (n * 10 + d) 16777217 → m ≡ min (digits_value 10 (take (i + 1) text)) 16777217
capped_more text i n d m h digits n_is d_is m_is =
    capped_step (digits_value 10 (take i text)) n d m n_is m_is
    ∙ ap (λ x. min x 16777217) (ap (λ x. digits_value 10 (take i text) * 10 + x) (d_is ∙ sym (digit_is (get_or text i 0) (digit_at text i h digits))) ∙ sym (digits_value_more 10 text i h))

-- ---- tests of all values

pub all_over : {X : Type 0} (p : List ℕ → Bool) (f : X → List ℕ) (xs : List X) → list_all (λ x. p (f x)) xs ≡ list_all p (map f xs)
all_over p f xs = sym (list_all-map p f xs)

pub any_over : {X : Type 0} (p : List ℕ → Bool) (f : X → List ℕ) (xs : List X) → list_any (λ x. p (f x)) xs ≡ list_any p (map f xs)
any_over p f [] = refl
any_over p f (x ∷ xs) = ap (λ (b : Bool). p (f x) || b) (any_over p f xs)

pub all_same_is : {X : Type 0} (r : Bool) (f : X → List ℕ) (xs : List X) (text : List ℕ) → r ≡ list_all (λ x. bytes_eq (f x) text) xs → text ≡ first_text (map f xs) → r ≡ all_same (map f xs)
all_same_is r f xs text h e = h ∙ all_over (λ other. bytes_eq other text) f xs ∙ ap (λ t. list_all (λ other. bytes_eq other t) (map f xs)) e

-- ---- phrases

-- there is a value where they are not empty, whatever each is
pub there-map : {X : Type 0} (f : X → List ℕ) (xs : List X) → is_there (map f xs) ≡ not (length xs == 0)
there-map f [] = refl
there-map f (x ∷ xs) = sym (ap not (eqb-suc-zero (length xs)))

and_and : (a b c : Bool) → ((a && b) && c) ≡ (a && b && c)
and_and true b c = refl
and_and false b c = refl

pub three_are : (a b c d e f : Bool) → a ≡ d → b ≡ e → c ≡ f → ((a && b) && c) ≡ (d && e && f)
three_are a b c d e f p q r = rw (p, q, r) (and_and d e f)
