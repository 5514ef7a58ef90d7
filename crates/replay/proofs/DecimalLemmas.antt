-- A number of decimal digits without leading zeros, as a text is read.
use Rattle.std.proofs.Common.{◌≡◌, ◌≢◌, ℕ, zero, suc, ◌<◌, ◌≤◌, ◌^◌, Bool, true, false, List, [], ◌∷◌, length, get_or, Some, None, Result, Ok, refl, sym, ap, ◌∙◌, arith}
use Rattle.std.specs.Prelude.{IfSome, IfNone, slice_get}
use Rattle.std.specs.Bool.{then_some}
use Rattle.std.specs.Fmt.{decimal}
use Rattle.std.specs.Str.{IsUtf8}
use Rattle.std.specs.Str.Parse.{AllDigits, ParsesUnsigned, digits_value}
use Rattle.std.proofs.lemmas.Fmt.{IsAscii-decimal, decimal-digits_value, decimal_digit, decimal_nonempty, first_decimal, parse-decimal}
use Rattle.std.proofs.lemmas.Result.{OkIff-at_ok}
use Rattle.std.proofs.lemmas.Str.{IsUtf8-from_ascii}
use Rattle.std.proofs.lemmas.Str.Parse.{IsNumeralModel, numerals_by_value, parse_plain, tells_digits}
use Rattle.queue_core.specs.Limits.{IsMoment}

own : IsNumeralModel (AllDigits 10) (digits_value 10)
own = numerals_by_value _ tells_digits

-- ---- what a moment's digits are

pub has_digits : (digits : List ℕ) (n : ℕ) → IsMoment n → digits ≡ decimal n → 0 < length digits
has_digits digits n h e = rw e (decimal_nonempty n (omega arith))

pub begins_above_zero : (digits : List ℕ) (n : ℕ) → IsMoment n → digits ≡ decimal n → 48 < get_or digits 0 0
begins_above_zero digits n h e = rw e (first_decimal n (omega arith) (omega arith))

pub is_text : (digits : List ℕ) (n : ℕ) → IsMoment n → digits ≡ decimal n → IsUtf8 digits
is_text digits n h e = rw e (IsUtf8-from_ascii _ (IsAscii-decimal n (omega arith)))

pub parses : {E : Type 0} (digits : List ℕ) (n : ℕ) (r : Result ℕ E) → IsMoment n → digits ≡ decimal n
    → ParsesUnsigned 32 10 digits r → r ≡ Ok n
parses digits n r h e p = parse-decimal 32 n digits r (omega arith) (omega arith) e p

-- ---- what is read

read_is : (digits : List ℕ) → get_or digits 0 0 ≢ 48
    → AllDigits 10 digits × (0 < length digits) × (digits_value 10 digits < 2 ^ 32)
    → digits ≡ decimal (digits_value 10 digits)
read_is digits no_zero h =
    sym (decimal-digits_value own digits h.0 h.1 (λ zero. absurd (no_zero zero)) (omega (arith, h.2)))

-- digits that don't begin with a zero are no spelling of zero
above_zero : (digits : List ℕ) (n : ℕ) → get_or digits 0 0 ≢ 48 → digits ≡ decimal n → 1 ≤ n
above_zero digits zero no_zero e = absurd (no_zero (rw (e, decimal_digit 0 (omega arith)) refl))
above_zero digits (suc n) no_zero e = omega arith

pub number_read : (E : Type 0) (digits : List ℕ) (n : ℕ) (r : Result ℕ E) → get_or digits 0 0 ≢ 48
    → get_or digits 0 0 ≢ 43 → ParsesUnsigned 32 10 digits r → r ≡ Ok n → (1 ≤ n) × (digits ≡ decimal n)
number_read E digits n r no_zero no_plus p ok =
    let plain = OkIff-at_ok r _ _ n (parse_plain own 32 digits r p no_plus) ok in
    let is : digits ≡ decimal n = read_is digits no_zero plain.0 ∙ ap decimal (sym plain.1) in
    (above_zero digits n no_zero is, is)

-- ---- what the steps of the reading say

pub first_is : (digits : List ℕ) (first : ℕ) → Some first ≡ slice_get digits 0 → get_or digits 0 0 ≡ first
first_is [] first h = cc h
first_is (x ∷ rest) first h = cc h

pub has_first : (digits : List ℕ) → None ≡ slice_get digits 0 → 0 < length digits → ⊥
has_first [] h some = omega arith
has_first (x ∷ rest) h some = cc h

pub kept : (b : Bool) (n : ℕ) (P : ℕ → Type 0) → (b ≡ true → P n) → IfSome (then_some b n) P
kept true n P h = h refl
kept false n P h = tt

pub lost : (b : Bool) (n : ℕ) (P : Type 0) → (b ≡ false → P) → IfNone (then_some b n) P
lost true n P h = tt
lost false n P h = h refl
