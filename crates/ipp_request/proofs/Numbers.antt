-- Numbers that digits spell.
use Rattle.std.proofs.Common.{◌≡◌, ℕ, ◌<◌, ◌≤◌, ◌^◌, List, [], ◌∷◌, Bool, true, false, ◌&&◌, length, refl, arith, rules, Err}
use Rattle.std.specs.Prelude.{Some, None, if◌then◌else◌, nat_le}
use Rattle.std.specs.List.{list_all}
use Rattle.std.specs.Char.{is_ascii_digit}
use Rattle.std.specs.Str.Parse.{digits_value, ParsesUnsigned}
use Rattle.std.proofs.lemmas.Str.Parse.{IsNumeralModel, numerals_by_value, parse_digits}
use Rattle.std.proofs.lemmas.Bool.{and_parts, false_from_ne_true, leb-true}
use Rattle.ipp_request.specs.Values.{is_positive}
use Rattle.ipp_request.specs.Request.{number_in}

pub model : IsNumeralModel (λ ds. list_all is_ascii_digit ds ≡ true) (digits_value 10)
model = numerals_by_value _ (search rules)

not_small : (bs : List ℕ) → ((0 < length bs) × (digits_value 10 bs < 2 ^ 32) → ⊥) → is_positive (digits_value 10 bs) ≡ true → ⊥
not_small [] h p = absurd (cc)
not_small (b ∷ bs) h p =
    let e = and_parts (nat_le 1 (digits_value 10 (b ∷ bs))) (nat_le (digits_value 10 (b ∷ bs)) 2147483647) p in
    let le : digits_value 10 (b ∷ bs) ≤ 2147483647 = leb-true _ _ e.1 in
    h (omega arith, omega (arith, le))

none_chosen : (a b : Bool) (n : ℕ) → b ≡ false → None ≡ (if a && b then Some n else None)
none_chosen true true n h = absurd (cc)
none_chosen true false n h = refl
none_chosen false b n h = refl

-- digits that no number of 32 bits has spell no job's number
pub unparsed : {E : Type 0} (bs : List ℕ) (e : E) → list_all is_ascii_digit bs ≡ true → ParsesUnsigned 32 10 bs (Err e) → None ≡ number_in bs
unparsed bs e digits parsed =
    none_chosen _ (is_positive (digits_value 10 bs)) (digits_value 10 bs) (false_from_ne_true (is_positive (digits_value 10 bs)) (not_small bs (parse_digits model 32 bs (Err e) parsed digits)))

-- what text is chosen
pub text_chosen : (b : Bool) (t bs : List ℕ) → Some t ≡ (if b then Some bs else None) → t ≡ bs
text_chosen true t bs h = cc
text_chosen false t bs h = absurd (cc)

pub text_missed : {A : Type 0} (b : Bool) (bs : List ℕ) → None ≡ (if b then Some bs else None) → b ≡ true → A
text_missed true bs h e = absurd (cc)
text_missed false bs h e = absurd (cc)
