-- Numbers that digits spell.
use Rattle.std.proofs.Common.{◌≡◌, ℕ, ◌<◌, ◌≤◌, ◌^◌, List, Bool, true, ◌&&◌, length, refl, arith, rules, Err}
use Rattle.std.specs.Prelude.{Some, None, if◌then◌else◌, nat_le}
use Rattle.std.specs.List.{list_all}
use Rattle.std.specs.Char.{is_ascii_digit}
use Rattle.std.specs.Str.Parse.{digits_value, ParsesUnsigned}
use Rattle.std.proofs.lemmas.Bool.{leb-true}
use Rattle.std.proofs.lemmas.Str.Parse.{IsNumeralModel, numerals_by_value, parse_digits}
use Rattle.grants_csv.specs.File.{pages_in}

pub model : IsNumeralModel (λ ds. list_all is_ascii_digit ds ≡ true) (digits_value 10)
model = numerals_by_value _ (search rules)

not_small : (bs : List ℕ) → nat_le 1 (length bs) ≡ true → ((0 < length bs) × (digits_value 10 bs < 2 ^ 32) → ⊥) → nat_le (digits_value 10 bs) 1000000 ≡ true → ⊥
not_small bs some h p =
    let one : 1 ≤ length bs = leb-true _ _ some in
    let le : digits_value 10 bs ≤ 1000000 = leb-true _ _ p in
    h (omega (arith, one), omega (arith, le))

none_chosen : (a b : Bool) (n : ℕ) → (b ≡ true → ⊥) → None ≡ (if a && b then Some n else None)
none_chosen true true n h = absurd (h refl)
none_chosen _ _ n h = refl

-- digits that no number of 32 bits has are out of range
pub unparsed : {E : Type 0} (bs : List ℕ) (e : E) → nat_le 1 (length bs) ≡ true → list_all is_ascii_digit bs ≡ true → ParsesUnsigned 32 10 bs (Err e) → None ≡ pages_in bs
unparsed bs e some digits parsed =
    none_chosen _ (nat_le (digits_value 10 bs) 1000000) (digits_value 10 bs) (not_small bs some (parse_digits model 32 bs (Err e) parsed digits))
