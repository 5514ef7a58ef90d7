-- What `{:>n}` writes of a number stands on the right of n columns.
use Rattle.std.proofs.Common.{◌≡◌, ℕ, zero, suc, ◌-◌, ◌^◌, List, [], ◌∷◌, ◌++◌, true, false, ℤ, pos, negsuc, length, replicate, refl, ap, sym, arith}
use Rattle.std.specs.Prelude.{codes, decimal, unsigned_abs}
use Prim.Native.Nat.compare
use lib.Utf8.{encode}
use Rattle.std.specs.List.{repeat}
use Rattle.std.specs.Fmt.{char_count, format_spec, padded_integral, signed_decimal}
use Rattle.std.specs.Int.{is_negative}
use Rattle.std.proofs.lemmas.List.{append-nil}
use mathlib.Core.List.{append_assoc}
use Rattle.page_statements.specs.Statement.{amount, left, right, row}

spaces : (n : ℕ) → repeat {A = ℕ} n (32 ∷ []) ≡ replicate n 32
spaces zero = refl
spaces (suc n) = ap (λ text. 32 ∷ text) (spaces n)

-- digits without a sign
pub right_digits : (columns : ℕ) (digits : List ℕ) → padded_integral (format_spec 32 3 0 columns (2 ^ 64 - 1)) false [] digits ≡ right columns digits
unfolding padded_integral char_count encode
right_digits columns digits =
    let size : columns - length digits - 0 - 0 ≡ columns - length digits = omega arith in
    let behind : (columns - length digits) - (columns - length digits) ≡ 0 = omega arith in
    rw (size, behind, spaces (columns - length digits)) (simp (append-nil {A = ℕ}) refl)

-- digits behind a minus sign
right_negative : (columns : ℕ) (digits : List ℕ) → padded_integral (format_spec 32 3 0 columns (2 ^ 64 - 1)) true [] digits ≡ right columns (45 ∷ digits)
unfolding padded_integral char_count encode
right_negative columns digits =
    let size : columns - length digits - 1 - 0 ≡ columns - length (45 ∷ digits) = omega arith in
    let behind : (columns - length (45 ∷ digits)) - (columns - length (45 ∷ digits)) ≡ 0 = omega arith in
    rw (size, behind, spaces (columns - length (45 ∷ digits))) (simp (append_assoc {A = ℕ}, append-nil {A = ℕ}) refl)

-- a signed number
pub right_number : (columns : ℕ) (z : ℤ) → padded_integral (format_spec 32 3 0 columns (2 ^ 64 - 1)) (is_negative z) [] (decimal (unsigned_abs z)) ≡ right columns (signed_decimal z)
right_number columns (pos n) = rw (compare.suc-zero n) (right_digits columns (decimal n))
right_number columns (negsuc n) = right_negative columns (decimal (suc n))

-- ---- lines behind what is written already

-- what a line of an amount appends
pub amount_line : (old label written pages : List ℕ) → written ≡ right 14 pages → old ++ (left 10 label ++ (written ++ 10 ∷ [])) ≡ old ++ amount label pages
amount_line old label written pages e = rw e (ap (λ line. old ++ line) (sym (append_assoc (left 10 label) (right 14 pages) (10 ∷ []))))

four : (a b c d : List ℕ) → a ++ (b ++ (c ++ d)) ≡ a ++ b ++ c ++ d
four a b c d = simp (append_assoc {A = ℕ}) refl

-- what the line of the totals appends
pub total_line : (old written-1 written-2 reserved printed : List ℕ) → written-1 ≡ right 9 reserved → written-2 ≡ right 9 printed
    → old ++ (codes "     total       " ++ (written-1 ++ (32 ∷ [] ++ (written-2 ++ 10 ∷ [])))) ≡ old ++ row (codes "total") [] reserved printed
total_line old written-1 written-2 reserved printed e f = rw (e, f) (ap (λ line. old ++ (codes "     total       " ++ line)) (four (right 9 reserved) (32 ∷ []) (right 9 printed) (10 ∷ [])))

pub five_lines : (old a b c d e : List ℕ) → old ++ a ++ b ++ c ++ d ++ e ≡ old ++ (a ++ b ++ c ++ d ++ e)
five_lines old a b c d e = simp (append_assoc {A = ℕ}) refl

pub three_parts : (old a b c : List ℕ) → old ++ a ++ b ++ c ≡ old ++ (a ++ b ++ c)
three_parts old a b c = simp (append_assoc {A = ℕ}) refl
