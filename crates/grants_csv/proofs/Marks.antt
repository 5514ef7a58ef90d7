-- How long a text is behind its byte order mark.
use Rattle.std.proofs.Common.{◌≡◌, ◌∙◌, ◌+◌, ◌≤◌, ℕ, Bool, Bor, List, [], ◌∷◌, ◌++◌, Option, None, Some, true, false, ◌&&◌, length, take, drop, nat_eq, refl, sym, ap, arith, take-append-drop}
use Rattle.std.specs.Prelude.{MatchOption, if◌then◌else◌, unwrap_or}
use Rattle.std.specs.Cmp.Lexicographic.{pointwise, same_text}
use Rattle.csv.specs.Reading.{strip_bom}

abbrev pub mark : List ℕ
mark = 0xEF ∷ 0xBB ∷ 0xBF ∷ []

-- the rest is what follows the mark
marked : (bs : List ℕ) → pointwise nat_eq (take 3 bs) mark ≡ true → strip_bom bs ≡ drop 3 bs
unfolding strip_bom
marked bs h = ap strip_bom (sym (take-append-drop 3 bs) ∙ ap (λ (t : List ℕ). t ++ drop 3 bs) (same_text (take 3 bs) mark (sym h)))

by_bytes : (x y z : Bool) (rest whole : List ℕ) → (x && (y && (z && true))) ≡ false → (if x && y && z then rest else whole) ≡ whole
by_bytes true true true rest whole h = absurd (cc)
by_bytes _ _ _ rest whole h = refl

-- nothing is stripped of a text without it
unmarked : (bs : List ℕ) → pointwise nat_eq (take 3 bs) mark ≡ false → strip_bom bs ≡ bs
unfolding strip_bom
unmarked (a ∷ b ∷ c ∷ rest) h = by_bytes (nat_eq a 0xEF) (nat_eq b 0xBB) (nat_eq c 0xBF) rest (a ∷ b ∷ c ∷ rest) h
unmarked _ h = refl

-- the length of what is left, and its limit
pub stripped_len : (bs : Bor (List ℕ)) (o : Option (Bor (List ℕ)))
    → MatchOption o (pointwise nat_eq (take 3 bs.now) mark ≡ false)
    (λ x. (pointwise nat_eq (take 3 bs.now) mark ≡ true) × (x.now ≡ drop 3 bs.now) × (length x.now + 3 ≡ length bs.now))
    → (length (unwrap_or o bs).now ≡ length (strip_bom bs.now)) × (length (unwrap_or o bs).now ≤ length bs.now)
stripped_len bs (Some x) h =
    let whole = h.2 in
    (ap length (h.1 ∙ sym (marked bs.now h.0)), omega (arith, whole))
stripped_len bs None h = (ap length (sym (unmarked bs.now h)), omega arith)
