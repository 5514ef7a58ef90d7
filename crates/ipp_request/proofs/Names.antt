-- A name with its language, as it is spelled and as it is read.
use Rattle.std.proofs.Common.{◌≡◌, ◌+◌, ◌≤◌, ◌<◌, ◌^◌, ◌++◌, ◌&&◌, ℕ, zero, suc, List, [], ◌∷◌, true, length, take, drop, get_or, refl, sym, ap, ◌∙◌, arith, take-append-drop, length-drop}
use Rattle.std.specs.Prelude.{Option, Some, None, if◌then◌else◌, nat_le, ◌==◌}
use Rattle.std.specs.Int.{w16, from_be_bytes, to_be_bytes}
use Rattle.std.proofs.lemmas.Bool.{and_parts}
use Rattle.std.proofs.lemmas.Bool.Decides.{nat_tests}
use Rattle.std.proofs.lemmas.List.{drop_at, length-take-le}
use Rattle.std.proofs.lemmas.Option.{cond_some}
use Rattle.std.proofs.lemmas.Nat.{be_bytes_2, from_be_bytes-to_be_bytes_2}
use Rattle.ipp_wire.specs.Message.{text_bytes}
use Rattle.ipp_request.specs.Values.{after_text, behind_language}

-- the text that is left, with its length before it and nothing behind it
abbrev last_text : List ℕ → Option (List ℕ)
last_text rest = if nat_le 2 (length rest) && length rest == 2 + from_be_bytes w16 rest then Some (drop 2 rest) else None

two_more : (n : ℕ) → 2 + n ≡ suc (suc n)
two_more n = omega arith

after : (text rest : List ℕ) → length text < 2 ^ 16 → after_text (text_bytes text ++ rest) ≡ rest
after text rest short =
    ap (λ n. drop (2 + n) (text_bytes text ++ rest)) (from_be_bytes-to_be_bytes_2 (length text) short)
    ∙ ap (λ n. drop n (text_bytes text ++ rest)) (two_more (length text))
    ∙ drop_at text rest (length text) refl

tested : (l f n : ℕ) → l ≡ 2 + n → f ≡ n → (nat_le 2 l && (l == 2 + f)) ≡ true
tested l f n p q = grind (arith, nat_tests)

last : (name : List ℕ) → length name < 2 ^ 16 → last_text (text_bytes name) ≡ Some name
last name short =
    let size : length (text_bytes name) ≡ 2 + length name = omega arith in
    ap (λ b. if b then Some name else None) (tested (length (text_bytes name)) (from_be_bytes w16 (text_bytes name)) (length name) size (from_be_bytes-to_be_bytes_2 (length name) short))

pub read : (language name : List ℕ) → length language < 2 ^ 16 → length name < 2 ^ 16 → behind_language (text_bytes language ++ text_bytes name) ≡ Some name
read language name l n = ap last_text (after language (text_bytes name) l) ∙ last name n

sized : (l f : ℕ) → (suc (suc l) == 2 + f) ≡ true → l ≡ f
sized l f h = grind (arith, nat_tests)

two : (a b : ℕ) (text : List ℕ) → ((i : ℕ) → get_or (a ∷ b ∷ text) i 0 < 256) → (i : ℕ) → get_or (a ∷ b ∷ []) i 0 < 256
two a b text small zero = small 0
two a b text small (suc zero) = small 1
two a b text small (suc (suc i)) = omega arith

-- two bytes spell a number of 16 bits
sixteen_bits : (a b : ℕ) (text : List ℕ) → ((i : ℕ) → get_or (a ∷ b ∷ text) i 0 < 256) → from_be_bytes w16 (a ∷ b ∷ []) < 2 ^ 16
sixteen_bits a b text small = let high : a < 256 = small 0 in let low : b < 256 = small 1 in omega arith

-- what is read as the last text is its spelling
last_spelled : (rest name : List ℕ) → ((i : ℕ) → get_or rest i 0 < 256) → last_text rest ≡ Some name → (length name < 2 ^ 16) × (rest ≡ text_bytes name)
last_spelled [] name small e = absurd (cc)
last_spelled (a ∷ []) name small e = absurd (cc)
last_spelled (a ∷ b ∷ text) name small e =
    let p = cond_some (nat_le 2 (length (a ∷ b ∷ text)) && length (a ∷ b ∷ text) == 2 + from_be_bytes w16 (a ∷ b ∷ text)) text name e in
    let q = and_parts (nat_le 2 (length (a ∷ b ∷ text))) (length (a ∷ b ∷ text) == 2 + from_be_bytes w16 (a ∷ b ∷ text)) p.0 in
    let size : length text ≡ from_be_bytes w16 (a ∷ b ∷ []) = sized (length text) (from_be_bytes w16 (a ∷ b ∷ [])) q.1 in
    let front : to_be_bytes w16 (length text) ≡ a ∷ b ∷ [] = be_bytes_2 (a ∷ b ∷ []) (length text) refl (two a b text small) size in
    let bounded = sixteen_bits a b text small in
    (omega (arith, size, bounded, ap length p.1), sym (ap (λ (l : List ℕ). l ++ text) front) ∙ ap text_bytes p.1)

small_drop : (n : ℕ) (xs : List ℕ) → ((i : ℕ) → get_or xs i 0 < 256) → (i : ℕ) → get_or (drop n xs) i 0 < 256
small_drop zero xs small i = small i
small_drop (suc n) [] small i = small i
small_drop (suc n) (x ∷ xs) small i = small_drop n xs (λ k. small (suc k)) i

-- what is left behind the language
left_of : (bytes name : List ℕ) → ((i : ℕ) → get_or bytes i 0 < 256) → behind_language bytes ≡ Some name → (length name < 2 ^ 16) × (after_text bytes ≡ text_bytes name)
left_of bytes name small e = last_spelled (after_text bytes) name (small_drop (2 + from_be_bytes w16 bytes) bytes small) e

not_short : (bytes name : List ℕ) → after_text bytes ≡ text_bytes name → 4 + from_be_bytes w16 bytes ≤ length bytes
not_short bytes name left =
    let size : length (text_bytes name) ≡ 2 + length name = omega arith in
    let e = ap length left in
    let f = length-drop (2 + from_be_bytes w16 bytes) bytes in
    omega (arith, size, e, f)

pub spelled : (bytes name : List ℕ) → ((i : ℕ) → get_or bytes i 0 < 256) → behind_language bytes ≡ Some name → (language : List ℕ) × (length language < 2 ^ 16) × (length name < 2 ^ 16) × (bytes ≡ text_bytes language ++ text_bytes name)
spelled [] name small e = let many = not_short [] name (left_of [] name small e).1 in absurd (omega (arith, many))
spelled (a ∷ []) name small e = let many = not_short (a ∷ []) name (left_of (a ∷ []) name small e).1 in absurd (omega (arith, many))
spelled (a ∷ b ∷ text) name small e =
    let n = from_be_bytes w16 (a ∷ b ∷ []) in
    let left = left_of (a ∷ b ∷ text) name small e in
    let many = not_short (a ∷ b ∷ text) name left.1 in
    let rest : drop n text ≡ text_bytes name = sym (ap (λ k. drop k (a ∷ b ∷ text)) (two_more n)) ∙ left.1 in
    let fits : n ≤ length text = omega (arith, many) in
    let len : length (take n text) ≡ n = length-take-le n text fits in
    let bounded = sixteen_bits a b text small in
    let front : to_be_bytes w16 (length (take n text)) ≡ a ∷ b ∷ [] = be_bytes_2 (a ∷ b ∷ []) (length (take n text)) refl (two a b text small) len in (
      take n text,
      omega (arith, len, bounded),
      left.0,
      ap (λ (l : List ℕ). a ∷ b ∷ l) (sym (take-append-drop n text))
          ∙ ap (λ (l : List ℕ). a ∷ b ∷ (take n text ++ l)) rest
          ∙ ap (λ (l : List ℕ). (l ++ take n text) ++ text_bytes name) (sym front),
    )
