-- When a text of hexadecimal digits decodes, and the text of bytes joined.
use Rattle.std.proofs.Common.{◌≡◌, ℕ, ◌/◌, ◌%◌, ◌<◌, ◌≤◌, ◌==◌, ◌&&◌, true, List, [], ◌∷◌, ◌++◌, length, Result, Ok, Err, refl, sym, ◌∙◌, arith}
use Rattle.std.specs.Prelude.{Option, is_ok, IsOk, IsOkAnd}
use Rattle.std.specs.Io.KnownBytes.{Appends}
use Rattle.std.proofs.KnownBytes.{Appends-nil, Appends-trans}
use Rattle.std.specs.List.{list_all}
use Rattle.std.specs.Char.{is_ascii_hexdigit}
use Rattle.std.proofs.lemmas.List.Sums.{AllPass-from_list_all, list_all-from_AllPass}
use Rattle.std.proofs.lemmas.Bool.{and_parts, eqb-true}
use Rattle.std.proofs.lemmas.Bool.Decides.{nat_tests, same_from_decides}
use Rattle.hex.specs.Hex.{decode_of, encode_lower, encode_with, is_hex_digit}
use Rattle.hex.specs.declared.error.FromHexError.{FromHexError}
use Rattle.hex.proofs.HexLemmas.{decode_of-digits, decode_of-ok}

-- the digits of the two crates are the same
same_digit : (c : ℕ) → is_hex_digit c ≡ is_ascii_hexdigit c
same_digit c = grind (arith, nat_tests)

same_digits : (text : List ℕ) → list_all is_hex_digit text ≡ list_all is_ascii_hexdigit text
same_digits [] = refl
same_digits (c ∷ rest) = rw (same_digit c, same_digits rest) refl

at_ok : {V E : Type 0} (r : Result V E) → is_ok r ≡ true → (v : V) × (r ≡ Ok v)
at_ok (Ok v) h = (v, refl)
at_ok (Err e) h = cc h

abbrev limit : ℕ
limit = 16777216

-- an even number of digits decodes, and nothing else does
pub is_ok-decode_of : (text : List ℕ)
    → is_ok (decode_of text) ≡ ((length text % 2 == 0) && list_all is_ascii_hexdigit text)
is_ok-decode_of text =
    same_from_decides {P = IsOk (decode_of text)} _ _ (λ h. h, λ h. h) (
      λ h.
          let parts = and_parts (length text % 2 == 0) _ h in
          let digits = rw (← same_digits text) at parts.1 in
          let bytes = decode_of-digits text (eqb-true _ 0 parts.0) (AllPass-from_list_all is_hex_digit text digits) in
          rw bytes.1 refl,
      λ h.
          let bytes = at_ok (decode_of text) h in
          let form = decode_of-ok text bytes.0 bytes.1 in
          let digits : list_all is_ascii_hexdigit text ≡ true =
          sym (same_digits text) ∙ list_all-from_AllPass is_hex_digit text form.1 in
          rw (digits, form.0) refl,
    )

-- the bytes of a text are half as many as its digits
pub length-decoded : (text bytes : List ℕ) → decode_of text ≡ Ok bytes
    → length bytes ≡ length text / 2
length-decoded text bytes h =
    let form = decode_of-ok text bytes h in
    let len = form.2 in
    omega (arith, len)

at_bytes : (r : Result (List ℕ) FromHexError) (bytes : List ℕ) (P : List ℕ → Type 0) → r ≡ Ok bytes
    → P bytes → IsOkAnd r P
at_bytes r bytes P e h = rw e h

pub too_long : (text : List ℕ) → true ≡ is_ok (decode_of text) → limit < length text / 2
    → IsOkAnd (decode_of text) (λ bytes. limit < length bytes)
too_long text is_hexadecimal over =
    let bytes = at_ok (decode_of text) (sym is_hexadecimal) in
    let len = length-decoded text bytes.0 bytes.1 in
    at_bytes _ bytes.0 _ bytes.1 (omega (arith, len))

pub ok_and : {V E : Type 0} (r : Result V E) (P : V → Type 0) → IsOkAnd r P → (v : V) × (r ≡ Ok v) × P v
ok_and (Ok v) P h = (v, refl, h)
ok_and (Err e) P h = absurd h

pub not_too_long : (text : List ℕ) → length text / 2 ≤ limit
    → IsOkAnd (decode_of text) (λ bytes. limit < length bytes) → ⊥
not_too_long text within h =
    let bytes = ok_and (decode_of text) _ h in
    let len = length-decoded text bytes.0 bytes.1 in
    let over = bytes.2 in
    omega (arith, len, over)

-- text by text
pub encode_lower-append : (xs ys : List ℕ)
    → encode_lower (xs ++ ys) ≡ encode_lower xs ++ encode_lower ys
unfolding encode_with
encode_lower-append [] ys = refl
encode_lower-append (x ∷ xs) ys = rw (encode_lower-append xs ys) refl

pub nothing_written : (a : Option (List ℕ)) → Appends a a (encode_lower [])
unfolding encode_with
nothing_written a = Appends-nil a

-- one more piece behind those before it
pub piece_written : (a b c : Option (List ℕ)) (front piece : List ℕ) → Appends a b (encode_lower front)
    → Appends b c (encode_lower piece) → Appends a c (encode_lower (front ++ piece))
piece_written a b c front piece h k = rw (encode_lower-append front piece) (Appends-trans a b c _ _ h k)
