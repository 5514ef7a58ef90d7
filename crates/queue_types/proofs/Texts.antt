-- Bytes that are text.
use Rattle.std.proofs.Common.{◌≡◌, ◌<◌, ℕ, List, [], ◌∷◌, Bool, true, false, ◌&&◌, refl, arith}
use Rattle.std.specs.Prelude.{IsUtf8}
use Rattle.std.specs.List.{list_all}
use Rattle.std.specs.Char.{is_ascii_digit}
use Rattle.std.specs.Str.{IsAscii, is_utf8}
use Rattle.std.proofs.lemmas.Bool.Decides.{nat_tests}
use Rattle.std.proofs.lemmas.Str.{IsUtf8-from_ascii, IsUtf8-from_is_utf8, is_utf8-from_IsUtf8}
use Rattle.std.proofs.lemmas.Str.Ascii.{IsAscii-nil, IsAscii-cons}

-- a test fails of what it would decide wrongly
pub no_text : (text : List ℕ) → (IsUtf8 text → ⊥) → is_utf8 text ≡ false
no_text text h =
    elim (is_utf8 text) as (λ b. is_utf8 text ≡ b → b ≡ false) [ true ↦ λ t. absurd (h (IsUtf8-from_is_utf8 text t)) | false ↦ λ _. refl ] refl

pub both : (a b : Bool) → (a && b) ≡ true → (a ≡ true) × (b ≡ true)
both true b h = (refl, h)
both false b h = absurd (cc)

all_ascii : (p : ℕ → Bool) → ((b : ℕ) → p b ≡ true → b < 128) → (bs : List ℕ) → list_all p bs ≡ true → IsAscii bs
all_ascii p low [] h = IsAscii-nil
all_ascii p low (b ∷ bs) h = let e = both (p b) (list_all p bs) h in IsAscii-cons b bs (low b e.0) (all_ascii p low bs e.1)

-- bytes that pass a test of ASCII alone are text
pub all_utf8 : (p : ℕ → Bool) → ((b : ℕ) → p b ≡ true → b < 128) → (bs : List ℕ) → list_all p bs ≡ true → is_utf8 bs ≡ true
all_utf8 p low bs h = is_utf8-from_IsUtf8 bs (IsUtf8-from_ascii bs (all_ascii p low bs h))

digit_ascii : (b : ℕ) → is_ascii_digit b ≡ true → b < 128
digit_ascii b h = grind (arith, nat_tests)

pub digits_utf8 : (bs : List ℕ) → list_all is_ascii_digit bs ≡ true → is_utf8 bs ≡ true
digits_utf8 = all_utf8 is_ascii_digit digit_ascii
