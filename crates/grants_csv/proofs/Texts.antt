-- Batches are text, and numbers by their parts.
use Rattle.std.proofs.Common.{◌≡◌, ◌<◌, ◌≤◌, ℕ, List, true, false, refl, arith, length}
use Rattle.std.specs.Prelude.{not, nat_le}
use Rattle.std.proofs.lemmas.Bool.{le-leb}
use Rattle.std.specs.List.{list_all}
use Rattle.std.specs.Char.{is_ascii_digit}
use Rattle.std.specs.Str.{is_utf8}
use Rattle.std.proofs.lemmas.Bool.Decides.{nat_tests}
use Rattle.queue_types.proofs.Texts.{all_utf8}
use Rattle.queue_core.specs.Limits.{is_batch_byte}
use Rattle.grants_csv.specs.File.{has_leading_zero, is_number}
use Rattle.grants_csv.proofs.Tests.{and_three}

batch_byte_ascii : (b : ℕ) → is_batch_byte b ≡ true → b < 128
batch_byte_ascii b h = grind (arith, nat_tests)

pub batch_utf8 : (bs : List ℕ) → list_all is_batch_byte bs ≡ true → is_utf8 bs ≡ true
batch_utf8 = all_utf8 is_batch_byte batch_byte_ascii

-- a number, told by its parts
pub is_number_of : (bs : List ℕ) → 1 ≤ length bs → list_all is_ascii_digit bs ≡ true → has_leading_zero bs ≡ false → is_number bs ≡ true
is_number_of bs some digits zero = and_three (nat_le 1 (length bs)) (list_all is_ascii_digit bs) (not (has_leading_zero bs)) (le-leb 1 (length bs) some) digits (rw zero refl)
