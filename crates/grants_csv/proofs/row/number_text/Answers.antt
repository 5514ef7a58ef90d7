use Rattle.std.proofs.Common.{◌≡◌, true, sym}
use Rattle.std.specs.List.{list_all}
use Rattle.std.specs.Char.{is_ascii_digit}
use Rattle.std.specs.Str.{is_utf8}
use Rattle.grants_csv.specs.File.{is_number}
use Rattle.grants_csv.proofs.Tests.{chosen}
use Rattle.queue_types.proofs.Texts.{digits_utf8}
use Rattle.grants_csv.proofs.Texts.{is_number_of}
use Rattle.grants_csv.proofs.row.number_text.Goals as goal

pub returns-then-not-has_leading_zero : goal.returns-then-not-has_leading_zero
returns-then-not-has_leading_zero c =
    let bytes = c.args.bytes.now in
    let digits : list_all is_ascii_digit bytes ≡ true = sym c.if-are_digits.ensures in
    chosen (is_utf8 bytes) (is_number bytes) _ bytes c.utf8_text.ensures (digits_utf8 bytes digits)
    (is_number_of bytes c.if-bytes-ge1.true digits (sym c.if-not-has_leading_zero.ensures))
