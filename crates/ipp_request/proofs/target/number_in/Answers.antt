use Rattle.std.proofs.Common.{◌≡◌, true, sym, ◌∙◌}
use Rattle.std.specs.Char.{is_ascii_digit}
use Rattle.std.specs.List.{list_all}
use Rattle.std.specs.Str.{is_utf8}
use Rattle.queue_types.proofs.Texts.{digits_utf8}
use Rattle.ipp_request.proofs.Numbers.{text_chosen, text_missed, unparsed}
use Rattle.ipp_request.proofs.target.number_in.Goals as goal

pub returns-in_err-text : goal.returns-in_err-text
returns-in_err-text c =
    let bytes = c.args.bytes.now in
    let digits : list_all is_ascii_digit bytes ≡ true = sym c.are_digits.ensures ∙ c.if-not-are_digits.false in
    text_missed (is_utf8 bytes) bytes c.in_err-text.ensures (digits_utf8 bytes digits)

pub returns-in-Err : goal.returns-in-Err
returns-in-Err c =
    let bytes = c.args.bytes.now in
    let digits : list_all is_ascii_digit bytes ≡ true = sym c.are_digits.ensures ∙ c.if-not-are_digits.false in
    let same : c.in_ok-text.text.now ≡ bytes = text_chosen (is_utf8 bytes) _ bytes c.in_ok-text.ensures in
    unparsed bytes c.in-Err.field-0 digits (rw same at c.in-Err.ensures.value.0)
