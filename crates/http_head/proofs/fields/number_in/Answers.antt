use Rattle.std.proofs.Common.{◌≡◌, true, rules, sym, ◌∙◌}
use Rattle.std.specs.Char.{is_ascii_digit}
use Rattle.std.specs.List.{list_all}
use Rattle.std.specs.Str.{is_utf8}
use Rattle.http_head.proofs.FieldLemmas.{digits_utf8, parsed_is, text_chosen, text_missed}
use Rattle.http_head.proofs.fields.number_in.Goals as goal

pub returns-in_err-utf8_text : goal.returns-in_err-utf8_text
returns-in_err-utf8_text c =
    let bytes = c.args.text.now in
    let digits : list_all is_ascii_digit bytes ≡ true = sym c.has_only_digits.ensures ∙ c.if-not-has_only_digits.false in
    text_missed (is_utf8 bytes) bytes c.in_err-utf8_text.ensures (digits_utf8 bytes digits)

pub returns : goal.returns
returns c =
    let bytes = c.args.text.now in
    let digits : list_all is_ascii_digit bytes ≡ true = sym c.has_only_digits.ensures ∙ c.if-not-has_only_digits.false in
    let same : c.in_ok-utf8_text.field-0.now ≡ bytes = text_chosen (is_utf8 bytes) _ bytes c.in_ok-utf8_text.ensures in
    parsed_is bytes c.parse.result c.ok.result digits (search rules) (rw same at c.parse.ensures.value.0) c.ok.ensures.value
