use Rattle.std.specs.Prelude.{length, nat_le, not}
use Rattle.std.specs.List.{list_all}
use Rattle.std.specs.Char.{is_ascii_digit}
use Rattle.grants_csv.specs.File.{has_leading_zero}
use Rattle.std.proofs.Common.{◌&&◌}
use Rattle.std.proofs.lemmas.Bool.{and_parts}
use Rattle.grants_csv.proofs.Numbers.{unparsed}
use Rattle.grants_csv.proofs.row.pages_in.Goals as goal

pub returns-in_default-3 : goal.returns-in_default-3
returns-in_default-3 c =
    let digits = c.args.digits.now in
    let all = and_parts (nat_le 1 (length digits) && list_all is_ascii_digit digits) (not (has_leading_zero digits)) c.requires in
    let parts = and_parts (nat_le 1 (length digits)) (list_all is_ascii_digit digits) all.0 in
    unparsed digits c.in_default.field-0 parts.0 parts.1 c.in_default.ensures.value.0
