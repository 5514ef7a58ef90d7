use Rattle.std.proofs.Common.{◌≡◌, ◌≤◌, true, min, take}
use Rattle.std.specs.List.{list_all}
use Rattle.std.specs.Char.{is_ascii_digit}
use Rattle.std.specs.Str.Parse.{digits_value}
use Rattle.http_head.proofs.fields.capped_number.Given as goal

abbrev pub invariant-loop-b : goal.invariant-loop-b
invariant-loop-b l = record {
  capped : l.n ≤ 16777217;
  value : list_all is_ascii_digit l.text ≡ true → l.n ≡ min (digits_value 10 (take l.b-index l.text)) 16777217;
}
