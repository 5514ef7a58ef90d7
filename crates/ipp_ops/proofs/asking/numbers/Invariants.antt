use Rattle.std.proofs.Common.{◌≡◌, length, map, take}
use Rattle.std.specs.Prelude.{unwrap_or, vec_capacity, vec_len}
use Rattle.ipp_wire.specs.Viewed.{values_of}
use Rattle.ipp_request.specs.Values.{number_of}
use Rattle.ipp_ops.proofs.asking.numbers.Given as goal

-- there is room for all
abbrev pub invariant-loop-value : goal.invariant-loop-value
invariant-loop-value l = record {
  count : vec_len l.numbers ≡ l.value-index;
  room : vec_capacity l.numbers ≡ length l.values;
  put : l.numbers.items ≡ map (λ v. unwrap_or (number_of v.bytes) 0) (values_of (take l.value-index l.values));
}
