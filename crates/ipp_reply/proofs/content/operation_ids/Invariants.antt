use Rattle.std.proofs.Common.{◌≡◌, length, take}
use Rattle.std.specs.Int.{w32, to_be_bytes}
use Rattle.std.specs.Prelude.{map, vec_capacity, vec_len}
use Rattle.ipp_reply.specs.Operations.{id, operations}
use Rattle.ipp_reply.proofs.content.operation_ids.Given as goal

-- there is room for all
abbrev pub invariant-loop-operation : goal.invariant-loop-operation
invariant-loop-operation l = record {
  count : vec_len l.ids ≡ l.operation-index;
  room : vec_capacity l.ids ≡ length operations;
  put : l.ids.items ≡ map (λ o. to_be_bytes w32 (id o)) (take l.operation-index operations);
}
