use Rattle.std.proofs.Common.{◌≡◌, length, take}
use Rattle.std.specs.Prelude.{map, vec_capacity, vec_len}
use Rattle.queue_types.specs.Formats.{format_name, formats}
use Rattle.ipp_reply.proofs.content.format_names.Given as goal

-- there is room for all
abbrev pub invariant-loop-format : goal.invariant-loop-format
invariant-loop-format l = record {
  count : vec_len l.names ≡ l.format-index;
  room : vec_capacity l.names ≡ length formats;
  put : map (λ t. t.now) l.names.items ≡ map format_name (take l.format-index formats);
}
