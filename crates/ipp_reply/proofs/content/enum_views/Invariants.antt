use Rattle.std.proofs.Common.{◌≡◌, length, take}
use Rattle.std.specs.Prelude.{map, vec_capacity, vec_len}
use Rattle.ipp_wire.specs.Viewed.{values_of}
use Rattle.ipp_reply.proofs.content.enum_views.Given as goal

-- there is room for all
abbrev pub invariant-loop-id : goal.invariant-loop-id
invariant-loop-id l = record {
  count : vec_len l.views ≡ l.id-index;
  room : vec_capacity l.views ≡ length l.ids;
  put : values_of l.views.items ≡ map (λ id. record { tag = 0x23; bytes = id }) (take l.id-index l.ids);
}
