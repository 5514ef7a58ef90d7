use Rattle.std.proofs.Common.{◌≡◌, length, take}
use Rattle.std.specs.Prelude.{map, vec_capacity, vec_len}
use Rattle.ipp_wire.specs.Viewed.{values_of}
use Rattle.ipp_reply.specs.JobReply.{texts}
use Rattle.ipp_reply.proofs.content.text_views.Given as goal

-- there is room for all
abbrev pub invariant-loop-text : goal.invariant-loop-text
invariant-loop-text l = record {
  count : vec_len l.views ≡ l.text-index;
  room : vec_capacity l.views ≡ length l.texts;
  put : values_of l.views.items ≡ texts l.tag (map (λ t. t.now) (take l.text-index l.texts));
}
