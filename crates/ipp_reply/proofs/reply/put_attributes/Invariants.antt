use Rattle.std.proofs.Common.{◌≡◌, ◌<◌, length, take}
use Rattle.std.specs.Prelude.{fold}
use Rattle.ipp_wire.specs.Owned.{add_attribute}
use Rattle.ipp_wire.specs.Viewed.{attributes_of}
use Rattle.ipp_reply.proofs.reply.put_attributes.Given as goal

abbrev pub invariant-loop-attribute : goal.invariant-loop-attribute
invariant-loop-attribute l = (0 < length l.message.groups) × (l.message ≡ record l.fn.message { groups = fold (λ gs a. add_attribute a gs) l.fn.message.groups (take l.attribute-index (attributes_of l.attrs)) })
