use Rattle.std.proofs.Common.{◌<◌, length, arith}
use Rattle.ipp_wire.specs.Message.{IsAttribute}
use Rattle.ipp_wire.specs.Owned.{owned_attribute}
use Rattle.ipp_wire.proofs.Lists.{at_index}
use Rattle.ipp_wire.proofs.message.put_attributes.Goals as goal

pub put_attribute-requires : goal.put_attribute-requires
put_attribute-requires c =
    let within : c.loop-attribute.attribute-index < length c.args.attributes.now = omega arith in
    rw c.attribute-item.is (at_index owned_attribute IsAttribute c.args.attributes.now c.loop-attribute.attribute-index c.attribute-item.result within c.requires)
