use Rattle.std.proofs.Common.{◌<◌, length, map, arith}
use Rattle.std.specs.List.{AllByRecursion}
use Rattle.ipp_wire.specs.Message.{IsAttribute, IsGroup}
use Rattle.ipp_wire.specs.Owned.{owned_attribute, owned_group}
use Rattle.ipp_wire.proofs.Lists.{at_index}
use Rattle.ipp_wire.proofs.message.put_groups.Goals as goal

pub put_attributes-requires : goal.put_attributes-requires
put_attributes-requires c =
    let within : c.loop-group.group-index < length c.args.groups.now = omega arith in
    let whole = at_index owned_group IsGroup c.args.groups.now c.loop-group.group-index c.group-item.result within c.requires in
    let mine : AllByRecursion IsAttribute (map owned_attribute c.group-item.result.attributes.items) = rw c.group-item.is whole.attributes in
    rw c.deref.ensures.value mine
