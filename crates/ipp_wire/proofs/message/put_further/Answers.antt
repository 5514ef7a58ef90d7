use Rattle.std.proofs.Common.{◌<◌, length, arith}
use Rattle.ipp_wire.specs.Message.{IsValue}
use Rattle.ipp_wire.specs.Owned.{owned_value}
use Rattle.ipp_wire.proofs.Lists.{at_index}
use Rattle.ipp_wire.proofs.message.put_further.Goals as goal

pub put_record-requires-clause-value : goal.put_record-requires-clause-value
put_record-requires-clause-value c =
    let within : c.loop-value.value-index < length c.args.values.now = omega arith in
    rw c.value-item.is (at_index owned_value IsValue c.args.values.now c.loop-value.value-index c.value-item.result within c.requires)
