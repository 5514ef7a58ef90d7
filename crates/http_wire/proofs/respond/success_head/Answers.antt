use Rattle.std.proofs.Common.{refl}
use Rattle.http_wire.specs.Responses.{success_head}
use Rattle.http_wire.proofs.respond.success_head.Goals as goal

pub returns : goal.returns
unfolding success_head
returns c = rw (c.add-7.ensures, c.add-6.ensures, c.add-5.ensures, c.add-4.ensures, c.add-3.ensures, c.add-2.ensures, c.add.ensures, c.new-head.ensures, c.as_bytes.ensures.value, c.as_bytes-2.ensures.value, c.format.ensures.text, c.as_bytes-3.ensures.value, c.close_line.ensures.value) refl
