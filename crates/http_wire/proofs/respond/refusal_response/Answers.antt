use Rattle.std.proofs.Common.{refl}
use Rattle.http_wire.specs.Responses.{refusal_response}
use Rattle.http_wire.proofs.respond.refusal_response.Goals as goal

pub returns : goal.returns
unfolding refusal_response
returns c = rw (c.add-7.ensures, c.add-6.ensures, c.add-5.ensures, c.add-4.ensures, c.add-3.ensures, c.add-2.ensures, c.add.ensures, c.new-response.ensures, c.as_bytes.ensures.value, c.as_bytes-2.ensures.value, c.as_bytes-3.ensures.value, c.format.ensures.text, c.code.ensures, c.phrase_of-phrase.ensures.value, c.allow_line.ensures.value) refl
