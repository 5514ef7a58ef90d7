use Rattle.std.proofs.Common.{rules}
use Rattle.http_wire.specs.Responses.{continue_response}
use Rattle.http_wire.proofs.respond.interim_response.Goals as goal

pub returns-then-expects : goal.returns-then-expects
unfolding continue_response
returns-then-expects c = search rules
