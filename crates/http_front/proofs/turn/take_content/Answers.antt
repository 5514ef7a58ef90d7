use Rattle.std.proofs.Common.{inl, inr, refl}
use Rattle.http_wire.specs.Responses.{interim_response}
use Rattle.http_front.proofs.WriteLemmas.{front_all}
use Rattle.http_front.proofs.turn.take_content.Goals as goal

pub returns-in-Err-Ended-clause-untaken : goal.returns-in-Err-Ended-clause-untaken
returns-in-Err-Ended-clause-untaken g c = (inl (rw (c.in-Err-Ended.field-0-is, c.in-Ok.ensures.leave) at c.in-Err-Ended.ensures.ended), c.in-Ok.ensures.ok)

pub returns-in-Err-Memory-clause-untaken : goal.returns-in-Err-Memory-clause-untaken
returns-in-Err-Memory-clause-untaken g c = (inr refl, c.in-Ok.ensures.ok)

pub returns-in-Err-Read-clause-untaken : goal.returns-in-Err-Read-clause-untaken
returns-in-Err-Read-clause-untaken g c = (
  c.by-in-Err-Read.ensures.acted,
  c.by-in-Err-Read.ensures.is_fault,
  front_all (g.W.Write.contents c.args.writer.now) (g.W.Write.contents c.send_continue.new.writer) (interim_response c.args.plan) c.in-Ok.ensures.ok,
  λ _. c.in-Ok.ensures.ok,
)
