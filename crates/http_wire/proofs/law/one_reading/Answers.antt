use Rattle.http_wire.proofs.ReadingLemmas.{one_head, one_body}
use Rattle.http_wire.proofs.WholeLemmas.{head_whole, body_whole}
use Rattle.http_wire.proofs.law.one_reading.Goals as goal

pub returns-clause-heads : goal.returns-clause-heads
returns-clause-heads c = one_head

pub returns-clause-bodies : goal.returns-clause-bodies
returns-clause-bodies c = one_body

pub returns-clause-whole_bodies : goal.returns-clause-whole_bodies
returns-clause-whole_bodies c = body_whole

pub returns-clause-whole_heads : goal.returns-clause-whole_heads
returns-clause-whole_heads c = head_whole
