use Rattle.replay.proofs.session.tell_refused.Goals as goal

pub returns-clause-told : goal.returns-clause-told
returns-clause-told g c = rw c.code-code.ensures at c.in_ok-writeln.ensures.bytes
