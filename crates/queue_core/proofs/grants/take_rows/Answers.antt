use Rattle.std.proofs.Common.{sym, ◌∙◌, ◌+◌, arith}
use Rattle.queue_core.proofs.GrantLemmas.{ends_at}
use Rattle.queue_core.proofs.grants.take_rows.Goals as goal

pub returns-clause-taken : goal.returns-clause-taken
returns-clause-taken c = sym (ends_at c.args.rows.now c.args.known.now c.loop-i.i (1 + c.loop-i.i) c.loop-i.tally.rows.items c.loop-i.tally.free.items c.loop-i.repeats (omega arith)) ∙ c.loop-i.invariant.rest
