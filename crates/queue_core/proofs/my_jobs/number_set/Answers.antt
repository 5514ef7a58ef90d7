use Rattle.std.proofs.Common.{◌∙◌}
use Rattle.queue_core.proofs.Numbers.{seen_more}
use Rattle.queue_core.proofs.my_jobs.number_set.Goals as goal

pub loop-n-preserved : goal.loop-n-preserved
loop-n-preserved c = λ q. c.in_ok-insert.ensures.updates.0 q ∙ seen_more c.args.numbers.now c.loop-n.n-index q 0 _ c.loop-n-test.true (c.loop-n.invariant q)
