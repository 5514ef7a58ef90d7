use Rattle.std.proofs.Common.{arith}
use Rattle.std.proofs.lemmas.Int.{ints, to_z-of_z}
use Rattle.std.proofs.lemmas.List.Sums.{fold_more}
use Rattle.queue_core.proofs.balance.returned_to.Goals as goal

pub loop-job-preserved : goal.loop-job-preserved
loop-job-preserved c = record {
  sum = grind (arith, to_z-of_z, fold_more, c.job-item.is, c.given_back_by-back.ensures.exact, c.loop-job.invariant.sum);
  bound = (omega (arith, ints, c.loop-job.invariant.bound.0, c.given_back_by-back.ensures.bound.0), omega (arith, ints, c.loop-job.invariant.bound.1, c.given_back_by-back.ensures.bound.1));
}
