use Rattle.std.proofs.Common.{Bool, arith, rules}
use Rattle.std.specs.Prelude.{nat_lt}
use Rattle.std.proofs.lemmas.Bool.{ltb-false, ltb-true}
use Rattle.std.proofs.lemmas.List.Sorted.{IsPartitionPoint-from_clause}
use Rattle.queue_types.specs.declared.job.Job.{Job}
use Rattle.list_book.proofs.ByNumber.{smaller_front}
use Rattle.list_book.proofs.lists.smaller_than.Goals as goal

pub returns-clause-before : goal.returns-clause-before
returns-clause-before c =
    let p : Job → Bool = λ j. nat_lt j.number c.args.number in
    let point = IsPartitionPoint-from_clause p c.args.jobs.now c.partition_point.result c.partition_point.ensures.partitioned (smaller_front c.args.number c.args.jobs.now c.requires) (λ a r q k. search rules) in
    λ k d h. ltb-true _ _ (point.0 k d (omega arith) h)

pub returns-clause-behind : goal.returns-clause-behind
returns-clause-behind c =
    let p : Job → Bool = λ j. nat_lt j.number c.args.number in
    let point = IsPartitionPoint-from_clause p c.args.jobs.now c.partition_point.result c.partition_point.ensures.partitioned (smaller_front c.args.number c.args.jobs.now c.requires) (λ a r q k. search rules) in
    λ k d l h. ltb-false _ _ (point.1 k d l h)
