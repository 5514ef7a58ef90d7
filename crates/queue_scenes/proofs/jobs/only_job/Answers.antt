use Rattle.std.proofs.Common.{length, ap, refl, arith}
use Rattle.queue_types.specs.declared.job.Job.{Job}
use Rattle.queue_scenes.proofs.Bounds.{number_is_one}
use Rattle.queue_tables.proofs.Telling.{refuses, told}
use Rattle.queue_scenes.proofs.jobs.only_job.Goals as goal

pub returns-then-len-gt1-clause-reads : goal.returns-then-len-gt1-clause-reads
returns-then-len-gt1-clause-reads g c =
    let jobs = c.in_ok-jobs.ensures in
    refuses (told jobs.reads jobs.live) jobs.live (λ d w sound is.
    let one = number_is_one w c.args.number sound in
    let same = ap (length {A = Job}) is in
    omega (arith, one, same)) _ refl
