use Rattle.std.proofs.Common.{FitsSigned, rules, w64, ◌∙◌}
use Rattle.std.proofs.lemmas.Int.{to_z-of_z}
use Rattle.queue_scenes.proofs.expiry_scene.expired_jobs.Goals as goal

pub returns-clause-reads : goal.returns-clause-reads
returns-clause-reads g c =
    let fits : FitsSigned w64 c.latest_of-latest.result = search rules in
    c.jobs_until.ensures.reads c.args.keep c.args.now (to_z-of_z w64 c.latest_of-latest.result fits ∙ c.latest_of-latest.ensures)
