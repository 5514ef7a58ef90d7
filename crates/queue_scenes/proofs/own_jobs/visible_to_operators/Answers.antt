use Rattle.std.proofs.Common.{[], true}
use Rattle.queue_core.specs.Visible.{visible}
use Rattle.queue_core.specs.World.{rows}
use Rattle.queue_scenes.proofs.Ended.{selects_all_ended}
use Rattle.queue_scenes.proofs.Live.{selects_all_live}
use Rattle.queue_scenes.proofs.Statements.{select_all_ended_is, select_all_live_is}
use Rattle.queue_scenes.proofs.own_jobs.visible_to_operators.Goals as goal
use Rattle.queue_scenes.proofs.own_jobs.visible_to_operators.Goals.{in-NotCompleted, in-Completed}

pub select_jobs-requires : goal.select_jobs-requires
select_jobs-requires g c = elim c.match-which.branch [
  | in-NotCompleted w ↦ rw w.text-is (record { query = select_all_live_is.shows.query })
  | in-Completed w ↦ rw w.text-is (record { query = select_all_ended_is.shows.query })
]

pub returns-clause-reads : goal.returns-clause-reads
returns-clause-reads g c =
    let reads = rw (c.params-to_sql.ensures) at (c.select_jobs.ensures.reads) in
    let most = c.unwrap_or-most in
    reads (λ w. visible true [] c.args.which c.args.limit (rows w)) (elim c.match-which.branch [
      | in-NotCompleted w ↦ rw (w.text-is, w.in-NotCompleted.is) (selects_all_live c.args.limit most.result most.ensures _)
      | in-Completed w ↦ rw (w.text-is, w.in-Completed.is) (selects_all_ended c.args.limit most.result most.ensures _)
    ])
