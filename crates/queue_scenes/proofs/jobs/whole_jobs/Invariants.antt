use Rattle.std.proofs.Common.{◌≡◌, List, All, IsTrue, map, take}
use Rattle.sqlite.specs.Held.{state}
use Rattle.sqlite.specs.State.{HasCleanDisk}
use Rattle.queue_core.specs.Limits.{IsSoundJob}
use Rattle.queue_core.specs.Sound.{IsSound}
use Rattle.queue_core.specs.World.{World}
use Rattle.queue_types.specs.declared.job.Job.{Job}
use Rattle.queue_tables.specs.Leaving.{LeavesTables}
use Rattle.queue_tables.specs.Content.{AreRowsOf, Holds, content_of}
use Rattle.queue_tables.specs.Values.{job_values}
use Rattle.queue_scenes.proofs.jobs.whole_jobs.Given as goal

abbrev pub invariant-loop-row : goal.invariant-loop-row
invariant-loop-row g l =
    let old = state g.S.Store l.fn.conn in
    let now = state g.S.Store l.conn in
    record {
      leaves : LeavesTables old now;
      live : HasCleanDisk now → IsTrue old.is_open → IsTrue now.is_open;
      sound : All IsSoundJob l.jobs.items;
      found : HasCleanDisk now → (w : World) (js : List Job) → IsSound w → Holds (content_of w) old → AreRowsOf w js → l.rows ≡ map job_values js → l.jobs.items ≡ take l.row-index js;
    }
