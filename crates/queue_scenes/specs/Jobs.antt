-- Jobs of a world, as a SELECT shows them.
use Rattle.std.specs.Prelude.{◌≡◌, ◌&&◌, ℕ, List, bytes_eq, filter, map}
use Rattle.sqlite.specs.Order.{Row}
use Rattle.sqlite.specs.State.{State, Shown}
use Rattle.queue_core.specs.Sound.{IsSound}
use Rattle.queue_core.specs.World.{World}
use Rattle.queue_types.specs.Job.{is_live}
use Rattle.queue_types.specs.declared.job.Job.{Job}
use Rattle.queue_tables.specs.Content.{AreRowsOf, Holds, content_of}
use Rattle.queue_tables.specs.Values.{job_values}

-- whatever rows the SELECT shows, they are those of the jobs, in their order
abbrev pub ShowsJobs : List ℕ → Row → State → List Job → Type 0
ShowsJobs sql params s js = (shown_rows : List Row) → Shown sql params s s shown_rows → shown_rows ≡ map job_values js

-- a SELECT that shows these jobs of each sound queue that the tables may hold, each of them the world's job of its number
pub record Selects (sql : List ℕ) (params : Row) (s : State) (jobs : World → List Job) : Type 0 where
  pub rows : (w : World) → IsSound w → AreRowsOf w (jobs w)
  pub shows : (w : World) → IsSound w → Holds (content_of w) s → ShowsJobs sql params s (jobs w)

-- the owner's jobs in states 3 to 6
abbrev pub own_live : List ℕ → List Job → List Job
own_live owner js = filter (λ (j : Job). bytes_eq j.owner owner && is_live j) js
