-- What operators may ask.
use Rattle.std.specs.Prelude.{◌≡◌, ◌≢◌, ◌⊎◌, ℕ, List, Bool, Some, true, false, filter, if◌then◌else◌}
use Rattle.queue_types.specs.Event.{Call, cancel_job}
use Rattle.queue_types.specs.Operators.{is_operator}
use Rattle.queue_core.specs.World.{World, Entry}
use Rattle.queue_types.specs.declared.event.WhichJobs.{WhichJobs}
use Rattle.queue_types.specs.declared.job.Job.{Job}
use Rattle.queue_types.specs.declared.job.Phase.TheVariants.{Canceled}
use Rattle.queue_types.specs.declared.job.Why.{Why}
use Rattle.queue_types.specs.declared.job.Why.TheVariants.{ByUser, ByOperator}
use Rattle.queue_laws.specs.Doing.{entry_at}
use Rattle.queue_laws.specs.Jobs.{is_owned_by, is_of_kind}

abbrev pub IsOperator : List ℕ → World → Type 0
IsOperator u w = is_operator w.settings.operators u ≡ true

abbrev pub IsNoOperator : List ℕ → World → Type 0
IsNoOperator u w = is_operator w.settings.operators u ≡ false

-- the caller asks for its own jobs alone: it is no operator, or it says so
abbrev pub AsksForOwn : List ℕ → Bool → World → Type 0
AsksForOwn u mine w = IsNoOperator u w ⊎ (mine ≡ true)

-- no job but the caller's own is canceled: it is no operator, or the call is another one
abbrev pub CancelsOwn : List ℕ → Call → World → Type 0
CancelsOwn u call w = IsNoOperator u w ⊎ ((n : ℕ) → call ≢ cancel_job n)

-- who cancels the job, where this caller asks for it: its owner, or else an operator
abbrev pub canceler : List ℕ → Job → Why
canceler u j = if is_owned_by u j then ByUser else ByOperator

-- the job of number n is e, another's, and the caller is an operator
pub record HasOthers (u : List ℕ) (n : ℕ) (e : Entry) (w : World) : Type 0 where
  pub there : entry_at n w.jobs ≡ Some e
  pub others : is_owned_by u e.row ≡ false
  pub operator : IsOperator u w

-- canceled by an operator at that moment, and neither held nor open for documents any more
abbrev pub canceled_by_operator : ℕ → Job → Job
canceled_by_operator now j = record j { phase = Canceled ByOperator; hold = false; incoming = false; ended = Some now }

-- the jobs of that kind, whoever owns them
abbrev pub all_of_kind : WhichJobs → List Job → List Job
all_of_kind which js = filter (is_of_kind which) js
