-- The rows of jobs.
use Rattle.std.specs.Prelude.{◌≡◌, ℕ, ◌+◌, ◌≤◌, List, [], ◌∷◌, Bool, ◌==◌}
use Rattle.std.specs.List.{list_any}
use Rattle.queue_core.specs.Limits.{IsSoundJob}
use Rattle.queue_types.specs.declared.job.Job.{Job}

-- a job within its limits, whose row says nothing of its documents (without them it has no octets either)
pub record IsJobRow (j : Job) : Type 0 where
  pub sound : IsSoundJob j
  pub bare : j.documents ≡ 0

-- the numbers rise, from the first on, and stay below the next
abbrev pub NumbersRise : ℕ → List Job → ℕ → Type 0
NumbersRise first [] next = first ≤ next
NumbersRise first (j ∷ js) next = (first ≤ j.number) × NumbersRise (j.number + 1) js next

-- a job has this number
abbrev pub has_number : ℕ → List Job → Bool
has_number n js = list_any (λ j. j.number == n) js
