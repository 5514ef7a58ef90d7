-- What bounds the amounts that the balance sums.
use Rattle.std.specs.Prelude.{ℕ, ℤ, pos, neg_ℤ, ◌≤ℤ◌, ◌≤◌}
use Rattle.queue_types.specs.declared.job.Job.{Job}

-- the numbers of which a job's estimate and count are made
pub record AreAmounts (j : Job) : Type 0 where
  pub impressions : j.impressions ≤ 100000
  pub copies : j.copies ≤ 999
  pub count : j.count ≤ 100000000

-- from −n to n
abbrev pub IsWithin : ℕ → ℤ → Type 0
IsWithin n z = (neg_ℤ (pos n) ≤ℤ z) × (z ≤ℤ pos n)
