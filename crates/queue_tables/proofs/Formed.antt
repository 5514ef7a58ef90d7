-- What is read of a sound queue has the form in which it is read.
use Rattle.std.proofs.Common.{◌≡◌, ℕ, ◌^◌, ◌<◌, ◌≤◌, List, Option, Some, None, IfSome, refl, subst, arith}
use Rattle.queue_types.specs.Job.{owed}
use Rattle.queue_types.specs.declared.job.Job.{Job}
use Rattle.queue_core.specs.Limits.{IsMoment, IsSoundJob}
use Rattle.queue_core.specs.Sound.{IsSound, printed, reserved}
use Rattle.queue_core.specs.World.{World, job_at, rows}
use Rattle.queue_rows.proofs.Filled.{sound_sized}
use Rattle.queue_rows.specs.Jobs.{IsJobRow}
use Rattle.queue_tables.specs.Forms.{IsFormedJob}
use Rattle.queue_tables.specs.Steps.{bare}
use Rattle.queue_tables.proofs.Entries.{distinct_of, sound_summable}
use Rattle.queue_tables.proofs.Puts.{count_is_small, owed_is_small, sum_fits}
use Rattle.queue_tables.proofs.Sizes.{entry_there}

moment_fits : (o : Option ℕ) → IfSome o IsMoment → IfSome o (λ n. n < 2 ^ 32)
moment_fits None h = h
moment_fits (Some n) h = omega (arith, h.1)

pub formed_job : (j : Job) → IsSoundJob j → IsFormedJob j
formed_job j h = record {
  number = omega (arith, h.number.1);
  owner = h.owner.utf8;
  name = h.name.utf8;
  copies = omega (arith, h.copies.1);
  impressions = omega (arith, h.impressions);
  count = omega (arith, h.count);
  created = omega (arith, h.created.1);
  begun = moment_fits j.begun h.begun;
  ended = moment_fits j.ended h.ended;
}

-- a job of a sound queue
pub sound_job : (n : ℕ) (w : World) (k : Job) → IsSound w → job_at n (rows w) ≡ Some k → IsSoundJob k
sound_job n w k sound there =
    let it = entry_there n w.jobs k (distinct_of 1 w.jobs w.next sound.numbers) sound.entries there in
    subst IsSoundJob it.row it.sound.row

-- its row, which says nothing of its documents
pub bare_row : (j : Job) → IsSoundJob j → IsJobRow (bare j)
bare_row j s = record { sound = sound_sized j 0 0 s (omega arith) (omega arith); bare = refl }

-- the sums over the jobs of an account
pub sums_fit : (a : List ℕ) (w : World) → IsSound w → (reserved a w ≤ 214748364800000000) × (printed a w ≤ 214748364800000000)
sums_fit a w sound = (sum_fits owed owed_is_small a w (sound_summable w sound), sum_fits (λ (j : Job). j.count) count_is_small a w (sound_summable w sound))
