-- The numbers of a sound queue's jobs rise, and each job stands at its own number.
use Rattle.std.proofs.Common.{◌≡◌, List, Bool}
use Rattle.std.specs.Prelude.{Some, filter}
use Rattle.std.specs.List.{AllByRecursion as Each}
use Rattle.queue_core.specs.Order.{AreRising}
use Rattle.queue_core.specs.Sound.{IsSound}
use Rattle.queue_core.specs.World.{World, rows, job_at}
use Rattle.queue_types.specs.declared.job.Job.{Job}
use Rattle.queue_core.proofs.Many.{rising, at_its_number}
use Rattle.queue_core.proofs.Ordered.{each-filter}
use Rattle.queue_core.proofs.Orders.{rising-filter}

-- it is the job of its number
abbrev pub Stands : List Job → Job → Type 0
Stands js j = job_at j.number js ≡ Some j

module _ (w : World) (sound : IsSound w) where
  all_rise : AreRising (rows w)
  all_rise = rising 1 w.next w.jobs sound.numbers

  pub chosen_rise : (c : Job → Bool) → AreRising (filter c (rows w))
  chosen_rise c = rising-filter c (rows w) all_rise

  -- those that are chosen stand among all
  pub all_stand : (c : Job → Bool) → Each (Stands (rows w)) (filter c (rows w))
  all_stand c = each-filter (Stands (rows w)) c (rows w) (at_its_number (rows w) all_rise)

  -- and among themselves
  pub chosen_stand : (c : Job → Bool) → Each (Stands (filter c (rows w))) (filter c (rows w))
  chosen_stand c = at_its_number (filter c (rows w)) (chosen_rise c)
