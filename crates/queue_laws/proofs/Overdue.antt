-- What a sweep does, in the words of its law.
use Rattle.std.proofs.Common.{◌≡◌, ℕ, pos, ◌+ℤ◌, ◌+◌, List, map, ap, sym, ◌∙◌, Bool}
use Rattle.std.specs.Prelude.{nat_eq, nat_le, nat_lt, filter, length, option_map}
use Rattle.std.specs.FinMap.{get}
use Rattle.std.proofs.Math.Bool.{and_assoc}
use Rattle.queue_types.specs.Event.{expire}
use Rattle.queue_types.specs.Job.{state}
use Rattle.queue_core.specs.World.{World, rows, has_expired}
use Rattle.queue_core.specs.Machine.{step}
use Rattle.queue_core.specs.Sound.{IsSound, reserved_for}
use Rattle.queue_types.specs.declared.event.Reply.TheVariants.{Expired}
use Rattle.queue_types.specs.declared.job.Job.{Job}
use Rattle.queue_laws.specs.Expiring.{is_overdue, is_due, overdue, aborted, aborted_if_due}
use Rattle.queue_laws.proofs.Swept.{replaced, jobs_swept, free_swept}

same_test : (keep now : ℕ) (j : Job) → has_expired keep now j ≡ is_overdue keep now j
unfolding has_expired
same_test keep now j = sym (and_assoc (nat_lt 0 keep) (nat_le (j.created + keep) now) (nat_eq (state j) 4))

same_tests : (w : World) (now : ℕ) → has_expired w.settings.keep now ≡ is_due w now
same_tests w now = λ i j. same_test w.settings.keep now j i

pub jobs_end : (w : World) (now : ℕ) → IsSound w → (step w now expire).world.jobs ≡ map (aborted_if_due w now) w.jobs
jobs_end w now sound = jobs_swept w now sound ∙ ap (λ (c : Job → Bool). map (replaced c (aborted now)) w.jobs) (same_tests w now)

pub pages_come_back : (w : World) (now : ℕ) (a : List ℕ) → get (step w now expire).world.free a ≡ option_map (λ f. f +ℤ pos (reserved_for a (overdue w now))) (get w.free a)
pages_come_back w now a = free_swept w now a ∙ ap (λ (c : Job → Bool). option_map (λ f. f +ℤ pos (reserved_for a (filter c (rows w)))) (get w.free a)) (same_tests w now)

pub ends_counted : (w : World) (now : ℕ) → (step w now expire).reply ≡ Expired (length (overdue w now))
ends_counted w now = ap (λ (c : Job → Bool). Expired (length (filter c (rows w)))) (same_tests w now)
