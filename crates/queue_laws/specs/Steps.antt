-- What an event leaves, and what it is answered.
use Rattle.std.specs.Prelude.{◌≡◌, ℕ, ℤ, List, Some, false}
use Rattle.std.specs.FinMap.{get}
use Rattle.queue_types.specs.Event.{Event}
use Rattle.queue_core.specs.Machine.{Step, step}
use Rattle.queue_core.specs.World.{World, rows, job_at}
use Rattle.queue_types.specs.declared.event.Reply.{Reply}
use Rattle.queue_types.specs.declared.event.Reply.TheVariants.{Refused}
use Rattle.queue_types.specs.declared.job.Job.{Job}
use Rattle.queue_laws.specs.Replies.{refuses}

-- the queue after the event
abbrev pub after : World → ℕ → Event → World
after w now event = (step w now event).world

abbrev pub answer : World → ℕ → Event → Reply
answer w now event = (step w now event).reply

-- nothing changes, and this is the answer
abbrev pub unchanged : World → Reply → Step
unchanged w reply = record { world = w; reply = reply }

-- client-error-not-possible (RFC 8011, appendix B.1.4.5), and nothing changes
abbrev pub not_possible : World → Step
not_possible w = unchanged w (Refused 0x0404)

-- by the event w becomes v, with this answer
abbrev pub LeadsTo : World → ℕ → Event → World → Reply → Type 0
LeadsTo w now event v reply = (after w now event ≡ v) × (answer w now event ≡ reply)

-- where the event isn't refused, this holds of its step
abbrev pub IfAccepted : World → ℕ → Event → (Step → Type 0) → Type 0
IfAccepted w now event P = refuses (answer w now event) ≡ false → P (step w now event)

-- the job of number n is j before the event, and k after it
pub record Turns (w : World) (now : ℕ) (event : Event) (n : ℕ) (j k : Job) : Type 0 where
  pub was : job_at n (rows w) ≡ Some j
  pub is : job_at n (rows (after w now event)) ≡ Some k

-- where the account has `before` free pages in w, it has `then` after the step
abbrev pub MovesFree : World → List ℕ → ℤ → ℤ → Step → Type 0
MovesFree w account before then s = get w.free account ≡ Some before → get s.world.free account ≡ Some then
