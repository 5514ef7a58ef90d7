use Rattle.std.proofs.Common.{◌≡◌, ℕ, List, Option, None, Some}
use Rattle.queue_types.specs.Event.{Event, ask}
use Rattle.queue_core.specs.Runs.{after}
use Rattle.queue_core.specs.World.{World}
use Rattle.ipp_wire.specs.Message.{head_of}
use Rattle.ipp_ops.specs.Answer.{Asks, IsVerdictOn, calls, outcome, refuses}
use Rattle.ipp_ops.specs.Verdict.{Verdict, passed, refused}
use Rattle.ipp_ops.proofs.Within.{asked_fits}
use Rattle.ipp_ops.proofs.law.calls_are_events.Goals as goal

-- the outcome of the verdict on bytes is the queue after what they ask
verdict_event : (now : ℕ) (w u : World) (b : List ℕ) (v : Verdict) → IsVerdictOn b v → u ≡ (outcome v (head_of b) w now).world
    → (e : Option Event) × Asks b e × (u ≡ after w now e)
verdict_event now w u b (refused code list) on world = (None, refuses code list on, world)
verdict_event now w u b (passed caller call rows list) on world = (Some (ask caller call), calls caller call rows list on, world)

pub returns-clause-within : goal.returns-clause-within
returns-clause-within c = asked_fits

pub returns-clause-done : goal.returns-clause-done
returns-clause-done c = λ now w u b out a. verdict_event now w u b a.verdict a.on_bytes a.world
