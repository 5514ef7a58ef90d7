-- Each clause over worlds follows from what the machine's decision makes of the world that the scene was cut from.
use Rattle.std.proofs.Common.{◌≡◌, sym, subst}
use Rattle.std.specs.Prelude.{IfOk}
use Rattle.std.proofs.lemmas.Result.{IfOk-weaker}
use Rattle.queue_types.specs.Event.{Decision, event_of, decision_of}
use Rattle.queue_core.specs.Machine.{decision}
use Rattle.queue_core.proofs.Steps.{step_keeps, decided_on}
use Rattle.queue_core.proofs.Within.{IsSoundDecision, decision_within}
use Rattle.queue_core.proofs.machine.decide.Goals as goal
use Rattle.queue_core.proofs.machine.decide.Goals.{After-decision_on}

decides : (c : After-decision_on) → IfOk c.decision_on.result (λ d. decision_of d ≡ decision c.args.scene.now c.args.now (event_of c.args.event.now))
decides c = c.decision_on.ensures

within : (c : After-decision_on) (d : Decision) → d ≡ decision c.args.scene.now c.args.now (event_of c.args.event.now) → IsSoundDecision (event_of c.args.event.now) d
within c d is = subst (IsSoundDecision (event_of c.args.event.now)) (sym is) (decision_within c.args.scene.now c.args.now (event_of c.args.event.now) c.requires.fair c.requires.moment c.requires.event)

pub returns-clause-limits : goal.returns-clause-limits
returns-clause-limits c = IfOk-weaker c.decision_on.result _ _ (λ d is. (within c (decision_of d) is).reply) (decides c)

pub returns-clause-change : goal.returns-clause-change
returns-clause-change c = IfOk-weaker c.decision_on.result _ _ (λ d is. (within c (decision_of d) is).change) (decides c)

pub returns-clause-sound : goal.returns-clause-sound
returns-clause-sound c = IfOk-weaker c.decision_on.result _ _ (λ d is w same sound. (step_keeps w (decision_of d) sound (decided_on w c.args.scene.now c.args.now (event_of c.args.event.now) (decision_of d) c.requires.moment c.requires.event same is)).sound) (decides c)

pub returns-clause-moves : goal.returns-clause-moves
returns-clause-moves c = IfOk-weaker c.decision_on.result _ _ (λ d is w same sound. (step_keeps w (decision_of d) sound (decided_on w c.args.scene.now c.args.now (event_of c.args.event.now) (decision_of d) c.requires.moment c.requires.event same is)).moves) (decides c)

pub returns-clause-balances : goal.returns-clause-balances
returns-clause-balances c = IfOk-weaker c.decision_on.result _ _ (λ d is w same sound. (step_keeps w (decision_of d) sound (decided_on w c.args.scene.now c.args.now (event_of c.args.event.now) (decision_of d) c.requires.moment c.requires.event same is)).sound.balances) (decides c)
