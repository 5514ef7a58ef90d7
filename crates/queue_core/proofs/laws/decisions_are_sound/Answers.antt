use Rattle.queue_core.proofs.Changed.{step_rises}
use Rattle.queue_core.proofs.Steps.{step_keeps, step_new, step_within}
use Rattle.queue_core.proofs.laws.decisions_are_sound.Goals as goal

pub returns-clause-within : goal.returns-clause-within
returns-clause-within c = λ w d sound is. (step_within w d sound is).change

pub returns-clause-made : goal.returns-clause-made
returns-clause-made c = λ w d sound is. (step_keeps w d sound is).sound

pub returns-clause-new_grants : goal.returns-clause-new_grants
returns-clause-new_grants c = step_new

pub returns-clause-moves : goal.returns-clause-moves
returns-clause-moves c = λ w d sound is. (step_keeps w d sound is).moves

pub returns-clause-rising : goal.returns-clause-rising
returns-clause-rising c = step_rises
