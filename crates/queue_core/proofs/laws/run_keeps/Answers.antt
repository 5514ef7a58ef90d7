use Rattle.queue_core.proofs.Runs.{run-append, run_sound, run_moves}
use Rattle.queue_core.proofs.laws.run_keeps.Goals as goal

pub returns-clause-sound : goal.returns-clause-sound
returns-clause-sound c = λ w ps sound places. run_sound ps w sound places

pub returns-clause-balances : goal.returns-clause-balances
returns-clause-balances c = λ w ps sound places. (run_sound ps w sound places).balances

pub returns-clause-moves : goal.returns-clause-moves
returns-clause-moves c = λ w ps p sound places place. run_moves ps p w sound places place

pub returns-clause-joined : goal.returns-clause-joined
returns-clause-joined c = λ w ps qs. run-append ps qs w
