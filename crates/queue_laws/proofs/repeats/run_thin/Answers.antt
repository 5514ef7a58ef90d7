use Rattle.queue_laws.proofs.Thinned.{thin_run, answers_again}
use Rattle.queue_laws.proofs.repeats.run_thin.Goals as goal

pub returns-clause-world : goal.returns-clause-world
returns-clause-world c = thin_run c.run_keeps.ensures.sound

pub returns-clause-answers : goal.returns-clause-answers
returns-clause-answers c = answers_again c.run_keeps.ensures.sound
