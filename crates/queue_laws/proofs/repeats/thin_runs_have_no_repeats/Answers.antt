use Rattle.queue_laws.proofs.Once.{no_report_again, no_row_again, no_row_twice}
use Rattle.queue_laws.proofs.repeats.thin_runs_have_no_repeats.Goals as goal

pub returns-clause-reports : goal.returns-clause-reports
returns-clause-reports c w ps front back now r sound places = no_report_again c.run_keeps.ensures.sound w ps front back now sound places r

pub returns-clause-rows : goal.returns-clause-rows
returns-clause-rows c w ps front back now before behind g sound places = no_row_again c.run_keeps.ensures.sound w ps front back now sound places before behind g

pub returns-clause-twice : goal.returns-clause-twice
returns-clause-twice c w ps front back now before between behind g sound places = no_row_twice c.run_keeps.ensures.sound w ps front back now sound places before between behind g
