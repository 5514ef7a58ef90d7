use Rattle.queue_rows.proofs.WorldFrom.{lengths_entries}
use Rattle.queue_rows.proofs.WorldOnly.{rows_are_sound}
use Rattle.queue_rows.proofs.laws.sound_queues_have_sound_rows.Goals as goal

pub returns-clause-rows : goal.returns-clause-rows
returns-clause-rows c = λ n w sound fits. rows_are_sound n w fits sound

pub returns-clause-lengths : goal.returns-clause-lengths
returns-clause-lengths c = λ n w. lengths_entries w.jobs
