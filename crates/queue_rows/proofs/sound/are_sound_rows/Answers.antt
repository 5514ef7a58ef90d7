use Rattle.queue_rows.specs.Rows.{tables_in}
use Rattle.queue_rows.proofs.Worlds.{sound_rows, damaged_rows}
use Rattle.queue_rows.proofs.sound.are_sound_rows.Goals as goal

pub returns-clause-sound : goal.returns-clause-sound
returns-clause-sound c = sound_rows c.keep_each_clause.result (tables_in c.args.rows.now) c.keep_each_clause.ensures

pub returns-clause-damaged : goal.returns-clause-damaged
returns-clause-damaged c = damaged_rows c.keep_each_clause.result (tables_in c.args.rows.now) c.keep_each_clause.ensures
