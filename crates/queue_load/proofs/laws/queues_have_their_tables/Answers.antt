use Rattle.std.proofs.Common.{sym, ◌∙◌}
use Rattle.queue_load.proofs.Queues.{bytes_back, their_tables}
use Rattle.queue_load.proofs.laws.queues_have_their_tables.Goals as goal

pub returns-clause-tables : goal.returns-clause-tables
returns-clause-tables c = λ w d h. let law = c.sound_queues_have_sound_rows.ensures in their_tables w d h (law.rows h.version w h.sound h.fits) (law.lengths h.version w)

-- both are those of the rows that are read
pub returns-clause-bytes : goal.returns-clause-bytes
returns-clause-bytes c = λ v w d one two.
    let law = c.sound_queues_have_sound_rows.ensures in
    let first = (their_tables v d one (law.rows one.version v one.sound one.fits) (law.lengths one.version v)).first in
    sym (bytes_back v d one (law.rows one.version v one.sound one.fits) (law.lengths one.version v) first) ∙ bytes_back w d two (law.rows two.version w two.sound two.fits) (law.lengths two.version w) first
