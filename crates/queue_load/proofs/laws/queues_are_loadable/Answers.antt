use Rattle.queue_load.proofs.Queues.{loadable}
use Rattle.queue_load.proofs.laws.queues_are_loadable.Goals as goal

pub returns : goal.returns
returns c = λ w d h. let law = c.sound_queues_have_sound_rows.ensures in loadable w d h (law.rows h.version w h.sound h.fits) (law.lengths h.version w)
