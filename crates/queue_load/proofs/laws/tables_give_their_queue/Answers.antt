use Rattle.queue_load.proofs.Queues.{read_back}
use Rattle.queue_load.proofs.laws.tables_give_their_queue.Goals as goal

pub returns : goal.returns
returns c = λ w d t h. let names = c.numbers_tell_names.ensures in
    let law = c.sound_queues_have_sound_rows.ensures in
    read_back w d h (law.rows h.version w h.sound h.fits) (law.lengths h.version w) names.courses names.kinds names.states names.flags t
