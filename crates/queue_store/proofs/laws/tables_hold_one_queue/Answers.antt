use Rattle.queue_rows.specs.Rows.{rows_of}
use Rattle.queue_store.proofs.laws.tables_hold_one_queue.Goals as goal

pub returns : goal.returns
returns c = λ v w d one two.
    let theirs = c.queues_have_their_tables.ensures in
    c.rows_tell_the_queue.ensures one.version two.version v w one.sound two.sound one.fits two.fits (c.tables_give_their_queue.ensures w d (rows_of one.version v) two (theirs.tables v d one)) (theirs.bytes v w d one two)
