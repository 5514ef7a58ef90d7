use Rattle.sqlite.specs.Held.{state}
use Rattle.queue_load.proofs.KeyLemmas.{ids_in_order, ids_keyed}
use Rattle.queue_load.proofs.Telling.{tells}
use Rattle.queue_load.proofs.keyed.accounts_are_keyed.Goals as goal

pub returns : goal.returns
returns g c =
    let rows = (state g.S.Store c.args.conn.now).now.trees 6 in
    let told = rw (c.as_slice.ensures.value) at c.are_in_order.ensures in
    record { reads = tells c.in_ok-ids.ensures.reads (λ it. (λ yes. ids_keyed c.in_ok-ids.ids.items rows (told.0 yes) it.same, λ keyed. told.1 (ids_in_order c.in_ok-ids.ids.items rows it keyed))) }
