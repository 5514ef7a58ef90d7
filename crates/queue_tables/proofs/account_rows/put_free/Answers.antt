use Rattle.std.proofs.Common.{◌≡◌, Err, None, Ok, arith}
use Rattle.std.specs.FinMap.{get}
use Rattle.sqlite.specs.Held.{state}
use Rattle.queue_core.specs.World.{World}
use Rattle.queue_tables.specs.Content.{content_of}
use Rattle.queue_tables.specs.Making.{MakesQueue}
use Rattle.queue_tables.specs.Telling.{ReadsQueueInside}
use Rattle.queue_tables.specs.Steps.{AreCovered, with_free}
use Rattle.queue_tables.proofs.Frees.{adds_new}
use Rattle.queue_tables.proofs.Making.{handed_on, held_as, read_then, seen_as}
use Rattle.queue_tables.proofs.Spared.{no_account}
use Rattle.queue_tables.proofs.account_rows.put_free.Goals as goal

pub returns-in_err-count-clause-made : goal.returns-in_err-count-clause-made
returns-in_err-count-clause-made g c =
    let update = c.in_err-count.ensures in
    let it : MakesQueue (state g.S.Store c.args.tx.now.conn.now) (state g.S.Store c.update_free.new.tx.conn.now) (Err c.in_err-count.field-0.0) AreCovered (with_free c.args.account.now)
    = record { stays = update.stays; done = λ clean. tt; damaged = λ clean inside d w covered. update.damaged clean inside d w } in
    handed_on it _ c.from_residual.ensures.1

pub returns-clause-made : goal.returns-clause-made
returns-clause-made g c =
    let a = c.args.account.now in
    let zero : c.in_ok-count.count ≡ 0 = omega arith in
    let lacks : ReadsQueueInside (state g.S.Store c.args.tx.now.conn.now) (state g.S.Store c.update_free.new.tx.conn.now) (Ok c.in_ok-count.count) AreCovered (λ w count. get w.free a.account ≡ None)
    = record { stays = c.in_ok-count.ensures.stays; live = c.in_ok-count.ensures.live; found = λ clean w covered has. c.in_ok-count.ensures.lacking clean w has zero; damaged = λ clean inside. tt } in
    let added = held_as (seen_as c.insert_account.ensures.made content_of (λ (w : World) (it : AreCovered w × (get w.free a.account ≡ None)). no_account a.account w it.1))
    (λ w it has. adds_new a w (state g.S.Store c.insert_account.new.tx.conn.now) it.1 it.0 has) in
    read_then lacks added (λ w covered. covered) (λ w covered none. (covered, none))
