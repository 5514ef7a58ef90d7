use Rattle.std.proofs.Common.{refl}
use Rattle.std.proofs.lemmas.Result.{on_ok_weaker}
use Rattle.sqlite.specs.Held.{state}
use Rattle.queue_core.specs.World.{rows}
use Rattle.queue_rows.specs.Versions.{second_version}
use Rattle.queue_tables.specs.Content.{numbered_content}
use Rattle.queue_store.proofs.Taken.{second_added}
use Rattle.queue_store.proofs.migrate.migrate_second.Goals as goal

pub returns-clause-done : goal.returns-clause-done
returns-clause-done g c clean =
    on_ok_weaker c.put_schema.result (λ puts w fits has.
    let second = c.put_schema.ensures.stays.clean clean in
    let newest = c.in_ok-add_third.ensures.done second (numbered_content second_version w) (rows w) refl has in
    puts second_version w (second_added w (state g.S.Store c.add_third.new.tx.conn.now) fits newest)) (c.put_schema.ensures.done clean)
