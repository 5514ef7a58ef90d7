use Rattle.std.proofs.Common.{refl}
use Rattle.std.proofs.lemmas.Result.{on_ok_weaker}
use Rattle.sqlite.specs.Held.{state}
use Rattle.queue_core.specs.World.{rows}
use Rattle.queue_rows.specs.Versions.{first_version}
use Rattle.queue_tables.specs.Content.{numbered_content}
use Rattle.queue_store.proofs.Taken.{first_added}
use Rattle.queue_store.proofs.migrate.migrate_first.Goals as goal

pub returns-clause-done : goal.returns-clause-done
returns-clause-done g c clean =
    on_ok_weaker c.put_schema.result (λ puts w fits has.
    let fourth = c.put_schema.ensures.stays.clean clean in
    let third = c.in_ok-add_policy.ensures.stays.clean fourth in
    let second = c.in_ok-add_third.ensures.stays.clean third in
    let first = c.in_ok-create_age.ensures.stays.clean second in
    let made = c.in_ok-create_policy.ensures.done first (numbered_content first_version w) has in
    let aged = c.in_ok-create_age.ensures.done second _ made in
    let newest = c.in_ok-add_third.ensures.done third _ (rows w) refl aged in
    puts first_version w (first_added w (state g.S.Store c.add_policy.new.tx.conn.now) fits (c.in_ok-add_policy.ensures.done fourth _ newest))) (c.put_schema.ensures.done clean)
