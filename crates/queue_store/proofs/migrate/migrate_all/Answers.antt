use Rattle.std.proofs.Common.{refl, subst}
use Rattle.std.proofs.lemmas.Result.{on_ok_weaker}
use Rattle.sqlite.specs.Held.{state}
use Rattle.queue_core.specs.World.{rows}
use Rattle.queue_tables.specs.Content.{content_of}
use Rattle.queue_store.specs.Older.{HoldsQueueOf, version_of}
use Rattle.queue_store.specs.declared.version.SchemaVersion.{SchemaVersion}
use Rattle.queue_store.proofs.migrate.migrate_all.Goals as goal

pub returns-in-Third-clause-done : goal.returns-in-Third-clause-done
returns-in-Third-clause-done g c clean =
    on_ok_weaker c.put_causes.result (λ puts w fits has.
    puts (content_of w) (rows w) refl (subst (λ (v : SchemaVersion). HoldsQueueOf (version_of v) w (state g.S.Store c.args.tx.now.conn.now)) c.in-Third.is has)) (c.put_causes.ensures.done clean)
