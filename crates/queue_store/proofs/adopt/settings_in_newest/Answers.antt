use Rattle.std.proofs.Common.{IsTrue, ◌≡◌, false, rules, subst, sym}
use Rattle.sqlite.specs.Held.{state}
use Rattle.queue_load.specs.Store.{FitsIn}
use Rattle.queue_rows.specs.Versions.{third_version}
use Rattle.queue_tables.proofs.Leaving.{leaves_then}
use Rattle.queue_tables.specs.Leaving.{LeavesTables}
use Rattle.queue_store.proofs.Adopting.{crash_leaves, found_fits, found_holds, keeps_then, leaves_keeps, leaves_old, not_migrated, still_found, taken_already, taken_now}
use Rattle.queue_store.proofs.Results.{on_any_err}
use Rattle.queue_store.specs.Older.{AreCaused, IsFound, LeavesOldOrTaken}
use Rattle.queue_store.specs.declared.version.SchemaVersion.{SchemaVersion}
use Rattle.queue_store.proofs.adopt.settings_in_newest.Goals as goal

pub returns-in_err-settings-clause-crash : goal.returns-in_err-settings-clause-crash
returns-in_err-settings-clause-crash g c = λ fits. on_any_err _ _ (leaves_old (state g.S.Store c.args.conn.now) (state g.S.Store c.settings_in_tables.new.conn) c.settings_in_tables.ensures.leaves)

pub returns-in_err-newest-clause-kept : goal.returns-in_err-newest-clause-kept
returns-in_err-newest-clause-kept g c =
    let old = state g.S.Store c.args.conn.now in
    let first = state g.S.Store c.settings_in_tables.new.conn in
    let mid = state g.S.Store c.is_newest.new.conn in
    on_any_err _ _ (leaves_keeps old mid (leaves_then old first mid c.settings_in_tables.ensures.leaves c.is_newest.ensures.leaves))

pub returns-in_err-newest-clause-newest : goal.returns-in_err-newest-clause-newest
returns-in_err-newest-clause-newest g c = λ is causes clean.
    leaves_then (state g.S.Store c.args.conn.now) (state g.S.Store c.settings_in_tables.new.conn) (state g.S.Store c.is_newest.new.conn) c.settings_in_tables.ensures.leaves c.is_newest.ensures.leaves

pub returns-in_err-newest-clause-crash : goal.returns-in_err-newest-clause-crash
returns-in_err-newest-clause-crash g c = λ fits.
    let old = state g.S.Store c.args.conn.now in
    let first = state g.S.Store c.settings_in_tables.new.conn in
    let mid = state g.S.Store c.is_newest.new.conn in
    on_any_err _ _ (leaves_old old mid (leaves_then old first mid c.settings_in_tables.ensures.leaves c.is_newest.ensures.leaves))

pub returns-then-newest-clause-takes : goal.returns-then-newest-clause-takes
returns-then-newest-clause-takes g c = λ fits clean.
    let old = state g.S.Store c.args.conn.now in
    let first = state g.S.Store c.settings_in_tables.new.conn in
    let mid = state g.S.Store c.is_newest.new.conn in
    let settings = c.in_ok-settings.settings in
    let version = c.in_ok-settings.version in
    let was = c.in_ok-settings.ensures.found fits (c.is_newest.ensures.leaves.clean clean) in
    let live = c.in_ok-newest.ensures.live clean was.live in
    let it = still_found old first settings version was mid c.is_newest.ensures.leaves clean live in
    let is : IsTrue c.in_ok-newest.newest = search rules in
    let facts = (c.in_ok-newest.ensures.found (found_holds old first settings version was).schema_is clean).0 is in
    taken_already old mid settings (subst (λ (v : SchemaVersion). IsFound old mid settings v) facts.0 it) (subst AreCaused (sym (c.is_newest.ensures.leaves.same clean live)) facts.1)

pub returns-then-newest-clause-newest : goal.returns-then-newest-clause-newest
returns-then-newest-clause-newest g c = λ is causes clean.
    leaves_then (state g.S.Store c.args.conn.now) (state g.S.Store c.settings_in_tables.new.conn) (state g.S.Store c.is_newest.new.conn) c.settings_in_tables.ensures.leaves c.is_newest.ensures.leaves

pub returns-in_err-migrate-clause-kept : goal.returns-in_err-migrate-clause-kept
returns-in_err-migrate-clause-kept g c =
    let old = state g.S.Store c.args.conn.now in
    let first = state g.S.Store c.settings_in_tables.new.conn in
    let mid = state g.S.Store c.is_newest.new.conn in
    let new = state g.S.Store c.migrate.new.conn in
    on_any_err _ _ (keeps_then old mid new (leaves_then old first mid c.settings_in_tables.ensures.leaves c.is_newest.ensures.leaves) c.in_err-migrate.ensures.kept)

pub returns-in_err-migrate-clause-crash : goal.returns-in_err-migrate-clause-crash
returns-in_err-migrate-clause-crash g c = λ can.
    let old = state g.S.Store c.args.conn.now in
    let first = state g.S.Store c.settings_in_tables.new.conn in
    let mid = state g.S.Store c.is_newest.new.conn in
    let new = state g.S.Store c.migrate.new.conn in
    let settings = c.in_ok-settings.settings in
    let version = c.in_ok-settings.version in
    let leaves = leaves_then old first mid c.settings_in_tables.ensures.leaves c.is_newest.ensures.leaves in
    on_any_err _ (LeavesOldOrTaken old new) (λ clean.
    let early = c.migrate.ensures.clean clean in
    let was = c.in_ok-settings.ensures.found can (c.is_newest.ensures.leaves.clean early) in
    let it = still_found old first settings version was mid c.is_newest.ensures.leaves early (c.in_ok-newest.ensures.live early was.live) in
    crash_leaves old mid settings version it new leaves c.migrate.ensures.clean (c.migrate.ensures.makes it.world (found_fits old mid settings version it) (found_holds old mid settings version it)) clean)

pub returns-clause-takes : goal.returns-clause-takes
returns-clause-takes g c = λ can clean.
    let old = state g.S.Store c.args.conn.now in
    let first = state g.S.Store c.settings_in_tables.new.conn in
    let mid = state g.S.Store c.is_newest.new.conn in
    let new = state g.S.Store c.migrate.new.conn in
    let settings = c.in_ok-settings.settings in
    let version = c.in_ok-settings.version in
    let early = c.migrate.ensures.clean clean in
    let was = c.in_ok-settings.ensures.found can (c.is_newest.ensures.leaves.clean early) in
    let it = still_found old first settings version was mid c.is_newest.ensures.leaves early (c.in_ok-newest.ensures.live early was.live) in
    taken_now old mid settings version it new clean (c.in_ok-migrate.ensures.makes it.world (found_fits old mid settings version it) (found_holds old mid settings version it))

pub returns-in_err-migrate-clause-newest : goal.returns-in_err-migrate-clause-newest
returns-in_err-migrate-clause-newest g c = λ is causes clean.
    let old = state g.S.Store c.args.conn.now in
    let first = state g.S.Store c.settings_in_tables.new.conn in
    let new = state g.S.Store c.migrate.new.conn in
    let settings = c.in_ok-settings.settings in
    let version = c.in_ok-settings.version in
    let early = c.migrate.ensures.clean clean in
    let can : FitsIn old = λ _ _. (third_version, is) in
    let was = c.in_ok-settings.ensures.found can (c.is_newest.ensures.leaves.clean early) in
    let other : c.in_ok-newest.newest ≡ false = search rules in
    not_migrated old first settings version was {X = LeavesTables old new} c.in_ok-newest.newest other (c.in_ok-newest.ensures.found (found_holds old first settings version was).schema_is early) is causes

pub returns-clause-newest : goal.returns-clause-newest
returns-clause-newest g c = λ is causes clean.
    let old = state g.S.Store c.args.conn.now in
    let first = state g.S.Store c.settings_in_tables.new.conn in
    let new = state g.S.Store c.migrate.new.conn in
    let settings = c.in_ok-settings.settings in
    let version = c.in_ok-settings.version in
    let early = c.migrate.ensures.clean clean in
    let can : FitsIn old = λ _ _. (third_version, is) in
    let was = c.in_ok-settings.ensures.found can (c.is_newest.ensures.leaves.clean early) in
    let other : c.in_ok-newest.newest ≡ false = search rules in
    not_migrated old first settings version was {X = LeavesTables old new} c.in_ok-newest.newest other (c.in_ok-newest.ensures.found (found_holds old first settings version was).schema_is early) is causes
