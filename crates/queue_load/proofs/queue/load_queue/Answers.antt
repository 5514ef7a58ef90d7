use Rattle.std.proofs.Common.{◌≡◌, sym, ap, subst, ◌∙◌}
use Rattle.sqlite.specs.Effect.{Database}
use Rattle.sqlite.specs.Held.{state}
use Rattle.queue_rows.specs.Rows.{rows_of, tables_in}
use Rattle.queue_load.specs.Keyed.{HasKeyedTables}
use Rattle.queue_tables.proofs.Leaving.{leaves_then}
use Rattle.queue_tables.proofs.Ending.{err_after}
use Rattle.queue_load.proofs.Queues.{tables_keyed}
use Rattle.queue_load.proofs.queue.load_queue.Goals as goal

pub returns-in_err-rows-clause-damaged : goal.returns-in_err-rows-clause-damaged
returns-in_err-rows-clause-damaged g c = λ fits clean.
    let first = (state g.S.Store c.args.conn.now).now in
    let told = c.in_err-rows.ensures.damaged fits clean in
    err_after _ c.in_err-rows.field-0.0 _ c.from_residual.ensures.1 (λ d w holds. told d (c.queues_are_loadable.ensures w first holds))

pub returns-in_err-check_rows-clause-damaged : goal.returns-in_err-check_rows-clause-damaged
returns-in_err-check_rows-clause-damaged g c = λ fits clean.
    let first = (state g.S.Store c.args.conn.now).now in
    let reads = c.in_err-check_rows.ensures.reads in
    let mid_clean = reads.leaves.clean clean in
    let are = c.in_ok-rows.ensures.read fits mid_clean in
    let is = (c.in_ok-rows.ensures.same mid_clean).0.now_is in
    let schema = fits (c.load_rows.ensures.leaves.clean mid_clean) are.tables in
    let told = reads.damaged (λ e. (schema.0, ap (λ (d : Database). d.schema) is ∙ schema.1)) clean in
    err_after _ c.in_err-check_rows.field-0.0 _ c.from_residual-in_err-check_rows.ensures.1 (λ d w holds.
    let their : tables_in c.in_ok-rows.rows ≡ rows_of holds.version w = c.tables_give_their_queue.ensures w first (tables_in c.in_ok-rows.rows) holds are in
    told d ((λ none. none holds.version w holds.sound holds.fits (sym their)), subst HasKeyedTables (sym is) (tables_keyed w first holds)))

pub returns-clause-queue : goal.returns-clause-queue
returns-clause-queue g c = λ fits clean.
    let first = (state g.S.Store c.args.conn.now).now in
    let reads = c.in_ok-check_rows.ensures.reads in
    let mid_clean = reads.leaves.clean clean in
    let are = c.in_ok-rows.ensures.read fits mid_clean in
    let is = (c.in_ok-rows.ensures.same mid_clean).0.now_is in
    let schema = fits (c.load_rows.ensures.leaves.clean mid_clean) are.tables in
    let sound = reads.read (λ e. (schema.0, ap (λ (d : Database). d.schema) is ∙ schema.1)) clean in
    c.sound_rows_are_a_queue.ensures (tables_in c.in_ok-rows.rows) first are (subst HasKeyedTables is sound.1) sound.0

pub returns-in_err-check_rows-clause-leaves : goal.returns-in_err-check_rows-clause-leaves
returns-in_err-check_rows-clause-leaves g c = leaves_then _ _ _ c.load_rows.ensures.leaves c.in_err-check_rows.ensures.reads.leaves

pub returns-clause-leaves : goal.returns-clause-leaves
returns-clause-leaves g c = leaves_then _ _ _ c.load_rows.ensures.leaves c.in_ok-check_rows.ensures.reads.leaves
