use Rattle.std.proofs.Common.{IsTrue, rules, sym, ◌∙◌}
use Rattle.std.proofs.lemmas.Bool.{not-true}
use Rattle.sqlite.specs.Held.{state}
use Rattle.queue_rows.specs.Rows.{tables_in}
use Rattle.queue_tables.proofs.Ending.{err_after, not_inside}
use Rattle.queue_store.proofs.Adopting.{found, within_limits}
use Rattle.queue_store.proofs.adopt.settings_in_tables.Goals as goal

pub returns-clause-found : goal.returns-clause-found
returns-clause-found g c = λ fits clean.
    let old = state g.S.Store c.args.conn.now in
    let new = state g.S.Store c.load_queue.new.conn in
    let outside : IsTrue c.is_autocommit.result = search rules in
    found (tables_in c.in_ok-rows.rows) old new c.in_ok-settings.settings c.version_of.result (c.in_ok-rows.ensures.queue fits clean) c.schema-schema.ensures.live (c.in_ok-rows.ensures.same clean) (c.is_autocommit.ensures.settled outside) (not-true _ (sym c.is_autocommit.ensures.value ∙ outside)) c.in_ok-settings.ensures.ok c.version_of.ensures

pub returns-in_err-settings-clause-damaged : goal.returns-in_err-settings-clause-damaged
returns-in_err-settings-clause-damaged g c = λ fits clean.
    err_after _ c.in_err-settings.field-0.0 _ c.from_residual-in_err-settings.ensures.1 (λ is w holds. within_limits (tables_in c.in_ok-rows.rows) (state g.S.Store c.args.conn.now).now (c.in_ok-rows.ensures.queue fits clean) (c.in_err-settings.ensures.damaged is))

pub returns-in_err-rows-clause-inside : goal.returns-in_err-rows-clause-inside
returns-in_err-rows-clause-inside g c = not_inside c.is_autocommit.result (state g.S.Store c.args.conn.now).in_transaction c.is_autocommit.ensures.value (search rules)

pub returns-in_err-settings-clause-inside : goal.returns-in_err-settings-clause-inside
returns-in_err-settings-clause-inside g c = not_inside c.is_autocommit.result (state g.S.Store c.args.conn.now).in_transaction c.is_autocommit.ensures.value (search rules)

pub returns-clause-inside : goal.returns-clause-inside
returns-clause-inside g c = not_inside c.is_autocommit.result (state g.S.Store c.args.conn.now).in_transaction c.is_autocommit.ensures.value (search rules)
