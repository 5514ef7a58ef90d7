use Rattle.std.proofs.Common.{IsTrue, rules}
use Rattle.sqlite.specs.Held.{state}
use Rattle.sqlite.specs.Values.{bound}
use Rattle.queue_tables.proofs.Leaving.{query_leaves_tables, shown_live, still_outside}
use Rattle.queue_tables.proofs.select.select.Goals as goal

pub returns-in_err-rows-clause-leaves : goal.returns-in_err-rows-clause-leaves
returns-in_err-rows-clause-leaves g c =
    let old = state g.S.Store c.args.conn.now in
    let new = state g.S.Store c.query_all.new.self in
    let outside : IsTrue c.is_autocommit.result = search rules in
    query_leaves_tables (λ rows. rows.items) c.args.sql.now (bound c.args.params.now) old new c.requires.query c.query_all.result (c.is_autocommit.ensures.settled outside)
    c.query_all.ensures.survives (still_outside old.in_transaction new.in_transaction c.is_autocommit.result c.is_autocommit.ensures.value outside c.query_all.ensures.mode) c.query_all.ensures.ok c.query_all.ensures.err

pub returns-clause-leaves : goal.returns-clause-leaves
returns-clause-leaves g c =
    let old = state g.S.Store c.args.conn.now in
    let new = state g.S.Store c.query_all.new.self in
    let outside : IsTrue c.is_autocommit.result = search rules in
    query_leaves_tables (λ rows. rows.items) c.args.sql.now (bound c.args.params.now) old new c.requires.query c.query_all.result (c.is_autocommit.ensures.settled outside)
    c.query_all.ensures.survives (still_outside old.in_transaction new.in_transaction c.is_autocommit.result c.is_autocommit.ensures.value outside c.query_all.ensures.mode) c.query_all.ensures.ok c.query_all.ensures.err

pub returns-clause-live : goal.returns-clause-live
returns-clause-live g c clean =
    shown_live c.args.sql.now (bound c.args.params.now) (state g.S.Store c.args.conn.now) (state g.S.Store c.query_all.new.self) c.in_ok-rows.rows.items (c.in_ok-rows.ensures.ok clean)
