use Rattle.std.proofs.Common.{rules}
use Rattle.sqlite.specs.Held.{state}
use Rattle.sqlite.specs.Values.{bound}
use Rattle.queue_tables.proofs.Ending.{clean_before}
use Rattle.queue_tables.proofs.Inside.{query_keeps, shown_inside}
use Rattle.queue_tables.proofs.Leaving.{survives_serves}
use Rattle.queue_tables.proofs.run.select_inside.Goals as goal

pub returns-in_err-rows-clause-stays : goal.returns-in_err-rows-clause-stays
returns-in_err-rows-clause-stays g c =
    let old = state g.S.Store c.args.tx.now.conn.now in
    let new = state g.S.Store c.query_all.new.self.conn.now in
    record {
      clean = clean_before old new c.query_all.ensures.survives.clean;
      kept = λ clean. query_keeps (λ rows. rows.items) c.args.sql.now (bound c.args.params.now) old new c.query_all.result c.query_all.ensures.survives clean (c.query_all.ensures.ok clean) (c.query_all.ensures.err clean);
      inside = search rules;
      serves = survives_serves old new (λ _. ⊥) c.query_all.ensures.survives;
    }

pub returns-clause-stays : goal.returns-clause-stays
returns-clause-stays g c =
    let old = state g.S.Store c.args.tx.now.conn.now in
    let new = state g.S.Store c.query_all.new.self.conn.now in
    record {
      clean = clean_before old new c.query_all.ensures.survives.clean;
      kept = λ clean. query_keeps (λ rows. rows.items) c.args.sql.now (bound c.args.params.now) old new c.query_all.result c.query_all.ensures.survives clean (c.query_all.ensures.ok clean) (c.query_all.ensures.err clean);
      inside = λ clean. shown_inside c.args.sql.now (bound c.args.params.now) old new c.in_ok-rows.rows.items (c.in_ok-rows.ensures.ok clean);
      serves = survives_serves old new (λ _. ⊥) c.query_all.ensures.survives;
    }
