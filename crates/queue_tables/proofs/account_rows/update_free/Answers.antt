use Rattle.std.proofs.lemmas.Result.{IfErr-weaker}
use Rattle.std.proofs.lemmas.Result.{IfOk-weaker}
use Rattle.sqlite.specs.Held.{state}
use Rattle.queue_tables.specs.Content.{content_of}
use Rattle.queue_tables.proofs.Statements.{update_free_text}
use Rattle.queue_tables.proofs.Sums.{free_params}
use Rattle.queue_tables.proofs.Opened.{held_others}
use Rattle.queue_tables.proofs.Renewing.{free_stands}
use Rattle.queue_tables.proofs.Frees.{puts_free, lacks_free}
use Rattle.queue_tables.proofs.account_rows.update_free.Goals as goal

pub returns-clause-live : goal.returns-clause-live
returns-clause-live g c clean = IfOk-weaker c.run.result _ _ (λ count ran. ran.1.is_open) (c.run.ensures.ran clean)

pub returns-clause-put : goal.returns-clause-put
returns-clause-put g c clean =
    IfOk-weaker c.run.result _ _ (λ count ran w has some. puts_free (state g.S.Store c.args.tx.now.conn.now) (state g.S.Store c.run.new.tx.conn.now) c.args.account.now.account c.args.account.now.free count w has some ran)
    (rw (c.params-to_sql.ensures, c.params-to_sql-2.ensures, c.as_str.ensures) at (c.run.ensures.ran clean))

pub returns-clause-lacking : goal.returns-clause-lacking
returns-clause-lacking g c clean =
    IfOk-weaker c.run.result _ _ (λ count ran w has zero. lacks_free (state g.S.Store c.args.tx.now.conn.now) (state g.S.Store c.run.new.tx.conn.now) c.args.account.now.account c.args.account.now.free count w has zero ran)
    (rw (c.params-to_sql.ensures, c.params-to_sql-2.ensures, c.as_str.ensures) at (c.run.ensures.ran clean))

pub returns-clause-damaged : goal.returns-clause-damaged
returns-clause-damaged g c clean = λ inside.
    let old = state g.S.Store c.args.tx.now.conn.now in
    let new = state g.S.Store c.run.new.tx.conn.now in
    IfErr-weaker c.run.result _ _ (λ e refused d w. held_others update_free_text (free_params c.args.account.now.account c.args.account.now.free) old new (content_of w) (free_stands old new c.args.account.now.account c.args.account.now.free w) (refused d))
    (rw (c.params-to_sql.ensures, c.params-to_sql-2.ensures, c.as_str.ensures) at (c.run.ensures.damaged clean inside))
