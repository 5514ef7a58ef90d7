use Rattle.sqlite.specs.Held.{state}
use Rattle.queue_tables.proofs.Leaving.{leaves_all, leaves_then}
use Rattle.queue_load.proofs.rows.load_rows.Goals as goal

pub returns-in_err-fill_accounts-clause-leaves : goal.returns-in_err-fill_accounts-clause-leaves
returns-in_err-fill_accounts-clause-leaves g c = leaves_then _ _ _ c.in_ok-fill_jobs.ensures.reads.leaves c.in_err-fill_accounts.ensures.reads.leaves

pub returns-clause-leaves : goal.returns-clause-leaves
returns-clause-leaves g c = leaves_then _ _ _ c.in_ok-fill_jobs.ensures.reads.leaves c.in_ok-fill_accounts.ensures.reads.leaves

pub returns-then-not-has_tables-clause-leaves : goal.returns-then-not-has_tables-clause-leaves
returns-then-not-has_tables-clause-leaves g c = leaves_all (state g.S.Store c.args.conn.now)
