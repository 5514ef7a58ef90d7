use Rattle.std.proofs.Common.{refl}
use Rattle.queue_tables.proofs.Casts.{bound_moment, bound_truth}
use Rattle.queue_tables.proofs.job_rows.columns_of.Goals as goal

pub returns : goal.returns
returns c = rw (c.to_sql.ensures, c.to_sql-2.ensures, c.to_sql-3.ensures, c.to_sql-4.ensures, c.to_sql-5.ensures, c.to_sql-6.ensures, c.to_sql-7.ensures, c.to_sql-8.ensures, c.to_sql-9.ensures, c.to_sql-10.ensures, c.to_sql-11.ensures, c.to_sql-12.ensures, c.to_sql-13.ensures, c.to_sql-14.ensures, c.as_str.ensures, c.as_str-2.ensures, c.phase_number_of.ensures, c.why_number_of.ensures, c.stopping_number_of.ensures, bound_truth c.args.job.now.hold, bound_truth c.args.job.now.incoming, bound_moment c.args.job.now.begun, bound_moment c.args.job.now.ended) refl
