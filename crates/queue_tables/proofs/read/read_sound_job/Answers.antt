use Rattle.std.proofs.Common.{sym, subst, rules}
use Rattle.queue_rows.specs.Jobs.{IsJobRow}
use Rattle.queue_tables.proofs.Ending.{err_after}
use Rattle.queue_tables.proofs.Formed.{bare_row, formed_job}
use Rattle.queue_tables.proofs.JobPut.{read_bare}
use Rattle.queue_tables.proofs.read.read_sound_job.Goals as goal

pub returns-clause-read : goal.returns-clause-read
returns-clause-read c = λ j is. read_bare c.numbers_tell_names.ensures.courses c.numbers_tell_names.ensures.flags c.args.row.now c.in_ok-job.job j c.in_ok-job.ensures.ok c.in_ok-job.ensures.bare is

pub returns-in_err-job-clause-damaged : goal.returns-in_err-job-clause-damaged
returns-in_err-job-clause-damaged c = err_after _ c.in_err-job.field-0.0 _ c.from_residual.ensures.1 (λ damaged j sound is. c.in_err-job.ensures.err damaged j (formed_job j sound) is)

pub returns-then-not-is_job_row-clause-damaged : goal.returns-then-not-is_job_row-clause-damaged
returns-then-not-is_job_row-clause-damaged c = λ damaged j sound is.
    let read = read_bare c.numbers_tell_names.ensures.courses c.numbers_tell_names.ensures.flags c.args.row.now c.in_ok-job.job j c.in_ok-job.ensures.ok c.in_ok-job.ensures.bare is in
    let row : IsJobRow c.in_ok-job.job = subst IsJobRow (sym read) (bare_row j sound) in
    search (rules, row)
