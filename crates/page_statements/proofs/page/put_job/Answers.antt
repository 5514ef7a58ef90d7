use Rattle.std.proofs.Common.{ℕ}
use mathlib.Core.List.{append_assoc}
use Rattle.std.specs.Prelude.{decimal}
use Rattle.queue_types.specs.Job.{state, owed}
use Rattle.page_statements.proofs.Columns.{right_digits}
use Rattle.page_statements.proofs.page.put_job.Goals as goal

pub returns : goal.returns
returns c =
    let j = c.args.job.now in
    rw (← right_digits 10 (decimal j.number), ← right_digits 5 (decimal (state j)), ← right_digits 9 (decimal (owed j)), ← right_digits 9 (decimal j.count))
    (simp (append_assoc {A = ℕ}) (rw (c.laid_out.ensures, c.laid_out-2.ensures, c.laid_out-3.ensures, c.laid_out-4.ensures, c.number-state.ensures, c.state.ensures, c.owed-reserved.ensures) at c.writeln.ensures.bytes))
