use Rattle.std.proofs.Common.{◌∙◌}
use Rattle.queue_tables.proofs.Columns.{fourteen, same_fourteen}
use Rattle.queue_tables.proofs.read.read_job.Goals as goal

pub returns-clause-ok : goal.returns-clause-ok
returns-clause-ok c = λ len.
    let course = c.in_ok-course.ensures.ok in
    fourteen c.args.row.now len
    ∙ same_fourteen c.in_ok-value.ensures.ok c.in_ok-text.ensures.ok c.in_ok-text-2.ensures.ok c.in_ok-value-2.ensures.ok c.in_ok-value-3.ensures.ok
    course.hold course.incoming course.phase course.why course.stopping course.count c.in_ok-value-4.ensures.ok course.begun course.ended
