use Rattle.std.proofs.Common.{drop}
use Rattle.queue_rows.specs.Documents.{AreGrouped}
use Rattle.queue_rows.proofs.documents.documents_follow.Given as goal

abbrev pub invariant-loop-job : goal.invariant-loop-job
invariant-loop-job l = (AreGrouped l.jobs l.fn.documents → AreGrouped (drop l.job-index l.jobs) l.rest) × (AreGrouped (drop l.job-index l.jobs) l.rest → AreGrouped l.jobs l.fn.documents)
