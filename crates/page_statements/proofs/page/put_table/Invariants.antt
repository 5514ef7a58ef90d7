use Rattle.std.proofs.Common.{◌≡◌, ◌++◌, take}
use Rattle.std.specs.Prelude.{codes, flat_map, string_bytes}
use Rattle.page_statements.specs.Statement.{job_row, row}
use Rattle.page_statements.proofs.page.put_table.Given as goal

-- the header and the jobs so far
abbrev pub invariant-loop-job : goal.invariant-loop-job
invariant-loop-job l = string_bytes l.out ≡ string_bytes l.fn.out ++ row (codes "job") (codes "state") (codes "reserved") (codes "printed") ++ flat_map job_row (take l.job-index l.job-items)
