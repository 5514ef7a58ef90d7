use Rattle.std.proofs.Common.{◌≡◌, ◌++◌, ℕ, List, [], take, arith, ap, subst, ◌∙◌}
use Rattle.std.specs.Prelude.{OnOk, codes, decimal, flat_map, string_bytes}
use Rattle.std.proofs.lemmas.List.{take_all}
use Rattle.queue_types.specs.declared.job.Job.{Job}
use Rattle.page_statements.specs.Statement.{job_row, row, table}
use Rattle.page_statements.proofs.Columns.{right_digits, three_parts, total_line}
use Rattle.page_statements.proofs.page.put_table.Goals as goal

pub returns : goal.returns
returns c =
    let s = c.args.sheet.now in
    let old = string_bytes c.args.out.now in
    let header = row (codes "job") (codes "state") (codes "reserved") (codes "printed") in
    let total = row (codes "total") [] (decimal s.reserved) (decimal s.printed) in
    let each : take c.loop-job.job-index c.as_slice-job-items.result.now ≡ s.jobs = take_all c.loop-job.job-index c.as_slice-job-items.result.now (omega (arith, c.loop-job-test.false)) ∙ c.as_slice-job-items.ensures in
    let jobs : string_bytes c.loop-job.out ≡ old ++ header ++ flat_map job_row s.jobs = c.loop-job.invariant ∙ ap (λ (js : List Job). old ++ header ++ flat_map job_row js) each in
    let lines : string_bytes c.loop-job.out ++ total ≡ old ++ table s = rw jobs (three_parts old header (flat_map job_row s.jobs) total) in
    let P : List ℕ → Type 0 = λ text. OnOk c.writeln.result (string_bytes c.writeln.new.self ≡ text) in
    subst P (total_line (string_bytes c.loop-job.out) _ _ (decimal s.reserved) (decimal s.printed) (right_digits 9 (decimal s.reserved)) (right_digits 9 (decimal s.printed)) ∙ lines)
    (rw (c.laid_out.ensures, c.laid_out-2.ensures) at c.writeln.ensures.bytes)
