use Rattle.std.proofs.Common.{◌≡◌, [], arith}
use Rattle.std.proofs.lemmas.Grind.{common_steps}
use Rattle.device_lines.proofs.Readings.{after_job, after_seq, after_kind, after_count, kind_on, count_on}
use Rattle.device_lines.proofs.line.read_form.Goals as goal

pub returns-in_err-seq-clause-none : goal.returns-in_err-seq-clause-none
returns-in_err-seq-clause-none c =
    rw c.from_residual-in_err-seq.ensures (λ r h.
    let seq = after_job _ r _ _ h c.in_ok-job.ensures.some in
    c.in_err-seq.ensures.none r.seq (kind_on r) h.seq seq)

pub returns-in_err-kind-clause-none : goal.returns-in_err-kind-clause-none
returns-in_err-kind-clause-none c =
    rw c.from_residual-in_err-kind.ensures (λ r h.
    let seq = after_job _ r _ _ h c.in_ok-job.ensures.some in
    let kind = after_seq _ r _ _ _ h seq c.in_ok-seq.ensures.some in
    c.in_err-kind.ensures.none r.kind (count_on r) kind)

pub returns-in_err-count-clause-none : goal.returns-in_err-count-clause-none
returns-in_err-count-clause-none c =
    rw c.from_residual-in_err-count.ensures (λ r h.
    let seq = after_job _ r _ _ h c.in_ok-job.ensures.some in
    let kind = after_seq _ r _ _ _ h seq c.in_ok-seq.ensures.some in
    let count = after_kind r _ _ _ kind c.in_ok-kind.ensures.some in
    c.in_err-count.ensures.none r.count [] h.count count)

pub returns-then-not-is_empty-clause-none : goal.returns-then-not-is_empty-clause-none
returns-then-not-is_empty-clause-none c = λ r h.
    let seq = after_job _ r _ _ h c.in_ok-job.ensures.some in
    let kind = after_seq _ r _ _ _ h seq c.in_ok-seq.ensures.some in
    let count = after_kind r _ _ _ kind c.in_ok-kind.ensures.some in
    let none : c.in_ok-count.rest.now ≡ [] = after_count _ r _ _ _ h count c.in_ok-count.ensures.some in
    absurd (grind (arith, common_steps))
