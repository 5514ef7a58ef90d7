use Rattle.std.proofs.Common.{ap, sym, ◌∙◌, cond}
use Rattle.std.specs.Prelude.{None}
use Rattle.queue_core.specs.World.{job_at}
use Rattle.list_book.specs.Lists.{nth_of}
use Rattle.list_book.proofs.SeenLemmas.{no_job, fetched}
use Rattle.list_book.proofs.seen.document.Goals as goal

pub returns-in_err-found : goal.returns-in_err-found
returns-in_err-found c = rw c.from_residual.ensures (no_job c.args.lists.now c.args.job c.args.n (c.in_err-found.ensures.at ∙ ap (job_at c.args.job) c.as_slice.ensures.value))

pub returns-then-may_be_fetched : goal.returns-then-may_be_fetched
returns-then-may_be_fetched c =
    let l = c.args.lists.now in
    let j = c.in_ok-found.found.now in
    c.nth_document.ensures
    ∙ ap (nth_of j.number c.args.n) c.as_slice-then-may_be_fetched.ensures.value
    ∙ ap (λ b. cond b (nth_of j.number c.args.n l.documents.items) None) (sym c.if-may_be_fetched.true ∙ c.may_be_fetched.ensures)
    ∙ fetched l j c.args.job c.args.n (c.in_ok-found.ensures.at ∙ ap (job_at c.args.job) c.as_slice.ensures.value)

pub returns-else-may_be_fetched : goal.returns-else-may_be_fetched
returns-else-may_be_fetched c =
    let l = c.args.lists.now in
    let j = c.in_ok-found.found.now in
    ap (λ b. cond b (nth_of j.number c.args.n l.documents.items) None) (sym c.if-may_be_fetched.false ∙ c.may_be_fetched.ensures)
    ∙ fetched l j c.args.job c.args.n (c.in_ok-found.ensures.at ∙ ap (job_at c.args.job) c.as_slice.ensures.value)
