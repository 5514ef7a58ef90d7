use Rattle.std.proofs.Common.{ap, sym, ◌∙◌}
use Rattle.std.specs.Prelude.{filter, ◌==◌, List}
use Rattle.queue_types.specs.Job.{state}
use Rattle.queue_core.specs.Shown.{pending_in, pending_jobs}
use Rattle.queue_core.specs.World.{World}
use Rattle.queue_types.specs.declared.job.Job.{Job}
use Rattle.list_book.proofs.Put.{rows_of}
use Rattle.list_book.proofs.book.ListBookQueueBook.pending.Goals as goal

pub returns-clause-jobs : goal.returns-clause-jobs
unfolding pending_in
returns-clause-jobs c = λ _ w h.
    let l = c.self.inside.lists in
    c.from_items.ensures ∙ c.in_ok-jobs.ensures
    ∙ ap (λ (js : List Job). filter (λ j. state j == 3) js) (c.as_slice.ensures.value ∙ sym (rows_of l.documents.items l.jobs.items))
    ∙ ap (λ (v : World). pending_jobs v) (c.self.view_is ∙ h.0)
