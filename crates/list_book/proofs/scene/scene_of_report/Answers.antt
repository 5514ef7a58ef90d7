use Rattle.std.proofs.Common.{ap, sym, ◌∙◌}
use Rattle.std.proofs.lemmas.Result.{IfOk-weaker}
use Rattle.queue_core.specs.World.{numbered, owner_row}
use Rattle.list_book.specs.Tables.{free_map}
use Rattle.list_book.proofs.Put.{report_scene_is}
use Rattle.list_book.proofs.scene.scene_of_report.Goals as goal

pub returns : goal.returns
returns c =
    let r = c.args.report.now in
    let jobs = c.in_ok-jobs.ensures ∙ ap (numbered r.job) c.as_slice.ensures.value in
    IfOk-weaker c.report_scene.result _ _ (λ s is now. is ∙ sym (report_scene_is c.args.lists.now now r _ _ _
    jobs
    (c.in_ok-free.ensures ∙ ap (owner_row (free_map c.args.lists.now.accounts.entries)) (c.as_slice-2.ensures.value ∙ jobs))
    c.kept_report-kept.ensures)) c.report_scene.ensures.scene
