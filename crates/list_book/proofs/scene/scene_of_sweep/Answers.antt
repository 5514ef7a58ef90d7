use Rattle.std.proofs.Common.{ap, sym, ◌∙◌}
use Rattle.std.specs.Prelude.{filter}
use Rattle.std.proofs.lemmas.Result.{IfOk-weaker}
use Rattle.queue_core.specs.World.{has_expired, owners, rows_of_accounts}
use Rattle.list_book.specs.Tables.{free_map}
use Rattle.list_book.proofs.SeenLemmas.{sweep_scene_is}
use Rattle.list_book.proofs.scene.scene_of_sweep.Goals as goal

pub returns : goal.returns
returns c =
    let late = c.in_ok-jobs.ensures ∙ (λ i. filter (has_expired (c.keep.ensures.keep i) c.args.now) (c.as_slice.ensures.value i)) in
    let accounts = c.in_ok-free.ensures ∙ ap (λ js. rows_of_accounts (free_map c.args.lists.now.accounts.entries) (owners js)) c.as_slice-2.ensures.value in
    IfOk-weaker c.jobs_scene.result _ _ (λ s is. is ∙ sym (sweep_scene_is c.args.lists.now c.args.now _ _ late accounts)) c.jobs_scene.ensures.scene
