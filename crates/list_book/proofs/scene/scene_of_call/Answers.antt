use Rattle.std.proofs.Common.{ap, sym, ◌∙◌}
use Rattle.std.proofs.lemmas.Result.{IfOk-weaker}
use Rattle.queue_types.specs.Event.{call_of}
use Rattle.queue_core.specs.World.{jobs_for, free_for, live_for, counts_for}
use Rattle.list_book.specs.Tables.{free_map}
use Rattle.list_book.proofs.Put.{scene_is}
use Rattle.list_book.proofs.scene.scene_of_call.Goals as goal

pub returns : goal.returns
returns c =
    let l = c.args.lists.now in
    let caller = c.args.caller.now in
    let call = call_of c.args.call.now in
    let jobs = c.in_ok-jobs.ensures ∙ (λ i. jobs_for (c.operators.ensures.operators i) caller call (c.as_slice.ensures.value i)) in
    IfOk-weaker c.call_scene.result _ _ (λ s is now. is ∙ sym (scene_is l now caller call _ _ _ _ _
    jobs
    (c.in_ok-free.ensures ∙ ap (λ js. free_for caller call js (free_map l.accounts.entries)) (c.as_slice-2.ensures.value ∙ jobs))
    (c.live_for_call-live.ensures ∙ ap (live_for caller call) c.as_slice-3.ensures.value)
    (c.counts-counts.ensures ∙ ap (counts_for call) c.as_slice-4.ensures.value)
    c.next_for_call-next.ensures)) c.call_scene.ensures.scene
