use Rattle.std.proofs.Common.{◌≡◌, ap, sym, subst, ◌∙◌, cond, true, List}
use Rattle.std.specs.Prelude.{IfOk, Some, filter}
use Rattle.std.specs.List.{list_all}
use Rattle.queue_types.specs.Event.{Decision, decision_of}
use Rattle.queue_core.specs.Machine.{all_canceled, are_there, cancel_my_jobs_row, is_cancelable, refused}
use Rattle.queue_types.specs.declared.job.Job.{Job}
use Rattle.queue_core.proofs.Numbers.{filter_whole}
use Rattle.queue_core.proofs.my_jobs.cancel_named.Goals as goal

pub returns : goal.returns
returns c =
    let s = c.args.scene.now in
    let ns = c.args.numbers.now in
    let there : are_there s.jobs ns ≡ true = ap (λ (js : List Job). are_there js ns) (sym c.as_slice.ensures) ∙ sym c.in_ok-has_each.ensures ∙ c.if-not-branch.false in
    let each : list_all is_cancelable s.jobs ≡ true = ap (λ (js : List Job). list_all is_cancelable js) (sym c.as_slice-2.ensures) ∙ sym c.can_cancel_all.ensures ∙ c.if-not-can_cancel_all.false in
    let row : cancel_my_jobs_row s c.args.now (Some ns) ≡ all_canceled s c.args.now (filter is_cancelable s.jobs) =
    ap (λ b. cond b (cond (list_all is_cancelable s.jobs) (all_canceled s c.args.now s.jobs) (refused 0x0404)) (refused 0x0406)) there
    ∙ ap (λ b. cond b (all_canceled s c.args.now s.jobs) (refused 0x0404)) each
    ∙ ap (all_canceled s c.args.now) (sym (filter_whole is_cancelable s.jobs each)) in
    subst (λ (r : Decision). IfOk c.cancel_all.result (λ d. decision_of d ≡ r)) (sym row) c.cancel_all.ensures
