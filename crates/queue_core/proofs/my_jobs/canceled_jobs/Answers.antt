use Rattle.std.proofs.Common.{◌≡◌, ℕ, arith, ◌≤◌, ◌++◌, ◌∷◌, [], List, map, length, take, ap, sym, subst, ◌∙◌}
use Rattle.std.proofs.Math.Seq.{take-length}
use Rattle.std.specs.Prelude.{All, filter}
use Rattle.queue_core.specs.Balance.{AreAmounts}
use Rattle.queue_core.specs.Machine.{canceled, is_cancelable}
use Rattle.queue_types.specs.declared.job.Job.{Job}
use Rattle.queue_core.proofs.Numbers.{canceled_more, amounts_kept, few_kept}
use Rattle.queue_core.proofs.my_jobs.canceled_jobs.Goals as goal

pub loop-job-preserved : goal.loop-job-preserved
loop-job-preserved c =
    let before : List Job = map (canceled c.args.now) (filter is_cancelable (take c.loop-job.job-index c.args.jobs.now)) in
    c.in_ok-push_canceled.ensures
    ∙ ap (λ js. js ++ map (canceled c.args.now) (filter is_cancelable (c.job-item.result ∷ []))) c.loop-job.invariant
    ∙ ap (λ (j : Job). before ++ map (canceled c.args.now) (filter is_cancelable (j ∷ []))) c.job-item.is
    ∙ sym (canceled_more c.args.now c.args.jobs.now c.loop-job.job-index c.job-item.result c.loop-job-test.true)

-- at the end of the jobs, all of them were looked at
whole : (now : ℕ) (js after : List Job) (i : ℕ) → i ≡ length js → after ≡ map (canceled now) (filter is_cancelable (take i js)) → after ≡ map (canceled now) (filter is_cancelable js)
whole now js after i end is = is ∙ ap (λ n. map (canceled now) (filter is_cancelable (take n js))) end ∙ ap (λ ks. map (canceled now) (filter is_cancelable ks)) (take-length js)

pub returns-clause-amounts : goal.returns-clause-amounts
returns-clause-amounts c = subst (All AreAmounts) (sym (whole c.args.now c.args.jobs.now c.loop-job.after.items c.loop-job.job-index (omega arith) c.loop-job.invariant)) (amounts_kept c.args.now c.args.jobs.now c.requires)

pub returns-clause-few : goal.returns-clause-few
returns-clause-few c = subst (λ (js : List Job). length js ≤ length c.args.jobs.now) (sym (whole c.args.now c.args.jobs.now c.loop-job.after.items c.loop-job.job-index (omega arith) c.loop-job.invariant)) (few_kept c.args.now c.args.jobs.now)
