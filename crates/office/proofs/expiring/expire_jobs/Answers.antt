use Rattle.std.proofs.Common.{refl, inr}
use Rattle.std.proofs.lemmas.Result.{IfErr-weaker, on_ok_weaker}
use Rattle.queue_types.specs.Event.{expire}
use Rattle.queue_core.specs.Machine.{step}
use Rattle.queue_core.proofs.Crashes.{carries_by}
use Rattle.office.specs.Faults.{IsOfStream}
use Rattle.office.proofs.expiring.expire_jobs.Goals as goal

pub returns-clause-expired : goal.returns-clause-expired
returns-clause-expired g c = λ honest. on_ok_weaker c.tell.result (λ told w stands.
    let a = c.in_ok-ended.ensures.ok honest w stands in
    (c.in_ok-ended.ended, (step w c.args.now expire).world, (a.0, refl), a.1, told)) c.tell.ensures.told

pub returns-clause-written : goal.returns-clause-written
returns-clause-written g c = on_ok_weaker c.tell.result (λ told. (c.in_ok-ended.ended, told)) c.tell.ensures.told

pub returns-clause-why : goal.returns-clause-why
returns-clause-why g c = λ honest. IfErr-weaker c.tell.result IsOfStream _ (λ f of_stream w stands.
    let a = c.in_ok-ended.ensures.ok honest w stands in
    inr (of_stream, c.in_ok-ended.ensures.live honest, c.in_ok-ended.ended, (step w c.args.now expire).world, (a.0, refl), a.1)) c.tell.ensures.failed

pub returns-in_err-ended-clause-crash : goal.returns-in_err-ended-clause-crash
returns-in_err-ended-clause-crash g c = λ honest w stands.
    let a = c.in_err-ended.ensures.crash honest w stands in
    (a.0, a.2, carries_by (g.B.QueueBook.crash_leaves c.args.book.now) (g.B.QueueBook.crash_leaves c.sweep.new.book) _ _ _ _ c.args.now w a.0 (λ e asks. asks) (λ is. c.from_residual.ensures.0) a.3)

pub returns-clause-crash : goal.returns-clause-crash
returns-clause-crash g c = λ honest w stands.
    let a = c.in_ok-ended.ensures.crash honest w stands in
    (a.0, a.2, carries_by (g.B.QueueBook.crash_leaves c.args.book.now) (g.B.QueueBook.crash_leaves c.sweep.new.book) _ _ _ _ c.args.now w a.0 (λ e asks. asks) (λ is. absurd (cc)) a.3)
