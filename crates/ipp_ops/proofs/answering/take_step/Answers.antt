use Rattle.std.proofs.Common.{◌≡◌, refl}
use Rattle.queue_types.specs.Event.{event_of}
use Rattle.queue_core.specs.Crash.{untaken}
use Rattle.queue_core.proofs.Crashes.{broken, on_err}
use Rattle.ipp_ops.proofs.Within.{asked_reply}
use Rattle.ipp_ops.proofs.answering.take_step.Goals as goal

pub reply_bytes-requires-clause-sound : goal.reply_bytes-requires-clause-sound
reply_bytes-requires-clause-sound g c = asked_reply (event_of c.args.event.now) c.in_ok-decision.decision.reply c.requires.asked c.in_ok-decision.ensures.limits

pub apply-requires : goal.apply-requires
apply-requires g c = record {
  decided = λ w honest stands. record {
    now = c.args.context.now;
    event = event_of c.args.event.now;
    moment = c.requires.moment;
    limits = c.requires.event;
    is = c.in_ok-decision.ensures.decides honest w stands;
  };
}

pub returns-in_err-decision-clause-crash : goal.returns-in_err-decision-clause-crash
returns-in_err-decision-clause-crash g c = λ honest. on_err _ (g.B.QueueBook.stands c.args.book.now) (g.B.QueueBook.crash_leaves c.args.book.now) (g.B.QueueBook.crash_leaves c.decide.new.self) (λ e. e ≡ event_of c.args.event.now) _ c.args.context.now
    (λ w v stands left. (v, c.decide.ensures.left honest w v left, untaken refl refl))

pub returns-in_err-bytes-clause-crash : goal.returns-in_err-bytes-clause-crash
returns-in_err-bytes-clause-crash g c = λ honest. on_err _ (g.B.QueueBook.stands c.args.book.now) (g.B.QueueBook.crash_leaves c.args.book.now) (g.B.QueueBook.crash_leaves c.decide.new.self) (λ e. e ≡ event_of c.args.event.now) _ c.args.context.now
    (λ w v stands left. (v, c.decide.ensures.left honest w v left, untaken refl refl))

pub returns-in_err-apply-clause-crash : goal.returns-in_err-apply-clause-crash
returns-in_err-apply-clause-crash g c = λ honest. on_err _ (g.B.QueueBook.stands c.args.book.now) (g.B.QueueBook.crash_leaves c.args.book.now) (g.B.QueueBook.crash_leaves c.apply.new.self) (λ e. e ≡ event_of c.args.event.now) _ c.args.context.now
    (λ w v stands left.
    let began = c.apply.ensures.began honest in
    let kept = c.decide.ensures.kept w stands in
    broken (g.B.QueueBook.crash_leaves c.apply.new.self w) _ c.args.context.now w v (event_of c.args.event.now) _ c.from_residual-in_err-apply.ensures.0 (c.in_ok-decision.ensures.decides began w kept)
    (c.apply.ensures.crash honest (c.in_ok-decision.ensures.live began) w kept))
