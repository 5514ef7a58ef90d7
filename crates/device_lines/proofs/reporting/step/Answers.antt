use Rattle.std.proofs.Common.{◌≡◌, refl}
use Rattle.queue_types.specs.Event.{tell}
use Rattle.queue_core.specs.Crash.{untaken}
use Rattle.queue_core.proofs.Crashes.{broken, on_err}
use Rattle.device_lines.proofs.reporting.step.Goals as goal

pub apply-requires : goal.apply-requires
apply-requires g c = record {
  decided = λ w honest stands. record {
    now = c.args.now;
    event = tell c.args.report;
    moment = c.requires.moment;
    limits = c.requires.report;
    is = c.in_ok-decision.ensures.decides honest w stands;
  };
}

pub returns-in_err-decision-clause-crash : goal.returns-in_err-decision-clause-crash
returns-in_err-decision-clause-crash g c = λ honest. on_err _ (g.B.QueueBook.stands c.args.book.now) (g.B.QueueBook.crash_leaves c.args.book.now) (g.B.QueueBook.crash_leaves c.decide.new.self) (λ e. e ≡ tell c.args.report) _ c.args.now
    (λ w v stands left. (v, c.decide.ensures.left honest w v left, untaken refl refl))

pub returns-in_err-apply-clause-crash : goal.returns-in_err-apply-clause-crash
returns-in_err-apply-clause-crash g c = λ honest. on_err _ (g.B.QueueBook.stands c.args.book.now) (g.B.QueueBook.crash_leaves c.args.book.now) (g.B.QueueBook.crash_leaves c.apply.new.self) (λ e. e ≡ tell c.args.report) _ c.args.now
    (λ w v stands left.
    let began = c.apply.ensures.began honest in
    let kept = c.decide.ensures.kept w stands in
    broken (g.B.QueueBook.crash_leaves c.apply.new.self w) _ c.args.now w v (tell c.args.report) _ c.from_residual-in_err-apply.ensures.0 (c.in_ok-decision.ensures.decides began w kept)
    (c.apply.ensures.crash honest (c.in_ok-decision.ensures.live began) w kept))

pub returns-clause-replies : goal.returns-clause-replies
returns-clause-replies g c = record {
  reply = c.in_ok-decision.decision.reply;
  within = c.in_ok-decision.ensures.limits;
  answers = c.answer_to-answer.ensures.answer;
}
