use Rattle.std.proofs.Common.{◌≡◌, ◌∙◌, Err, ap, inr, refl, rules}
use Rattle.std.proofs.lemmas.Result.{err_from_is_err_and}
use Rattle.queue_types.specs.Event.{grant}
use Rattle.queue_core.specs.Crash.{untaken}
use Rattle.queue_core.proofs.Crashes.{broken, on_err}
use Rattle.grants_csv.proofs.importing.take_rows.Goals as goal

pub apply-requires : goal.apply-requires
apply-requires g c = record {
  decided = λ w honest stands. record {
    now = c.args.now;
    event = grant c.args.rows.now;
    moment = c.requires.moment;
    limits = c.requires.limits;
    is = c.in_ok-decision.ensures.decides honest w stands;
  };
}

pub returns-in_err-decision-clause-crash : goal.returns-in_err-decision-clause-crash
returns-in_err-decision-clause-crash g c = λ honest. on_err _ (g.B.QueueBook.stands c.args.book.now) (g.B.QueueBook.crash_leaves c.args.book.now) (g.B.QueueBook.crash_leaves c.decide.new.self) (λ e. e ≡ grant c.args.rows.now) _ c.args.now (λ w v stands left. (v, c.decide.ensures.left honest w v left, untaken refl refl))

pub returns-in-NotAdded-clause-crash : goal.returns-in-NotAdded-clause-crash
returns-in-NotAdded-clause-crash g c = λ honest w v stands left. (v, c.decide.ensures.left honest w v left, untaken refl refl)

pub returns-in_err-apply-in-Added-clause-crash : goal.returns-in_err-apply-in-Added-clause-crash
returns-in_err-apply-in-Added-clause-crash g c = λ honest. on_err _ (g.B.QueueBook.stands c.args.book.now) (g.B.QueueBook.crash_leaves c.args.book.now) (g.B.QueueBook.crash_leaves c.apply.new.self) (λ e. e ≡ grant c.args.rows.now) _ c.args.now (λ w v stands left.
    let began = c.apply.ensures.began honest in
    let kept = c.decide.ensures.kept w stands in
    let p = err_from_is_err_and c.from_residual-in_err-apply-in-Added.result c.from_residual-in_err-apply-in-Added.ensures.1 in
    broken (g.B.QueueBook.crash_leaves c.apply.new.self w) _ c.args.now w v (grant c.args.rows.now) _ (p.1 ∙ ap Err p.2) (c.in_ok-decision.ensures.decides began w kept)
    (c.apply.ensures.crash honest (c.in_ok-decision.ensures.live began) w kept))

pub returns-in-NotAdded-clause-replies : goal.returns-in-NotAdded-clause-replies
returns-in-NotAdded-clause-replies g c = inr record { why = c.in-NotAdded.refusal; row = c.in-NotAdded.row; counted = rw c.in-NotAdded.is at c.in_ok-decision.ensures.limits; is = search rules }
