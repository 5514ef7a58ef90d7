use Rattle.std.proofs.Common.{refl, ap, sym, ◌∙◌, subst}
use Rattle.queue_types.specs.Event.{Decision, expire}
use Rattle.queue_core.specs.Crash.{taken, untaken}
use Rattle.queue_core.specs.Machine.{step}
use Rattle.queue_core.specs.World.{made_on}
use Rattle.queue_core.proofs.Crashes.{broken, swept_none}
use Rattle.queue_core.proofs.sweeping.sweep.Goals as goal

pub apply-requires : goal.apply-requires
apply-requires g c = record {
  decided = λ w honest stands. record {
    now = c.args.now;
    event = expire;
    moment = c.requires.moment;
    limits = tt;
    is = c.in_ok-decision.ensures.decides honest w stands;
  };
}

pub returns-in_err-decision-clause-crash : goal.returns-in_err-decision-clause-crash
returns-in_err-decision-clause-crash g c = λ honest w stands. (
  w,
  swept_none w c.args.now _ c.from_residual.ensures.0,
  c.decide.ensures.kept w stands,
  λ v left. (v, c.decide.ensures.left honest w v left, untaken refl refl),
)

pub returns-in_err-apply-clause-crash : goal.returns-in_err-apply-clause-crash
returns-in_err-apply-clause-crash g c = λ honest w stands.
    let began = c.apply.ensures.began honest in
    let kept = c.decide.ensures.kept w stands in (
      w,
      swept_none w c.args.now _ c.from_residual-in_err-apply.ensures.0,
      c.in_err-apply.ensures.err w kept,
      λ v left.
          broken (g.B.QueueBook.crash_leaves c.apply.new.self w) _ c.args.now w v expire _ c.from_residual-in_err-apply.ensures.0 (c.in_ok-decision.ensures.decides began w kept)
          (c.apply.ensures.crash honest (c.in_ok-decision.ensures.live began) w kept),
    )

pub returns-clause-crash : goal.returns-clause-crash
returns-clause-crash g c = λ honest w stands.
    let began = c.apply.ensures.began honest in
    let kept = c.decide.ensures.kept w stands in
    let u = (step w c.args.now expire).world in
    let is = c.in_ok-decision.ensures.decides began w kept in
    let after : g.B.QueueBook.stands c.apply.new.self u = subst (λ (d : Decision). g.B.QueueBook.stands c.apply.new.self (made_on d.change w)) is (c.in_ok-apply.ensures.ok w kept) in (
      u,
      (ap (λ (d : Decision). d.reply) (sym is) ∙ c.in-Expired.is, refl),
      after,
      λ v left. (u, g.met.B.QueueBook.lasts c.apply.new.self u u honest (c.in_ok-apply.ensures.live honest) after, taken expire refl refl refl),
    )
