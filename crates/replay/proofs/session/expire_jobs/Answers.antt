use Rattle.std.proofs.Common.{refl}
use Rattle.replay.specs.Session.{sweep_line}
use Rattle.replay.proofs.session.expire_jobs.Goals as goal

pub returns-clause-answered : goal.returns-clause-answered
returns-clause-answered g c = λ h w s.
    let a = c.sweep-answer.ensures.crash h w s in (
      a.0,
      sweep_line c.sweep-answer.result,
      (c.sweep-answer.result, a.1, refl),
      a.2,
      c.in_ok-tell_sweep.ensures.told,
    )
