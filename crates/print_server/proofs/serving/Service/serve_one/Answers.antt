use Rattle.std.proofs.Common.{refl, arith}
use Rattle.print_server.proofs.ConnectionLemmas.{on_err, told_one}
use Rattle.print_server.proofs.ServedLemmas.{served_none, served_one}
use Rattle.print_server.proofs.serving.Service.serve_one.Goals as goal

pub returns-in_err-stream-clause-err : goal.returns-in_err-stream-clause-err
returns-in_err-stream-clause-err g c = λ h. on_err c.from_residual.result _ (λ w st set. (served_none st, omega arith))

pub returns-in_err-now-clause-err : goal.returns-in_err-now-clause-err
returns-in_err-now-clause-err g c = λ h. on_err c.from_residual-in_err-now.result _ (λ w st set. (served_none st, omega arith))

pub returns-in_err-tell_served-clause-err : goal.returns-in_err-tell_served-clause-err
returns-in_err-tell_served-clause-err g c = λ h. on_err c.from_residual-in_err-tell_served.result _ (λ w st set. (
  served_one c.sweep_and_serve-outcome.result.acted (c.sweep_and_serve-outcome.ensures.worked h w st set),
  omega arith,
))

pub returns-clause-ok : goal.returns-clause-ok
returns-clause-ok g c = λ h w st set. (
  served_one c.sweep_and_serve-outcome.result.acted (c.sweep_and_serve-outcome.ensures.worked h w st set),
  refl,
  told_one _ _ _ c.in_ok-tell_served.ensures,
)
