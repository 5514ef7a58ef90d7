use Rattle.std.proofs.Common.{inl}
use Rattle.std.proofs.lemmas.Result.{err_from_is_err_and}
use Rattle.commands.proofs.serving.start.Goals as goal

pub returns-in_err-settings-clause-stream : goal.returns-in_err-settings-clause-stream
returns-in_err-settings-clause-stream g c =
    let p = err_from_is_err_and c.from_residual.result c.from_residual.ensures.1 in
    rw p.1 (inl p.2)

pub returns-in_err-listener-clause-stream : goal.returns-in_err-listener-clause-stream
returns-in_err-listener-clause-stream g c =
    let p = err_from_is_err_and c.from_residual-in_err-listener.result c.from_residual-in_err-listener.ensures.1 in
    rw p.1 p.2.0
