use Rattle.ipp_ops.proofs.Laws.{path_named, path_found}
use Rattle.ipp_ops.proofs.Told.{told}
use Rattle.ipp_ops.proofs.law.job_paths.Goals as goal

pub returns-clause-named : goal.returns-clause-named
returns-clause-named c = path_named

pub returns-clause-found : goal.returns-clause-found
returns-clause-found c = path_found

pub returns-clause-told : goal.returns-clause-told
returns-clause-told c = λ s now j are positive. told s j.number are positive
