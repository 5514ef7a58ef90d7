use Rattle.ipp_request.proofs.Names.{read, spelled}
use Rattle.ipp_request.proofs.law.names_with_languages.Goals as goal

pub returns-clause-read : goal.returns-clause-read
returns-clause-read c = read

pub returns-clause-spelled : goal.returns-clause-spelled
returns-clause-spelled c = spelled
