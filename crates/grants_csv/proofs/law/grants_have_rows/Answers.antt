use Rattle.grants_csv.proofs.Stated.{grant_stated}
use Rattle.grants_csv.proofs.law.grants_have_rows.Goals as goal

pub returns : goal.returns
returns c = grant_stated
