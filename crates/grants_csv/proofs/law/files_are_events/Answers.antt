use Rattle.grants_csv.proofs.Limits.{asked_fits}
use Rattle.grants_csv.proofs.law.files_are_events.Goals as goal

pub returns : goal.returns
returns c = asked_fits
