use Rattle.queue_types.proofs.Uris.{no_mark, no_path, path_found}
use Rattle.queue_types.proofs.uri.uris_have_paths.Goals as goal

pub returns-clause-found : goal.returns-clause-found
returns-clause-found c = path_found

pub returns-clause-unmarked : goal.returns-clause-unmarked
returns-clause-unmarked c = no_mark

pub returns-clause-unrooted : goal.returns-clause-unrooted
returns-clause-unrooted c = no_path
