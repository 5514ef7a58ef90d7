use Rattle.sqlite.specs.Files.{over_files}
use Rattle.queue_store.proofs.Adopting.{made_however, none_made}
use Rattle.queue_store.proofs.open.make_in_files.Goals as goal

pub returns-in-Ok : goal.returns-in-Ok
returns-in-Ok g c = made_however over_files c.args.conn c.in-Ok.book c.args.settings c.in-Ok.ensures.made

pub returns-in-Err : goal.returns-in-Err
returns-in-Err g c = none_made over_files c.args.conn c.in-Err.fault c.args.settings
