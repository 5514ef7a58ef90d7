use Rattle.queue_rows.specs.Versions.{third_version}
use Rattle.queue_load.proofs.Contents.{content_is}
use Rattle.queue_load.proofs.laws.tables_have_rows.Goals as goal

pub returns : goal.returns
returns c = content_is third_version
