use Rattle.std.proofs.Common.{◌∙◌, ap}
use Rattle.queue_core.specs.World.{rows_of_accounts}
use Rattle.queue_tables.proofs.Telling.{tells_as}
use Rattle.queue_scenes.specs.Expiry.{texts}
use Rattle.queue_scenes.proofs.expiry_scene.accounts_of_owners.Goals as goal

pub returns-clause-reads : goal.returns-clause-reads
returns-clause-reads g c = tells_as c.accounts_of.ensures.reads (λ w sound v is. is ∙ ap (λ ns. rows_of_accounts w.free (texts ns)) c.as_slice.ensures.value ∙ ap (rows_of_accounts w.free) c.in_ok-names.ensures)
