use Rattle.std.proofs.lemmas.List.Elements.{All-same}
use Rattle.queue_core.specs.Limits.{IsGrantRow}
use Rattle.grants_csv.proofs.reading.read_grants.Goals as goal

pub returns-clause-limits : goal.returns-clause-limits
returns-clause-limits c = All-same IsGrantRow _ _ c.from_items.ensures c.in_ok-read_file.ensures.limits
