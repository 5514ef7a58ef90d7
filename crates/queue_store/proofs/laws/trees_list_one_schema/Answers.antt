use Rattle.queue_store.proofs.OneSchema.{one_schema}
use Rattle.queue_store.proofs.laws.trees_list_one_schema.Goals as goal

pub returns : goal.returns
returns c = one_schema
