use Rattle.std.proofs.Common.{arith}
use Rattle.std.proofs.lemmas.Map.Text.{text_keys}
use Rattle.queue_core.specs.Totals.{total_in}
use Rattle.queue_core.proofs.totals.add.Goals as goal

pub returns-clause-added : goal.returns-clause-added
unfolding total_in
returns-clause-added c = λ q. grind (arith, text_keys)
