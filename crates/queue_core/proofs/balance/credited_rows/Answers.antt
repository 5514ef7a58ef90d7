use Rattle.std.proofs.Common.{arith}
use Rattle.std.proofs.lemmas.Int.{to_z-of_z}
use Rattle.std.proofs.lemmas.List.{take_more}
use Rattle.std.proofs.lemmas.Grind.{common_steps}
use Rattle.queue_core.proofs.balance.credited_rows.Goals as goal

pub loop-row-preserved : goal.loop-row-preserved
loop-row-preserved c = grind (arith, common_steps, to_z-of_z, take_more, c.in_ok-push.ensures.items, c.returned_to-back.ensures.exact, c.in_ok-account.ensures, c.row-item.is)
