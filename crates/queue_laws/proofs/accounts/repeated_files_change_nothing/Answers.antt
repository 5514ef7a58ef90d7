use Rattle.std.proofs.Common.{◌≡◌, length, subst}
use Rattle.queue_types.specs.Event.{grant}
use Rattle.queue_core.specs.Machine.{step}
use Rattle.queue_core.specs.Runs.{run}
use Rattle.queue_types.specs.declared.event.Reply.TheVariants.{Added}
use Rattle.queue_laws.specs.Steps.{unchanged}
use Rattle.queue_laws.proofs.Filed.{file_again}
use Rattle.queue_laws.proofs.accounts.repeated_files_change_nothing.Goals as goal

pub returns : goal.returns
returns c w v now later added repeats file ps leads = subst (λ v. step (run v ps) later (grant file) ≡ unchanged (run v ps) (Added 0 (length file))) leads.0 (file_again w now later file ps added repeats leads.1)
