use Rattle.std.proofs.Common.{◌≡◌, subst}
use Rattle.queue_types.specs.Event.{tell}
use Rattle.queue_core.specs.Machine.{step}
use Rattle.queue_core.specs.Runs.{run}
use Rattle.queue_types.specs.declared.event.Reply.TheVariants.{Told}
use Rattle.queue_laws.specs.Steps.{unchanged}
use Rattle.queue_laws.proofs.Again.{answered_again}
use Rattle.queue_laws.proofs.device.repeated_reports_are_answered_again.Goals as goal

pub returns : goal.returns
returns c w v now later n r ps s sound moment report places leads = subst (λ v. step (run v ps) later (tell r) ≡ unchanged (run v ps) (Told s n)) leads.0 (answered_again c.run_keeps.ensures.sound w now later r ps s n sound moment report places leads.1)
