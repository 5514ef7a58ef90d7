use Rattle.std.proofs.Common.{◌∙◌}
use Rattle.print_server.proofs.ConnectionLemmas.{grants_after, settings_after}
use Rattle.print_server.proofs.CrashLemmas.{left_grants, left_settings}
use Rattle.print_server.proofs.law.servers_grant_nothing.Goals as goal

pub returns-clause-grants : goal.returns-clause-grants
returns-clause-grants c = grants_after c.connections_grant_nothing.ensures.worked

pub returns-clause-settings : goal.returns-clause-settings
returns-clause-settings c = settings_after

pub returns-clause-crash : goal.returns-clause-crash
returns-clause-crash c = λ w u x counts are left. (
  left_grants c.connections_grant_nothing.ensures.crash w counts u are x left ∙ grants_after c.connections_grant_nothing.ensures.worked w u counts are,
  left_settings w counts u are x left ∙ settings_after w u counts are,
)
