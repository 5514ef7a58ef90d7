use Rattle.std.proofs.Common.{◌++◌}
use Rattle.http_front.proofs.CrashLemmas.{left_grants}
use Rattle.http_front.proofs.GrantLemmas.{grants_kept}
use Rattle.http_front.proofs.law.connections_grant_nothing.Goals as goal

pub returns-clause-served : goal.returns-clause-served
returns-clause-served c = λ now w u stream written acted faults end a. grants_kept now w u a.turns a.are a.world

pub returns-clause-broken : goal.returns-clause-broken
returns-clause-broken c = λ now w u stream written acted faults b. grants_kept now w u (b.turns ++ b.broken) b.are b.world

pub returns-clause-worked : goal.returns-clause-worked
returns-clause-worked c = λ most now w u acted k. grants_kept now w u k.turns k.are k.world

pub returns-clause-crash : goal.returns-clause-crash
returns-clause-crash c = left_grants
