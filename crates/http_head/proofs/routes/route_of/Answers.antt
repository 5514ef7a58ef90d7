use Rattle.std.proofs.Common.{rules}
use Rattle.http_head.specs.Routes.{route_of}
use Rattle.http_head.proofs.routes.route_of.Goals as goal

pub returns-in-Ok : goal.returns-in-Ok
unfolding route_of
returns-in-Ok c = search rules

pub returns-in-Err : goal.returns-in-Err
unfolding route_of
returns-in-Err c = search rules
