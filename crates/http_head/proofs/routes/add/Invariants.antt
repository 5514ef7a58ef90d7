use Rattle.std.proofs.Common.{◌≡◌, take}
use Rattle.std.specs.Prelude.{map}
use Rattle.http_head.specs.Routes.{rows_of}
use Rattle.http_head.proofs.routes.add.Given as goal

abbrev pub invariant-loop-path : goal.invariant-loop-path
invariant-loop-path l = l.router ≡ rows_of (map (λ r. (r.0.now, r.1)) (take l.path-index l.routes)) l.fn.router
