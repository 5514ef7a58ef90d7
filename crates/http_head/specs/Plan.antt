-- What contracts see of a plan.
use Rattle.std.specs.Prelude.{Bool}
use Rattle.http_head.specs.declared.framing.Framing.{Framing}
use Rattle.http_head.specs.declared.target.Target.{Target}

pub record PlanValues : Type 0 where
  -- what the request is about
  pub target : Target
  -- how its body is framed
  pub framing : Framing
  -- 100 Continue is expected (RFC 9110, section 10.1.1)
  pub expects : Bool
  -- the connection ends after it (RFC 9112, section 9.6)
  pub closes : Bool
