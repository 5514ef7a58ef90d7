-- What taking a head leaves of the bytes left.
use Rattle.std.specs.Prelude.{◌≡◌, ◌≤◌, ℕ, List, Option, None, length}
use Rattle.std.specs.Io.KnownBytes.{Consumes}
use Rattle.httparse.specs.Grammar.{RequestHead, IsRequestHead, print_request}
use Rattle.http_head.specs.Limits.{head_limit, field_limit}
use Rattle.http_head.specs.Checks.{head_of, plan_of, refusal_of}
use Rattle.http_head.specs.declared.plan.Plan.{Plan}

-- a head within the limits, whose bytes were taken
pub record TakesHead (old new : Option (List ℕ)) (h : RequestHead) : Type 0 where
  pub valid : IsRequestHead h
  pub short : length (print_request h) ≤ head_limit
  pub few : length h.fields ≤ field_limit
  pub taken : Consumes old new (print_request h)

-- a head was taken that passes the checks, and this is its plan
abbrev pub TakesPlan : Option (List ℕ) → Option (List ℕ) → Plan → Type 0
TakesPlan old new plan = (h : RequestHead) × TakesHead old new h × (refusal_of (head_of h) ≡ None) × (plan ≡ plan_of (head_of h))
