-- What was written where a read failed.
use Rattle.std.specs.Prelude.{ℕ, ◌⊎◌, List, [], Option}
use Rattle.std.specs.Io.KnownBytes.{Appends, Keeps}
use Rattle.http_head.specs.Received.{TakesPlan}
use Rattle.http_head.specs.declared.plan.Plan.{Plan}
use Rattle.http_wire.specs.Responses.{interim_response}

-- no head was taken and nothing was written; or a head was taken, and its client told to send the body, where it waits for that. The bytes that are left
-- went from r to s, and the writer's from v to x
abbrev pub FailsToRead : Option (List ℕ) → Option (List ℕ) → Option (List ℕ) → Option (List ℕ) → Type 0
FailsToRead r s v x =
    (Keeps r s × Appends v x []) ⊎ ((plan : Plan) × (behind : Option (List ℕ)) × TakesPlan r behind plan × Appends v x (interim_response plan))
