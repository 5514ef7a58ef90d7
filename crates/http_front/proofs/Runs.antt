-- The turns of a connection so far.
use Rattle.std.specs.Prelude.{◌≡◌, ℕ, List, length, map, Option}
use Rattle.std.specs.List.{flat_map, count_by}
use Rattle.std.specs.Io.KnownBytes.{Appends, Consumes}
use Rattle.queue_core.specs.World.{World}
use Rattle.http_front.specs.Turns.{Turn, request_bytes, acts}
use Rattle.http_front.specs.Connections.{AreTurns, GoesOn, world_after, written_for, bits, flag_of}

-- the turns so far: the bytes that are left went from r to s, and the writer's from v to x
pub record Ran (now : ℕ) (w u : World) (r s v x : Option (List ℕ)) (acted faults : ℕ) : Type 0 where
  pub turns : List Turn
  pub are : AreTurns now w turns
  pub taken : Consumes r s (flat_map request_bytes turns)
  pub written : Appends v x (written_for 0 turns)
  pub world : u ≡ world_after w turns
  pub acted_is : acted ≡ count_by acts turns
  pub faults_are : faults ≡ bits (map flag_of turns)

-- they are k, and the connection goes on
pub record RanOn (k now : ℕ) (w u : World) (r s v x : Option (List ℕ)) (acted faults : ℕ) : Type 0 where
  pub run : Ran now w u r s v x acted faults
  pub count : length run.turns ≡ k
  pub goes_on : GoesOn 0 run.turns
