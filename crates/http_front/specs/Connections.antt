-- A connection: one turn after another over the bytes that it reads, to an end.
use Rattle.std.specs.Prelude.{◌≡◌, ◌≢◌, ◌+◌, ◌*◌, ◌<◌, ◌≤◌, Bool, true, false, ℕ, List, [], ◌∷◌, ◌++◌, length, map, Option, Some, None, Result, Ok, Err, if◌then◌else◌, ⊤}
use Rattle.std.specs.List.{flat_map, count_by}
use Rattle.std.specs.Io.KnownBytes.{Appends}
use Rattle.queue_core.specs.World.{World}
use Rattle.http_head.specs.Ends.{is_unavailable, end_of}
use Rattle.http_head.specs.declared.end.End.{End}
use Rattle.http_head.specs.declared.end.End.TheVariants.{Done}
use Rattle.http_head.specs.declared.end.Finish.{Finish}
use Rattle.http_front.specs.Turns.{Turn, IsTurn, request_bytes, answer_bytes, acts, closes_at, most_requests}
use Rattle.http_front.specs.Crash.{CarriesAll}
use Rattle.http_front.specs.Ends.{IsEnd, IsBegun}
use Rattle.http_front.specs.declared.outcome.Served.{Served}
use Rattle.http_front.specs.declared.outcome.ServeCause.TheVariants.{Book}
use Rattle.http_front.specs.declared.outcome.ServeFault.{ServeFault}

-- each is answered in the world that the one before it leaves
abbrev pub AreTurns : ℕ → World → List Turn → Type 0
AreTurns now w [] = ⊤
AreTurns now w (t ∷ ts) = IsTurn now w t × AreTurns now t.after ts

-- the world that they leave
abbrev pub world_after : World → List Turn → World
world_after w [] = w
world_after w (t ∷ ts) = world_after t.after ts

-- what is written, from request k on
abbrev pub written_for : ℕ → List Turn → List ℕ
written_for k [] = []
written_for k (t ∷ ts) = answer_bytes k t ++ written_for (k + 1) ts

-- the connection goes on after each, from request k on
abbrev pub GoesOn : ℕ → List Turn → Type 0
GoesOn k [] = ⊤
GoesOn k (t ∷ ts) = (closes_at k t ≡ false) × GoesOn (k + 1) ts

-- the last of these requests ends the connection, and it is the first that does
pub record HasClosed (turns : List Turn) : Type 0 where
  pub front : List Turn
  pub last : Turn
  pub turns_are : turns ≡ front ++ last ∷ []
  pub goes_on : GoesOn 0 front
  pub closes : closes_at (length front) last ≡ true

-- the number whose binary digits these are, the lowest first
abbrev pub bits : List Bool → ℕ
bits [] = 0
bits (b ∷ bs) = (if b then 1 else 0) + 2 * bits bs

-- whether a fault answered it
abbrev pub flag_of : Turn → Bool
flag_of t = t.is_fault

-- ---- what a connection leaves

-- how it may end behind these turns, and what is written last: after the last request that it may have, or where no further request is answered
abbrev pub EndsAt : World → List Turn → List ℕ → Option Finish → List ℕ → Type 0
EndsAt w turns rest None last = (last ≡ []) × HasClosed turns
EndsAt w turns rest (Some finish) last = GoesOn 0 turns × IsEnd w rest finish last

-- how that is told
abbrev pub end_told : Option Finish → End
end_told None = Done
end_told (Some finish) = end_of finish

-- whether it ends by a fault of the server's own
abbrev pub ends_by_fault : Option Finish → Bool
ends_by_fault None = false
ends_by_fault (Some finish) = is_unavailable finish

-- the answers to the stream of a connection that ended: what was written, and the world u that its requests made of w
pub record Answers (now : ℕ) (w : World) (stream written : List ℕ) (u : World) (acted faults : ℕ) (end : End) : Type 0 where
  -- the requests that were answered, and the bytes behind them
  pub turns : List Turn
  pub rest : List ℕ
  pub stream_is : stream ≡ flat_map request_bytes turns ++ rest
  pub few : length turns ≤ most_requests
  pub are : AreTurns now w turns
  -- the end there, unless the last of them ended it; and what is written last
  pub finish : Option Finish
  pub last : List ℕ
  pub ends : EndsAt (world_after w turns) turns rest finish last
  -- what comes of them
  pub written_is : written ≡ written_for 0 turns ++ last
  pub world : u ≡ world_after w turns
  pub settings : u.settings ≡ w.settings
  pub acted_is : acted ≡ count_by acts turns
  pub faults_are : faults ≡ bits (map flag_of turns ++ ends_by_fault finish ∷ [])
  pub end_is : end ≡ end_told finish

-- the answers to a stream, where they were broken off
pub record Breaks (now : ℕ) (w : World) (stream written : List ℕ) (u : World) (acted faults : ℕ) : Type 0 where
  -- the requests whose answers were written whole, and the bytes behind them
  pub turns : List Turn
  pub rest : List ℕ
  pub stream_is : stream ≡ flat_map request_bytes turns ++ rest
  pub few : length turns < most_requests
  pub goes_on : GoesOn 0 turns
  -- what was begun there, perhaps the answer to one request more, and of which a front was written; whether it tells of a fault
  pub begun : List ℕ
  pub broken : List Turn
  pub fault_last : Bool
  pub begins : IsBegun (length turns) (world_after w turns) rest begun broken fault_last
  pub front : List ℕ
  pub unwritten : List ℕ
  pub begun_is : begun ≡ front ++ unwritten
  -- what comes of them
  pub are : AreTurns now w (turns ++ broken)
  pub written_is : written ≡ written_for 0 turns ++ front
  pub world : u ≡ world_after w (turns ++ broken)
  pub settings : u.settings ≡ w.settings
  pub acted_is : acted ≡ count_by acts (turns ++ broken)
  pub faults_are : faults ≡ bits (map flag_of turns ++ fault_last ∷ [])

-- ---- over a book, beside which a crash left `before` and leaves `after` now

-- a stream was answered, and so the writer's bytes went from v to x; a crash leaves what goes with the requests that were answered
pub record IsServed (before after : World → World → Type 0) (now : ℕ) (w u : World) (v x : Option (List ℕ)) (served : Served) (stream : List ℕ) : Type 0 where
  pub written : List ℕ
  pub appended : Appends v x written
  pub answers : Answers now w stream written u served.acted served.faults served.end
  pub carries : CarriesAll before after now answers.turns w u

-- or the answers to it were broken off; and a crash leaves what goes with the requests that were answered and the one whose answer was begun, if one was
pub record IsStopped (before after : World → World → Type 0) (now : ℕ) (w u : World) (v x : Option (List ℕ)) (fault : ServeFault) (stream : List ℕ) : Type 0 where
  pub written : List ℕ
  pub appended : Appends v x written
  pub breaks : Breaks now w stream written u fault.acted fault.faults
  pub carries : CarriesAll before after now (breaks.turns ++ breaks.broken) w u

-- ---- whatever the bytes were

-- how many requests acted
abbrev pub acted_of : Result Served ServeFault → ℕ
acted_of (Ok served) = served.acted
acted_of (Err fault) = fault.acted

-- Known of any connection, also where its reader, as a socket, does not tell what it reads: some requests, at most so many, answered one
-- after another, made u of the world w, and so many of them acted.
pub record Worked (most now : ℕ) (w u : World) (acted : ℕ) : Type 0 where
  pub turns : List Turn
  pub few : length turns ≤ most
  pub are : AreTurns now w turns
  pub world : u ≡ world_after w turns
  pub settings : u.settings ≡ w.settings
  pub acted_is : acted ≡ count_by acts turns

-- they did, over a book beside which a crash left `before` and leaves `after` now; and a crash leaves what goes with these requests
abbrev pub WorkedOver : (before after : World → World → Type 0) → ℕ → World → World → ℕ → Type 0
WorkedOver before after now w u acted = (k : Worked most_requests now w u acted) × CarriesAll before after now k.turns w u

-- bit k of the faults is set exactly where request k was answered by a fault, and the bit behind these where the end is one, or what was begun there
abbrev pub MarksFaults : List Turn → Result Served ServeFault → Type 0
MarksFaults turns (Ok served) = (finish : Option Finish) × (served.end ≡ end_told finish) × (served.faults ≡ bits (map flag_of turns ++ ends_by_fault finish ∷ []))
MarksFaults turns (Err fault) = (last : Bool) × (fault.faults ≡ bits (map flag_of turns ++ last ∷ []))

-- no request was answered by a fault, and the book did not fail inside a document
abbrev pub IsFaultless : Result Served ServeFault → Type 0
IsFaultless (Ok served) = served.faults ≡ 0
IsFaultless (Err f) = (f.faults ≡ 0) × (f.cause ≢ Book)
