-- What a whole replay writes, line after line.
use Rattle.std.specs.Prelude.{⊤, ◌≡◌, ◌+◌, ℕ, pos, false, List, [], ◌∷◌, ◌++◌, Option, codes}
use Rattle.std.specs.Fmt.{decimal}
use Rattle.std.specs.Io.KnownBytes.{IsAtEnd}
use Rattle.queue_types.specs.Settings.{SettingValues}
use Rattle.queue_core.specs.World.{World}
use Rattle.replay.specs.Line.{GivesLine}
use Rattle.replay.specs.RequestLine.{Says}
use Rattle.replay.specs.Session.{IsRefused, State, Takes, state}
use Rattle.replay.specs.declared.lines.Line.{Line}
use Rattle.replay.specs.declared.request_line.RequestLine.{RequestLine}
use Rattle.replay.specs.declared.request_line.RequestLine.TheVariants.{Now, Ipp, Dev, Grant, Expire}

-- what the printer of a replay is set up with
abbrev pub settings : SettingValues
settings = record { uri = codes "ipp://localhost/ipp/print"; name = codes "release"; estimate = 20; epoch = pos 0; keep = 3600; operators = codes "opal" ∷ [] }

-- a replay over this queue begins at moment 1
abbrev pub first : World → State
first w = state 1 w

-- a message is whole: it isn't taken by a front of its digits
abbrev pub HasWhole : Line → RequestLine → Type 0
HasWhole line (Ipp digits) = line.is_cut ≡ false
HasWhole line (Now n) = ⊤
HasWhole line (Dev text) = ⊤
HasWhole line (Grant row) = ⊤
HasWhole line Expire = ⊤

-- what is kept of the line says what takes old to new and has this answer
pub record TakesLine (line : Line) (old new : State) (answer : List ℕ) : Type 0 where
  pub request : RequestLine
  pub says : Says line.bytes.items request
  pub whole : HasWhole line request
  pub takes : Takes request old new answer

-- it is of no form, or has a message that isn't whole or is refused
abbrev pub IsBadLine : Line → Type 0
IsBadLine line = (request : RequestLine) → Says line.bytes.items request → IsRefused line.is_cut request

-- so many lines of the input are taken one after the other: the text that answers them, what is left of the input, and where
-- the session is then
pub data Taken (input : Option (List ℕ)) (begin : State) : ℕ → List ℕ → Option (List ℕ) → State → Type 0 where
  none : Taken input begin 0 [] input begin
  one_more : (count : ℕ) (text answer : List ℕ) (before after : Option (List ℕ)) (old new : State) (line : Line)
      → Taken input begin count text before old → GivesLine before after line → TakesLine line old new answer
      → Taken input begin (count + 1) (text ++ answer) after new

-- behind some lines that were taken the next line of the input takes old to new
pub record TakesNext (input : Option (List ℕ)) (begin old new : State) : Type 0 where
  pub count : ℕ
  pub text : List ℕ
  pub before : Option (List ℕ)
  pub taken : Taken input begin count text before old
  pub after : Option (List ℕ)
  pub line : Line
  pub gives : GivesLine before after line
  pub answer : List ℕ
  pub takes : TakesLine line old new answer

-- `bad line K`, where lines count from 1
abbrev pub bad_line : ℕ → List ℕ
bad_line number = codes "bad line " ++ decimal number ++ 10 ∷ []

-- a replay of the input ends with this status and at this state, and this text answers it: all lines are taken, or those before
-- a bad one
pub data Replays (input : Option (List ℕ)) (begin : State) : ℕ → List ℕ → State → Type 0 where
  whole : (count : ℕ) (text : List ℕ) (left : Option (List ℕ)) (last : State) → Taken input begin count text left last
      → IsAtEnd left → Replays input begin 0 text last
  broken : (count : ℕ) (text : List ℕ) (before after : Option (List ℕ)) (last : State) (line : Line)
      → Taken input begin count text before last → GivesLine before after line → IsBadLine line
      → Replays input begin 1 (text ++ bad_line (count + 1)) last
