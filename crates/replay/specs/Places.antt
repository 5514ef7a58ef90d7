-- What the lines of a replay are to the machine: places of a run.
use Rattle.std.specs.Prelude.{◌≡◌, ◌⊎◌, ℕ, List, [], ◌∷◌, ◌++◌, Option, None, Some, Ok, Err, codes}
use Rattle.std.specs.List.{AllByRecursion}
use Rattle.queue_types.specs.Event.{Event, expire}
use Rattle.queue_core.specs.declared.book.BookFault.{BookFault}
use Rattle.queue_core.specs.Runs.{IsPlace, Place, after, run}
use Rattle.device_lines.specs.Reports.{Tells, fault_line}
use Rattle.grants_csv.specs.Import.{Asks as AsksOfFile}
use Rattle.grants_csv.specs.declared.fault.ImportFault.{ImportFault}
use Rattle.hex.specs.Hex.{decode_of}
use Rattle.ipp_ops.specs.Answer.{Asks, Fails}
use Rattle.replay.specs.Replay.{Replays, Taken, broken, none, one_more, whole}
use Rattle.replay.specs.Session.{State, file_of, import_line, reply_line, sweep_line}
use Rattle.replay.specs.declared.request_line.RequestLine.{RequestLine}
use Rattle.replay.specs.declared.request_line.RequestLine.TheVariants.{Now, Ipp, Dev, Grant, Expire}

-- what a line asks of the machine: its event, or nothing where its request is refused, its report or its file can't be read, or it sets the moment
abbrev pub AsksFor : RequestLine → Option Event → Type 0
AsksFor (Now n) event = event ≡ None
AsksFor (Ipp digits) event = (message : List ℕ) × (decode_of digits.now ≡ Ok message) × Asks message event
AsksFor (Dev line) event = Tells (line.now ++ 10 ∷ []) event
AsksFor (Grant row) event = AsksOfFile (file_of row.now) event
AsksFor Expire event = event ≡ Some expire

-- the answer says that nothing was done: a message is too short or met a fault, a line of the device met a fault, an account file or a
-- sweep was refused
abbrev pub TellsOfNothing : RequestLine → List ℕ → Type 0
TellsOfNothing (Now n) answer = ⊥
TellsOfNothing (Ipp digits) answer =
    (answer ≡ codes "ipp short" ++ 10 ∷ [])
    ⊎ ((message out : List ℕ) × (decode_of digits.now ≡ Ok message) × Fails message out × (answer ≡ reply_line out))
TellsOfNothing (Dev line) answer = answer ≡ fault_line
TellsOfNothing (Grant row) answer = (why : ImportFault) × (answer ≡ import_line (Err why))
TellsOfNothing Expire answer = (why : BookFault) × (answer ≡ sweep_line (Err why))

-- a line with this answer is a place of a run: at the moment that was set last, the event that it asks for makes the queue after it; where it asks
-- for none, or the answer says so, nothing happens
pub record IsPlaceOf (request : RequestLine) (old new : State) (answer : List ℕ) (place : Place) : Type 0 where
  pub moment : place.now ≡ old.now
  pub asks : AsksFor request place.event ⊎ ((place.event ≡ None) × TellsOfNothing request answer)
  pub world : new.queue ≡ after old.queue place.now place.event

-- each of the lines that were taken is one of the places, in their order
abbrev pub ArePlacesOf : {input : Option (List ℕ)} {begin : State} {count : ℕ} {text : List ℕ} {left : Option (List ℕ)} {last : State}
    → Taken input begin count text left last → List Place → Type 0
ArePlacesOf none places = places ≡ []
ArePlacesOf (one_more count text answer before after old new line taken gives takes) places =
    (earlier : List Place) × (place : Place) × (places ≡ earlier ++ place ∷ []) × ArePlacesOf taken earlier × IsPlaceOf takes.request old new answer place

-- those of a whole replay, or those before its bad line
abbrev pub ArePlacesIn : {input : Option (List ℕ)} {begin : State} {status : ℕ} {text : List ℕ} {last : State}
    → Replays input begin status text last → List Place → Type 0
ArePlacesIn (whole count text left last taken end) places = ArePlacesOf taken places
ArePlacesIn (broken count text before after last line taken gives bad) places = ArePlacesOf taken places

-- the lines of a replay are places of a run of the machine, which made its last queue of the first
pub record IsRunOf {input : Option (List ℕ)} {begin : State} {status : ℕ} {text : List ℕ} {last : State} (r : Replays input begin status text last) : Type 0 where
  pub places : List Place
  pub lines : ArePlacesIn r places
  pub are : AllByRecursion IsPlace places
  pub run_is : last.queue ≡ run begin.queue places
