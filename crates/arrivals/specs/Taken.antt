-- What comes of one thing that reaches a queue: the answer to it, and the places of a run of the machine that it is.
use Rattle.std.specs.Prelude.{◌≡◌, ◌≢◌, ⊤, ℕ, List, [], ◌∷◌, ◌++◌, Option, None, Some, Ok, Err, MatchBool, false}
use Rattle.std.specs.List.{AllByRecursion}
use Rattle.std.specs.Io.KnownBytes.{Appends}
use Rattle.queue_types.specs.Event.{Event, expire}
use Rattle.queue_core.specs.Runs.{Place, IsPlace, after, run}
use Rattle.queue_core.specs.Sweep.{Sweeps}
use Rattle.queue_core.specs.World.{World}
use Rattle.queue_core.specs.declared.book.BookFault.{BookFault}
use Rattle.device_lines.specs.Reports.{AnswersLine, Tells, is_fault_line}
use Rattle.grants_csv.specs.Fault.{fault}
use Rattle.grants_csv.specs.Import.{Asks, Imports}
use Rattle.http_front.specs.Connections.{Answers, Breaks, IsFaultless as IsServedFaultless}
use Rattle.http_front.specs.Places.{ArePlacesOf}
use Rattle.arrivals.specs.declared.arrival.Arrived.{Arrived}
use Rattle.arrivals.specs.declared.arrival.Arrived.TheVariants.{Connection, Line, AccountFile, Sweep}
use Rattle.arrivals.specs.declared.arrival.Outcome.{Outcome}
use Rattle.arrivals.specs.declared.arrival.Outcome.TheVariants.{Served, Broken, Told, Imported, Refused, Swept, Unswept}

-- at this moment one event, or nothing, makes u of the world w
pub record IsOnePlace (now : ℕ) (w u : World) (event : Option Event) (ps : List Place) : Type 0 where
  pub only : ps ≡ record { now = now; event = event } ∷ []
  pub world : u ≡ after w now event

-- a line of the device: its report, or nothing where it is none or a fault answers it
pub record TakesLine (now : ℕ) (w : World) (line out : List ℕ) (ps : List Place) (u : World) : Type 0 where
  pub answers : AnswersLine w now line u out
  pub event : Option Event
  pub asks : MatchBool (is_fault_line out) (event ≡ None) (Tells line event)
  pub place : IsOnePlace now w u event ps

-- what came of an arrival at this moment in the world w, with the bytes that were written to a client; u is the world after it
abbrev pub Takes : ℕ → World → Arrived → Outcome → List ℕ → List Place → World → Type 0
Takes now w (Connection stream) (Served s) written ps u =
    (a : Answers now w stream.now written u s.acted s.faults s.end) × ArePlacesOf now w a.turns ps
Takes now w (Connection stream) (Broken f) written ps u =
    (b : Breaks now w stream.now written u f.acted f.faults) × ArePlacesOf now w (b.turns ++ b.broken) ps
Takes now w (Line line) (Told out) written ps u = (written ≡ []) × TakesLine now w line.now out ps u
Takes now w (AccountFile file) (Imported n) written ps u =
    (written ≡ []) × Imports w now file.now u (Ok n) × ((e : Option Event) × Asks file.now e × IsOnePlace now w u e ps)
Takes now w (AccountFile file) (Refused f) written ps u = (written ≡ []) × Imports w now file.now u (Err f) × IsOnePlace now w u None ps
Takes now w Sweep (Swept n) written ps u = (written ≡ []) × Sweeps {E = BookFault} w now u (Ok n) × IsOnePlace now w u (Some expire) ps
Takes now w Sweep (Unswept f) written ps u = (written ≡ []) × Sweeps w now u (Err f) × IsOnePlace now w u None ps
Takes now w _ _ written ps u = ⊥

-- no fault of the server's own was told, and the book did not fail inside a document
abbrev pub IsFaultless : Outcome → Type 0
IsFaultless (Served s) = IsServedFaultless (Ok s)
IsFaultless (Broken f) = IsServedFaultless (Err f)
IsFaultless (Told out) = is_fault_line out ≡ false
IsFaultless (Imported n) = ⊤
IsFaultless (Refused f) = f ≢ fault
IsFaultless (Swept n) = ⊤
IsFaultless (Unswept f) = ⊥

-- ---- what taking it leaves

-- so it came to a world that the book stands for, by a run of the machine, and the writer's bytes went from v to x; and this is left beside it
pub record IsTaken (stands left : World → Type 0) (w : World) (v x : Option (List ℕ)) (Comes : List ℕ → List Place → World → Type 0) : Type 0 where
  pub after : World
  pub stands_after : stands after
  pub written : List ℕ
  pub appended : Appends v x written
  pub places : List Place
  pub are : AllByRecursion IsPlace places
  pub run_is : after ≡ run w places
  pub comes : Comes written places after
  pub is_left : left after
