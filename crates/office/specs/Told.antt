-- What the office is told.
use Rattle.std.specs.Prelude.{◌≡◌, ℕ, List, [], ◌∷◌, ◌++◌, Err, Ok, Option, codes, take}
use Rattle.std.specs.Fmt.{decimal}
use Rattle.std.specs.Option.{IfSome}
use Rattle.grants_csv.specs.Import.{Imports}
use Rattle.grants_csv.specs.declared.fault.ImportFault.{ImportFault}
use Rattle.grants_csv.specs.declared.importing.Imported.{Imported}
use Rattle.queue_core.specs.Sweep.{Sweeps}
use Rattle.queue_core.specs.declared.book.BookFault.{BookFault}
use Rattle.queue_core.specs.World.{World}

-- the most bytes of a file that are read: one more than a file may have
abbrev pub most_read : ℕ
most_read = 16777217

-- `new N repeats M`
abbrev pub import_line : Imported → List ℕ
import_line n = codes "new " ++ decimal n.added ++ codes " repeats " ++ decimal n.repeats ++ 10 ∷ []

-- the bytes are the front of a file that is read, as far as its reader tells what it has
abbrev pub AreReadOf : Option (List ℕ) → List ℕ → Type 0
AreReadOf known bytes = IfSome known (λ file. bytes ≡ take most_read file)

-- the rows of these bytes are taken as one event at this moment, so many of them new, and this is the queue after it
abbrev pub IsTaken : ℕ → World → World → List ℕ → Imported → Type 0
IsTaken now old new bytes n = Imports old now bytes new (Ok n)

-- this is why the rows of these bytes are not taken at this moment, and the queue stays as it is
abbrev pub IsRefused : ℕ → World → List ℕ → ImportFault → Type 0
IsRefused now w bytes why = Imports w now bytes w (Err why)

-- `expired N`
abbrev pub expired_line : ℕ → List ℕ
expired_line n = codes "expired " ++ decimal n ++ 10 ∷ []

-- n jobs expire at this moment, and this is the queue after the sweep
abbrev pub HaveExpired : ℕ → World → World → ℕ → Type 0
HaveExpired now old new n = Sweeps {E = BookFault} old now new (Ok n)
