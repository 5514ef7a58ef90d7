-- What importing an account file answers.
use Rattle.std.specs.Prelude.{◌≡◌, ◌⊎◌, ◌≤◌, ℕ, List, Option, Some, None, Result, Ok, Err, MatchResult, length}
use Rattle.queue_types.specs.declared.event.GrantRefusal.{GrantRefusal}
use Rattle.queue_types.specs.declared.event.GrantRefusal.TheVariants as refusal
use Rattle.queue_types.specs.declared.event.GrantRow.{GrantRow}
use Rattle.queue_types.specs.Event.{Event, grant}
use Rattle.queue_core.specs.Machine.{step}
use Rattle.queue_core.specs.World.{World}
use Rattle.queue_types.specs.declared.event.Reply.{Reply}
use Rattle.queue_types.specs.declared.event.Reply.TheVariants.{Added, NotAdded}
use Rattle.grants_csv.specs.Fault.{at_row, fault}
use Rattle.grants_csv.specs.File.{rows_of}
use Rattle.grants_csv.specs.declared.fault.ImportCause.{ImportCause}
use Rattle.grants_csv.specs.declared.fault.ImportCause.TheVariants.{Conflict, TooMany}
use Rattle.grants_csv.specs.declared.fault.ImportFault.{ImportFault}
use Rattle.grants_csv.specs.declared.importing.Imported.{Imported}

-- why the import refuses a row that the machine refuses so
abbrev pub cause_of : GrantRefusal → ImportCause
cause_of refusal.Conflict = Conflict
cause_of refusal.TooMany = TooMany

-- the reply says that so many rows were added, and so many are repeats
abbrev pub Adds : Reply → Imported → Type 0
Adds r n = r ≡ Added n.added n.repeats

-- f is why a row is refused, whichever the reply of the machine is that refuses one
pub record IsRowRefusal (f : ImportFault) : Type 0 where
  pub why : GrantRefusal
  pub row : ℕ
  pub counted : (1 ≤ row) × (row ≤ 16777216)
  pub is : f ≡ at_row (cause_of why) row

-- the reply refuses a row, and this is why; or the fault
abbrev pub Refuses : Reply → ImportFault → Type 0
Refuses (NotAdded why row) f = (f ≡ at_row (cause_of why) row) ⊎ (f ≡ fault)
Refuses _ f = f ≡ fault

-- what the import of an account file at this moment says, and the queue after it: its rows are taken as one event; or
-- this is why they are not, or a fault, which comes only behind the test of the size, and the queue stays
abbrev pub Imports : World → ℕ → List ℕ → World → Result Imported ImportFault → Type 0
Imports old now file new (Ok n) = (rows : List GrantRow) × (rows_of file ≡ Ok rows) × Adds (step old now (grant rows)).reply n × (new ≡ (step old now (grant rows)).world)
Imports old now file new (Err f) = MatchResult (rows_of file) (λ rows. Refuses (step old now (grant rows)).reply f) (λ bad. (f ≡ bad) ⊎ ((f ≡ fault) × (length file ≤ 16777216))) × (new ≡ old)

-- what a file asks of the machine: to take its rows, or nothing where it has none
pub data Asks (file : List ℕ) : Option Event → Type 0 where
  grants : (rows : List GrantRow) → rows_of file ≡ Ok rows → Asks file (Some (grant rows))
  unread : (f : ImportFault) → rows_of file ≡ Err f → Asks file None

-- the events that a file asks: its rows, where it has some
abbrev pub AskedBy : List ℕ → Event → Type 0
AskedBy file = λ e. Asks file (Some e)
