-- Why an account file is refused.
use Rattle.std.specs.Prelude.{◌≡◌, ◌⊎◌, ◌≤◌, ℕ, List, Result, Err, length}
use Rattle.grants_csv.specs.declared.fault.ImportCause.{ImportCause}
use Rattle.grants_csv.specs.declared.fault.ImportCause.TheVariants.{Header, Form, Range, Conflict, TooMany, Fault}
use Rattle.grants_csv.specs.declared.fault.ImportFault.{ImportFault}

-- the numbers of the causes
abbrev pub code_of : ImportCause → ℕ
code_of Header = 1
code_of Form = 2
code_of Range = 3
code_of Conflict = 4
code_of TooMany = 5
code_of Fault = 6

-- a cause at a row, counted from 1; row 0 stands for the file
abbrev pub at_row : ImportCause → ℕ → ImportFault
at_row cause row = record { cause = cause; row = row }

-- memory or the book refused
abbrev pub fault : ImportFault
fault = at_row Fault 0

-- the result is this one, or the fault
abbrev pub IsUnlessFault : {A : Type 0} → Result A ImportFault → Result A ImportFault → Type 0
IsUnlessFault result wanted = (result ≡ wanted) ⊎ (result ≡ Err fault)

-- the result of a file is this one, or the fault, which comes only behind the test of the size
abbrev pub IsOfFileUnlessFault : {A : Type 0} → List ℕ → Result A ImportFault → Result A ImportFault → Type 0
IsOfFileUnlessFault file result wanted = (result ≡ wanted) ⊎ ((result ≡ Err fault) × (length file ≤ 16777216))
