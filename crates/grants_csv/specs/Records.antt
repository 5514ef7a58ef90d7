-- Where a reader of records stands in its text.
use Rattle.std.specs.Prelude.{◌≡◌, ℕ, Bool, true, false, List, Option, Some, None}
use denote.Ref.{Bor}
use Rattle.csv.specs.Machine.{Read}
use Rattle.csv.specs.Reading.{Ready, default_config, reader_config, reader_state, reader_trim, source_of}
use Rattle.csv.specs.declared.parser.State.{State}
use Rattle.csv.specs.declared.reader.Reader.{Reader}
use Rattle.csv.specs.declared.reader.Trim.TheVariants as trim

-- the reader is in this state, before these bytes
pub record IsAt (r : Reader (Bor (List ℕ))) (s : State) (left : List ℕ) : Type 0 where
  pub trims : reader_trim r ≡ trim.None
  pub ready : Ready r
  pub config : reader_config r ≡ default_config
  pub state : reader_state r ≡ s
  pub source : source_of (λ (b : Bor (List ℕ)). Some b.now) r ≡ Some left

-- a read found a record with these fields, and the reader stands behind it; or there is none
abbrev pub Gives : Reader (Bor (List ℕ)) → Bool → List (List ℕ) → Option Read → Type 0
Gives r found fields None = found ≡ false
Gives r found fields (Some p) = (found ≡ true) × (fields ≡ p.0) × IsAt r p.1 p.2
