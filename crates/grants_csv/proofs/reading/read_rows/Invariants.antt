use Rattle.std.proofs.Common.{◌≡◌, ◌≤◌, ◌+◌, ℕ, List, All, length}
use Rattle.csv.specs.Reading.{default_config, records_from}
use Rattle.csv.specs.declared.parser.State.{State}
use Rattle.queue_core.specs.Limits.{IsGrantRow}
use Rattle.grants_csv.specs.File.{rows_from}
use Rattle.grants_csv.specs.Records.{IsAt}
use Rattle.grants_csv.proofs.Rows.{after}
use Rattle.grants_csv.proofs.reading.read_rows.Given as goal

abbrev pub invariant-loop-n : goal.invariant-loop-n
invariant-loop-n l = (length l.rows.items ≤ l.n) × All IsGrantRow l.rows.items
    × ((s : State) (left : List ℕ) → IsAt l.fn.rdr s left
    → (s2 : State) × (left2 : List ℕ) × (k : ℕ) × IsAt l.rdr s2 left2 × (l.n + k ≡ l.most)
    × (rows_from 1 (records_from default_config l.most s left) ≡ after l.rows.items (rows_from (l.n + 1) (records_from default_config k s2 left2))))
