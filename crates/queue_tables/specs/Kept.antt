-- What a table keeps, whatever the order of its rows.
use Rattle.std.specs.Prelude.{◌≡◌, ◌≤◌, ℤ, Bool, true, if◌then◌else◌, List, [], ◌∷◌, map, filter, length, All, IsPermutation}
use Rattle.sqlite.specs.Order.{Row}
use Rattle.sqlite.specs.Tree.{rowid, has_rowid}
use Rattle.sqlite_trees.specs.View.{is_int}

-- rowids are integers, none twice
pub record AreKeyed (rows : List Row) : Type 0 where
  pub ints : All (λ r. is_int (rowid r) ≡ true) rows
  pub apart : (id : ℤ) → length (filter (has_rowid id) rows) ≤ 1

-- the rows show these values, each once; and, where that is needed, their rowids tell them apart
pub record HasRows (Needed : Type 0) (view : Row → Row) (values rows : List Row) : Type 0 where
  pub same : IsPermutation values (map view rows)
  pub keyed : Needed → AreKeyed rows

-- of the values one passes
abbrev pub HasOne : (Row → Bool) → List Row → Type 0
HasOne passes values = (v : Row) × (filter passes values ≡ v ∷ [])

-- what passes is put anew, and the rest stays
abbrev pub replaced : (Row → Bool) → (Row → Row) → List Row → List Row
replaced passes f values = map (λ v. if passes v then f v else v) values
