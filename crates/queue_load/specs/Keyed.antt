-- Rowids that rise, and tables whose rows are told apart by them.
use Rattle.std.specs.Prelude.{◌≡◌, ◌≢◌, Bool, [], ◌∷◌, length}
use Rattle.std.specs.Ordering.{is_lt, int_cmp}
use Rattle.sqlite.specs.Order.{Row, column}
use Rattle.sqlite.specs.declared.types.Value.TheVariants.{Int}
use Rattle.sqlite.specs.Effect.{Database}
use Rattle.queue_tables.specs.Kept.{AreKeyed}
use Rattle.queue_load.specs.Store.{IsWithOperators}
use Rattle.queue_load.specs.declared.typed.RowId.{RowId}

abbrev pub id_values : RowId → Row
id_values x = Int x.id ∷ []

abbrev pub id_view : Row → Row
id_view r = column r 0 ∷ []

abbrev pub TellsId : RowId → Row → Type 0
TellsId x r = length r ≡ 1 → r ≡ id_values x

abbrev pub IsNoId : Row → Type 0
IsNoId r = (x : RowId) → r ≢ id_values x

abbrev pub id_before : RowId → RowId → Bool
id_before a b = is_lt (int_cmp a.id b.id)

-- the operators, where there is a table of them
abbrev pub HasKeyedOperators : Database → Type 0
HasKeyedOperators d = IsWithOperators d.schema → AreKeyed (d.trees 17)

-- tables whose rows are put anew or removed by rowids that are no column of theirs
pub record HasKeyedTables (d : Database) : Type 0 where
  pub accounts : AreKeyed (d.trees 6)
  pub operators : HasKeyedOperators d
