-- A table that is read whole, row by row.
use Rattle.std.proofs.Common.{◌≡◌, ℕ, List, [], ◌∷◌, ◌++◌}
use Rattle.sqlite.specs.Order.{Row}
use Rattle.sqlite.specs.State.{State}
use Rattle.queue_load.specs.Reads.{FindsFormless, HasRead, Tell}
use Rattle.queue_tables.proofs.Reading.{answers_same, begins_at}

-- one more row that is told of
pub tell_more : {T : Type 0} (tells : T → Row → Type 0) (ts : List T) (rs : List Row) (t : T) (r : Row) → Tell tells ts rs → tells t r → Tell tells (ts ++ t ∷ []) (rs ++ r ∷ [])
tell_more tells [] [] t r told new = (new, tt)
tell_more tells (u ∷ ts) (s ∷ rs) t r told new = (told.0, tell_more tells ts rs t r told.1 new)
tell_more tells _ _ t r told new = absurd told

-- what a read finds, where the tables were the same
module _ (sql : List ℕ) (old now : State) (same : now.now ≡ old.now) where
  pub same_read : {T : Type 0} (tells : T → Row → Type 0) (items : List T) → HasRead tells sql now items → HasRead tells sql old items
  same_read tells items h = record { rows = h.rows; all = answers_same sql [] old now h.rows same h.all; told = h.told }

  pub same_formless : (is_formless : Row → Type 0) → FindsFormless is_formless sql now → FindsFormless is_formless sql old
  same_formless is_formless h = record { before = h.before; row = h.row; there = begins_at sql [] old now (h.before ++ h.row ∷ []) same h.there; formless = h.formless }
