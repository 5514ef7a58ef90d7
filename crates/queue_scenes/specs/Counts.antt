-- What a SELECT that counts rows shows.
use Rattle.std.specs.Prelude.{◌≡◌, ℕ, pos, List, [], ◌∷◌}
use Rattle.sqlite.specs.declared.types.Value.TheVariants.{Int}
use Rattle.sqlite.specs.Order.{Row}
use Rattle.sqlite.specs.State.{State, Shown}
use Rattle.queue_core.specs.Sound.{IsSound}
use Rattle.queue_core.specs.World.{World}
use Rattle.queue_tables.specs.Content.{Holds, content_of}

-- whatever rows the SELECT shows, they are one, with this number alone
abbrev pub ShowsCount : List ℕ → Row → State → ℕ → Type 0
ShowsCount sql params s n = (shown_rows : List Row) → Shown sql params s s shown_rows → shown_rows ≡ (Int (pos n) ∷ []) ∷ []

-- a SELECT that shows this number of each sound queue that the tables may hold
pub record Counts (sql : List ℕ) (params : Row) (s : State) (number : World → ℕ) : Type 0 where
  pub shows : (w : World) → IsSound w → Holds (content_of w) s → ShowsCount sql params s (number w)
