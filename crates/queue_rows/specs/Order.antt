-- Rows in the order of their key.
use Rattle.std.specs.Prelude.{◌≡◌, ℕ, ◌+◌, ◌<◌, List, Bool, true, length, slice_index_or}

-- each row comes before the next, so none stands twice
abbrev pub AreInOrder : {X : Type 0} → (X → X → Bool) → List X → Type 0
AreInOrder {X} before xs = (k : ℕ) (d : X) → k + 1 < length xs → before (slice_index_or xs k d) (slice_index_or xs (k + 1) d) ≡ true
