-- The number that a row shows, as that of the octets of a document.
use Rattle.std.specs.Prelude.{◌≡◌, ℕ, ◌<◌, ◌^◌, pos, negsuc, [], ◌∷◌}
use Rattle.sqlite.specs.declared.types.Value.{Value}
use Rattle.sqlite.specs.declared.types.Value.TheVariants.{Null, Int, Real, Text, Blob}
use Rattle.sqlite.specs.Order.{Row, column}
use Rattle.queue_tables.specs.Values.{number}

-- 0 where the value is none
abbrev pub number_in : Value → ℕ
number_in Null = 0
number_in (Int (pos n)) = n
number_in (Int (negsuc n)) = 0
number_in (Real x) = 0
number_in (Text t) = 0
number_in (Blob b) = 0

abbrev pub first_number : Row → ℕ
first_number r = number_in (column r 0)

-- a row that shows a length, and nothing else
abbrev pub IsLengthRow : Row → Type 0
IsLengthRow r = (n : ℕ) × (n < 2 ^ 32) × (r ≡ number n ∷ [])
