-- The bytes of a text, wherever they lie.
use Rattle.std.specs.Prelude.{ℕ, List, map, string_bytes}
use denote.Ref.{Bor}
use Rattle.queue_types.specs.declared.text.Stored.{Stored}
use Rattle.queue_types.specs.declared.text.Stored.TheVariants.{Inline, Allocated}

abbrev pub bytes_of : Stored → List ℕ
bytes_of (Inline t) = t.bytes
bytes_of (Allocated t) = string_bytes t

-- the borrowed texts
abbrev pub texts : List (Bor (List ℕ)) → List (List ℕ)
texts names = map (λ a. a.now) names
