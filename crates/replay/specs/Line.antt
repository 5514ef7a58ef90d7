-- What a line of an input is.
use Rattle.std.specs.Prelude.{◌≡◌, ◌<◌, ◌==◌, ◌⊎◌, ℕ, Bool, List, [], ◌∷◌, ◌++◌, MatchBool, Option, length, nat_lt, not, take}
use Rattle.std.specs.Io.KnownBytes.{Consumes, IsAtEnd}
use Rattle.std.specs.List.{AllPass}
use Rattle.replay.specs.declared.lines.Line.{Line}

-- no byte is a line feed
abbrev pub IsOneLine : List ℕ → Type 0
IsOneLine bytes = AllPass (λ byte. not (byte == 10)) bytes

-- these bytes are taken with the line feed that ends them, or they are the last of the input
abbrev pub ConsumesLine : Option (List ℕ) → Option (List ℕ) → List ℕ → Type 0
ConsumesLine old new bytes =
    Consumes old new (bytes ++ 10 ∷ []) ⊎ ((0 < length bytes) × Consumes old new bytes × IsAtEnd new)

-- of these bytes the line has all that are kept
abbrev pub IsFrontOf : List ℕ → Line → Type 0
IsFrontOf bytes line =
    (line.bytes.items ≡ take 33554436 bytes) × (line.is_cut ≡ nat_lt 33554436 (length bytes))

-- the line gets this piece at its end, as far as it is kept
abbrev pub Lengthens : List ℕ → Line → Line → Type 0
Lengthens piece old new = (bytes : List ℕ) → IsFrontOf bytes old → IsFrontOf (bytes ++ piece) new

-- what has come of the input loses this piece with the line feed behind it; or, where none has come, the piece is all of it
abbrev pub LosesPiece : Bool → List ℕ → List ℕ → List ℕ → Type 0
LosesPiece is_ended piece old new = MatchBool is_ended (old ≡ piece ++ 10 ∷ new) ((old ≡ piece) × (new ≡ []))

-- what is left of an input loses its first line, which is given
pub record GivesLine (old new : Option (List ℕ)) (line : Line) : Type 0 where
  pub bytes : List ℕ
  pub is_one : IsOneLine bytes
  pub taken : ConsumesLine old new bytes
  pub front : IsFrontOf bytes line
