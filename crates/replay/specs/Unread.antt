-- What is left of an input that is read through a buffer.
use Rattle.std.specs.Prelude.{ℕ, List, Option}
use Rattle.std.specs.Io.KnownBytes.{prepend_known}

-- what has come of the input and isn't taken yet, and how often the input was read
pub record Unread : Type 0 where
  pub come : List ℕ
  pub reads : ℕ

-- what is left of the input: what has come, and then what its reader has left, where it tells
abbrev pub left : Unread → Option (List ℕ) → Option (List ℕ)
left unread remaining = prepend_known unread.come remaining
