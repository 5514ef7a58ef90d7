-- What bytes say of a line end at their front.
use Rattle.std.specs.Prelude.{◌≡◌, ◌++◌, ℕ, List, drop}
use Rattle.httparse.specs.Ascii.{crlf_bytes}
use Rattle.http_wire.specs.ChunkEnds.{IsOpenLineEnd, NeverHasLineEnd}
use Rattle.http_wire.specs.declared.chunk.LineEndState.{LineEndState}
use Rattle.http_wire.specs.declared.chunk.LineEndState.TheVariants.{Whole, Open, Wrong}

-- it stands there; more bytes may make it one; no bytes can
abbrev pub IsLineEndState : List ℕ → LineEndState → Type 0
IsLineEndState bytes Whole = bytes ≡ crlf_bytes ++ drop 2 bytes
IsLineEndState bytes Open = IsOpenLineEnd bytes
IsLineEndState bytes Wrong = NeverHasLineEnd bytes
