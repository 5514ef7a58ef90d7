-- What a clause reads of the input of a connection: its bytes, and its reads.
use Rattle.std.specs.Prelude.{◌≡◌, ℕ, List, Option, drop}
use Rattle.std.specs.declared.io.Read.{Ghosts}
use Rattle.http_head.specs.Left.{left}
use Rattle.http_head.specs.declared.input.Input.{Input}

-- the bytes that have come and are not taken yet
abbrev pub come : {R : Type 0} → Input R → List ℕ
come input = input.buffer

-- what gives the bytes that come next
abbrev pub reader_of : {R : Type 0} → Input R → R
reader_of input = input.reader

-- how many reads may still be made
abbrev pub reads_left : {R : Type 0} → Input R → ℕ
reads_left input = input.reads_left

-- the same once its first n bytes are taken
abbrev pub without_first : {R : Type 0} → ℕ → Input R → Input R
without_first n input = record input { buffer = drop n input.buffer }

-- the bytes that are not taken yet: what has come, and then what the reader has left, where it tells
abbrev pub bytes_left : {R : Type 0} → Ghosts R → Input R → Option (List ℕ)
bytes_left read input = left (come input) (read.remaining (reader_of input))

-- no read was made, and none was counted
abbrev pub MakesNoRead : {R : Type 0} → Input R → Input R → Type 0
MakesNoRead old new = (reader_of new ≡ reader_of old) × (reads_left new ≡ reads_left old)
