-- The lines that the server prints.
use Rattle.std.specs.Prelude.{ℕ, List, ◌++◌, codes, decimal, flat_map}

abbrev pub listening_line : ℕ → List ℕ
listening_line port = codes "listening 127.0.0.1:" ++ decimal port ++ codes "\n"

-- so many requests of a connection acted
abbrev pub served_line : ℕ → List ℕ
served_line acted = codes "served " ++ decimal acted ++ codes "\n"

-- a line for each connection
abbrev pub served_lines : List ℕ → List ℕ
served_lines counts = flat_map served_line counts
