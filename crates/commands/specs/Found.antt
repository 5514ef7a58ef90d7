-- What a file is by its first bytes.
use Rattle.std.specs.Prelude.{ℕ, List, [], ◌∷◌, ◌++◌, ◌==◌, ◌||◌, Bool, bytes_eq, codes, if◌then◌else◌, take}
use Rattle.commands.specs.declared.found.Found.{Found}
use Rattle.commands.specs.declared.found.Found.TheVariants.{EmptyFile, Unfinished, Database, OtherFile}

-- what a database file begins with; while it is made its first byte is 0
abbrev pub database_mark : List ℕ
database_mark = codes "SQLite format 3" ++ 0 ∷ []

abbrev pub found_in : List ℕ → Found
found_in [] = EmptyFile
found_in (byte ∷ bytes) = if byte == 0 then Unfinished else if bytes_eq (take 16 (byte ∷ bytes)) database_mark then Database else OtherFile

-- what a log begins with: 0x377f0682, or 0x377f0683 where its sums are over big-endian numbers (SQLite's file format, section 4.1)
abbrev pub log_mark : ℕ → List ℕ
log_mark last = 0x37 ∷ 0x7f ∷ 0x06 ∷ last ∷ []

abbrev pub begins_log : List ℕ → Bool
begins_log bytes = bytes_eq (take 4 bytes) (log_mark 0x82) || bytes_eq (take 4 bytes) (log_mark 0x83)
