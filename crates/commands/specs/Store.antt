-- What a new store is to have, where it can be, and why one is not opened.
use Rattle.std.specs.Prelude.{◌≡◌, ◌⊎◌, ◌≤◌, ◌||◌, ⊤, ℕ, ℤ, All, Bool, IsTrue, List, [], bytes_eq, codes, false, length, nat_eq, not}
use Rattle.std.specs.List.{starts_with}
use Rattle.command_ends.specs.declared.fault.Fault.{Fault}
use Rattle.command_ends.specs.declared.fault.Fault.TheVariants.{Memory, Disk, Damaged}
use Rattle.command_words.specs.declared.outcome.Command.{Command}
use Rattle.command_words.specs.declared.outcome.Command.TheVariants as command
use Rattle.command_words.specs.declared.outcome.Init.{Init}
use Rattle.command_words.specs.declared.outcome.Operators.{Operators}
use Rattle.queue_types.specs.Operators.{IsOperatorName, has_twice}
use Rattle.queue_types.specs.Settings.{AreSettings, SettingValues}
use Rattle.queue_types.specs.Text.{texts}

-- the settings that a new store is to have, from this second of the clock on
abbrev pub settings_of : Init → ℤ → SettingValues
settings_of words epoch = record { uri = words.uri.now; name = words.name.now; estimate = words.estimate; epoch = epoch; keep = words.keep; operators = [] }

-- SQLite takes the path for a file's name: it is not that of a database in memory, and no URI
abbrev pub is_file_name : List ℕ → Bool
is_file_name path = not (bytes_eq path (codes ":memory:") || starts_with nat_eq path (codes "file:"))

-- a store that these words ask for can be made: its path is a file's name, and its settings are within their limits, at any second of the clock
abbrev pub CanBeMade : Init → Type 0
CanBeMade words = IsTrue (is_file_name words.store.now) × ((epoch : ℤ) → AreSettings (settings_of words epoch))

-- these names can be those of the operators: at most 16, each a user's name other than anonymous, none there twice
pub record CanBeOperators (names : List (List ℕ)) : Type 0 where
  pub few : length names ≤ 16
  pub each : All IsOperatorName names
  pub once : has_twice names ≡ false

-- the names of the words
abbrev pub names_of : Operators → List (List ℕ)
names_of words = texts words.names.items

-- its words allow the command: a store that it makes can be made, and the names that it sets can be those of operators
abbrev pub IsAllowed : Command → Type 0
IsAllowed (command.Init words) = CanBeMade words
IsAllowed (command.Operators words) = CanBeOperators (names_of words)
IsAllowed _ = ⊤

-- a path that can't be looked at or made is told so
abbrev pub IsOfPath : Fault → Type 0
IsOfPath fault = (fault ≡ Memory) ⊎ (fault ≡ Disk)

-- a store that can't be opened is told so
abbrev pub IsOfStore : Fault → Type 0
IsOfStore fault = (fault ≡ Memory) ⊎ (fault ≡ Disk) ⊎ (fault ≡ Damaged)
