-- The program's command line, as `clap` sees it.
use Rattle.std.specs.Prelude.{◌≡◌, ◌≢◌, ◌⊎◌, ℕ, true, false, codes, List, [], ◌∷◌, Some}
use Rattle.clap.specs.Kinds.{IsAmong, Kinds}
use Rattle.clap.specs.Simple.{App, Shape, app_of, new_rule, new_shape}
use Rattle.clap.specs.Values.{kind_of}
use Rattle.clap.specs.Walk.{Rule, Text}
use Rattle.clap.specs.declared.builder.action.ArgAction.TheVariants.{Append, Set}
use Rattle.clap.specs.declared.builder.value_parser.ValueParser.TheVariants.{Unsigned}
use Rattle.clap.specs.declared.builder.command.Command.{Command as Definition}
use Rattle.clap.specs.declared.builder.command.Command.TheViews.{out-Command}
use Rattle.clap.specs.declared.error.Error.{Error}
use Rattle.clap.specs.declared.error.kind.ErrorKind.TheVariants as kind
use Rattle.command_words.specs.declared.outcome.CommandFault.{CommandFault}
use Rattle.command_words.specs.declared.outcome.CommandFault.TheVariants as fault

-- ---- arguments

-- a word with no name, that has to be there
abbrev pub place_rule : Text → Rule
place_rule name = record (new_rule name) { value_names = 1; action = Some Set; required = true }

-- words with no name, of which at least one has to be there
abbrev pub places_rule : Text → Rule
places_rule name = record (place_rule name) { action = Some Append }

-- an option `--name` with a text, that has to be there
abbrev pub text_rule : Text → Rule
text_rule name = record (place_rule name) { long = Some name }

-- one with a number from `least` to `most`
abbrev pub number_rule : Text → ℕ → ℕ → Rule
number_rule name least most = record (text_rule name) { parser = Some (Unsigned least most) }

-- one that may be left out, and then has the usual value
abbrev pub optional_rule : Text → ℕ → ℕ → Text → Rule
optional_rule name least most usual = record (number_rule name least most) { required = false; defaults = usual ∷ [] }

-- ---- subcommands

abbrev pub words : Text → List Rule → Shape
words name rules = record (new_shape name) { rules = rules }

abbrev pub store_rule : Rule
store_rule = text_rule (codes "store")

abbrev pub init_words : Shape
init_words = words (codes "init")
    (store_rule ∷ text_rule (codes "uri") ∷ text_rule (codes "name") ∷ optional_rule (codes "estimate") 0 100000 (codes "20")
    ∷ optional_rule (codes "keep") 0 2147483647 (codes "0") ∷ [])

abbrev pub import_words : Shape
import_words = words (codes "import") (store_rule ∷ place_rule (codes "file") ∷ [])

abbrev pub statement_words : Shape
statement_words = words (codes "statement") (store_rule ∷ place_rule (codes "account") ∷ [])

abbrev pub expire_words : Shape
expire_words = words (codes "expire") (store_rule ∷ [])

abbrev pub operators_words : Shape
operators_words = words (codes "operators") (store_rule ∷ places_rule (codes "operator") ∷ [])

abbrev pub serve_words : Shape
serve_words = words (codes "serve")
    (store_rule ∷ number_rule (codes "port") 1 65535 ∷ number_rule (codes "connections") 1 4294967295
    ∷ optional_rule (codes "timeout") 1 3600 (codes "5") ∷ [])

abbrev pub replay_words : Shape
replay_words = words (codes "replay") []

-- ---- the program

-- the program by itself: it wants a subcommand, and without a word it says which there are
abbrev pub program : Shape
program = record (new_shape (codes "printd")) {
  subcommand_required = true;
  arg_required_else_help = true;
  disable_help_subcommand = true;
}

-- of a store: making it, importing account files, printing statements, ending expired jobs and naming the operators
abbrev pub office_subcommands : List Shape
office_subcommands = init_words ∷ import_words ∷ statement_words ∷ expire_words ∷ operators_words ∷ []

abbrev pub subcommands : List Shape
subcommands = init_words ∷ import_words ∷ statement_words ∷ expire_words ∷ operators_words ∷ serve_words ∷ replay_words ∷ []

-- the program with these subcommands
abbrev pub program_with : List Shape → App
program_with subs = record { top = record program { is_leaf = false }; subs = subs }

-- the program and its subcommands
abbrev pub definition : App
definition = program_with subcommands

-- the name is one of theirs
abbrev pub IsNameIn : List Shape → Text → Type 0
IsNameIn [] name = ⊥
IsNameIn (s ∷ rest) name = (name ≡ s.name) ⊎ IsNameIn rest name

-- `clap` has this command with its subcommands
pub record IsApp (a : App) (c : Definition) : Type 0 where
  pub app : app_of c ≡ a
  pub globals : (out-Command c).has_globals ≡ false

-- `clap` has this command, without subcommands
abbrev pub IsPart : Shape → Definition → Type 0
IsPart s c = IsApp (record { top = s; subs = [] }) c

-- ---- faults

-- what becomes of an error of `clap`
abbrev pub IsFaultOf : Error → CommandFault → Type 0
IsFaultOf error fault.Memory = kind_of error ≡ kind.OutOfMemory
IsFaultOf error (fault.Words own) = (own ≡ error) × (kind_of error ≢ kind.OutOfMemory)

-- the fault is want of memory, or an error of one of these kinds
abbrev pub IsWordsFault : Kinds → CommandFault → Type 0
IsWordsFault kinds fault.Memory = Unit {0}
IsWordsFault kinds (fault.Words error) = IsAmong (kind_of error) kinds
