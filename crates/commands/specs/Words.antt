-- What is known of the program's words.
use denote.Ref.{Bor}
use Rattle.std.specs.Prelude.{◌≡◌, ◌≢◌, ◌⊎◌, ℕ, List, [], ◌∷◌, IsSomeAnd, map}
use Rattle.clap.specs.Kinds.{IsAmong, Kinds}
use Rattle.clap.specs.Words.{fault_of, subcommand_of}
use Rattle.clap.specs.declared.error.kind.ErrorKind.TheVariants.{DisplayHelp, DisplayVersion}
use Rattle.command_words.specs.CommandLine.{definition}
use Rattle.command_words.specs.Values.{IsCommand}
use Rattle.command_words.specs.declared.outcome.Command.{Command}

-- the faults of these words; those that have none name a command
abbrev pub faults_of : List (Bor (List ℕ)) → Kinds
faults_of words = fault_of definition (map (λ w. w.now) words)

-- these words name the command
abbrev pub NameCommand : List (Bor (List ℕ)) → Command → Type 0
NameCommand words command = IsSomeAnd (subcommand_of definition (map (λ w. w.now) words)) (IsCommand command)

-- words with these faults name no command, and ask for no text
abbrev pub AreWrong : Kinds → Type 0
AreWrong faults = (faults ≢ []) × (¬ IsAmong DisplayHelp faults) × (¬ IsAmong DisplayVersion faults)

-- words with these faults name no command, and ask for a text alone: the help, or the version
abbrev pub AskForText : Kinds → Type 0
AskForText faults = (faults ≡ DisplayHelp ∷ []) ⊎ (faults ≡ DisplayVersion ∷ [])
