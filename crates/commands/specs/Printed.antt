-- What a command that is done has printed, whatever its files hold.
use Rattle.std.specs.Prelude.{◌≡◌, ◌++◌, ◌∷◌, [], ℕ, List, Option, codes, length}
use Rattle.std.specs.Fmt.{decimal}
use Rattle.std.specs.Io.KnownBytes.{Appends, Keeps}
use Rattle.command_words.specs.declared.outcome.Command.{Command}
use Rattle.command_words.specs.declared.outcome.Command.TheVariants as command
use Rattle.command_words.specs.declared.outcome.Serve.{Serve as ServeWords}
use Rattle.grants_csv.specs.declared.importing.Imported.{Imported}
use Rattle.office.specs.Told.{expired_line, import_line}
use Rattle.page_statements.specs.Statement.{sheet_text}
use Rattle.print_server.specs.Lines.{listening_line, served_lines}
use Rattle.queue_core.specs.World.{empty_queue}
use Rattle.queue_types.specs.Operators.{put_names}
use Rattle.queue_types.specs.declared.sheet.AccountSheet.{AccountSheet}
use Rattle.replay.specs.Replay.{Replays, first, settings}
use Rattle.replay.specs.Session.{State}
use Rattle.commands.specs.declared.work.Work.{Work}
use Rattle.commands.specs.Store.{names_of}
use Rattle.commands.specs.declared.work.Work.TheVariants.{Import, Statement, Expire, Operators, Serve}

-- what a server tells: the port that it listens on, and of each of its connections how many requests acted
abbrev pub server_lines : ServeWords → List ℕ → List ℕ
server_lines words counts = listening_line words.port ++ served_lines counts

-- `operators N`
abbrev pub operators_line : ℕ → List ℕ
operators_line n = codes "operators " ++ decimal n ++ 10 ∷ []

-- what was written is the output then, where that was the output before: the line of an account file, of some counts; a statement of
-- that account; the line of expired jobs, of some number; the number of operators; or the line of a server that listens on its port, and one for each of its
-- connections
abbrev pub Prints : Work → Option (List ℕ) → Option (List ℕ) → Type 0
Prints (Import words) before after = (n : Imported) × Appends before after (import_line n)
Prints (Statement words) before after = (s : AccountSheet) × (s.account ≡ words.account.now) × Appends before after (sheet_text s)
Prints (Expire words) before after = (n : ℕ) × Appends before after (expired_line n)
Prints (Operators work) before after = Appends before after (operators_line (length work.operators.now))
Prints (Serve words) before after = (counts : List ℕ) × (length counts ≡ words.connections) × Appends before after (server_lines words counts)

-- a command that ends with this status has printed so: a new store prints nothing, and a replay the answers to the lines of some input
abbrev pub HasPrinted : Command → ℕ → Option (List ℕ) → Option (List ℕ) → Type 0
HasPrinted (command.Init words) status before after = Keeps before after
HasPrinted (command.Import words) status before after = Prints (Import words) before after
HasPrinted (command.Statement words) status before after = Prints (Statement words) before after
HasPrinted (command.Expire words) status before after = Prints (Expire words) before after
HasPrinted (command.Operators words) status before after = Appends before after (operators_line (length (put_names [] (names_of words))))
HasPrinted (command.Serve words) status before after = Prints (Serve words) before after
HasPrinted command.Replay status before after = (input : Option (List ℕ)) × (last : State) × (text : List ℕ)
    × Replays input (first (empty_queue settings)) status text last × Appends before after text
