-- What a command that is refused may tell, and what it has printed.
use Rattle.std.specs.Prelude.{◌≡◌, ◌≤◌, ◌⊎◌, ⊤, ℕ, [], List, Option, length}
use Rattle.std.specs.Io.KnownBytes.{Appends, Keeps}
use Rattle.command_ends.specs.Faults.{IsOfStream}
use Rattle.command_ends.specs.Texts.{Tells}
use Rattle.command_ends.specs.declared.fault.Fault.{Fault}
use Rattle.command_ends.specs.declared.fault.Fault.TheVariants.{Memory, Disk, NoAccount, Import as ByFile, BadSetting, Io}
use Rattle.command_words.specs.declared.outcome.Command.{Command}
use Rattle.command_words.specs.declared.outcome.Command.TheVariants as command
use Rattle.command_words.specs.declared.outcome.Serve.{Serve as ServeWords}
use Rattle.grants_csv.specs.declared.fault.ImportFault.{ImportFault}
use Rattle.commands.specs.Printed.{HasPrinted, server_lines}
use Rattle.commands.specs.Store.{IsOfStore}
use Rattle.commands.specs.declared.work.Work.{Work}
use Rattle.commands.specs.declared.work.Work.TheVariants.{Import, Statement, Expire, Operators, Serve}

-- a store that isn't made is told so: none can be made at its path, a setting is not within its limits, or the clock can't be read
abbrev pub IsOfInit : Fault → Type 0
IsOfInit fault = IsOfStore fault ⊎ (fault ≡ BadSetting) ⊎ (fault ≡ Io)

-- an account file that isn't taken is told so: it is refused, or the clock, the file or the output failed
abbrev pub IsOfImport : Fault → Type 0
IsOfImport fault = IsOfStream fault ⊎ ((told : ImportFault) × (fault ≡ ByFile told))

-- a statement that isn't printed is told so: the store can't be read or holds no queue, nothing was ever granted to the account, or the output failed
abbrev pub IsOfStatement : Fault → Type 0
IsOfStatement fault = IsOfStore fault ⊎ (fault ≡ NoAccount) ⊎ (fault ≡ Io)

-- why expired jobs don't end, or their number isn't printed: the store can't be read or written or holds no queue, or the clock or the output failed
abbrev pub IsOfExpire : Fault → Type 0
IsOfExpire fault = IsOfStore fault ⊎ (fault ≡ Io)

-- why the operators aren't set, or their number isn't printed: the store can't be read or written or holds no queue, or the output failed
abbrev pub IsOfOperators : Fault → Type 0
IsOfOperators fault = IsOfStore fault ⊎ (fault ≡ Io)

-- connections that aren't served are told so: the store can't be read any more or holds no queue, or the port, a connection, the clock or the output failed
abbrev pub IsOfServe : Fault → Type 0
IsOfServe fault = IsOfStore fault ⊎ (fault ≡ Io)

-- what may be told of the work that isn't done on a book
abbrev pub MayBeToldOf : Work → Fault → Type 0
MayBeToldOf (Import words) = IsOfImport
MayBeToldOf (Statement words) = IsOfStatement
MayBeToldOf (Expire words) = IsOfExpire
MayBeToldOf (Operators work) = IsOfOperators
MayBeToldOf (Serve words) = IsOfServe

-- an account to which nothing was ever granted is told so, unless there was no memory or the disk failed
abbrev pub IsOfNoAccount : Fault → Type 0
IsOfNoAccount fault = (fault ≡ NoAccount) ⊎ (fault ≡ Memory) ⊎ (fault ≡ Disk)

-- a replay that can't go on is told so: its input or its output failed, there was no memory, or its new store was refused
abbrev pub IsOfReplay : Fault → Type 0
IsOfReplay fault = IsOfStream fault ⊎ (fault ≡ Disk)

-- what may be told of a command
abbrev pub MayBeToldBy : Command → Fault → Type 0
MayBeToldBy (command.Init words) fault = IsOfInit fault
MayBeToldBy (command.Import words) fault = IsOfStore fault ⊎ IsOfImport fault
MayBeToldBy (command.Statement words) fault = IsOfStatement fault
MayBeToldBy (command.Expire words) fault = IsOfExpire fault
MayBeToldBy (command.Operators words) fault = IsOfOperators fault ⊎ (fault ≡ BadSetting)
MayBeToldBy (command.Serve words) fault = IsOfServe fault
MayBeToldBy command.Replay fault = IsOfReplay fault

-- a server has told of its port, and of no more connections than its words ask for
abbrev pub HasListened : ServeWords → Option (List ℕ) → Option (List ℕ) → Type 0
HasListened words before after = (counts : List ℕ) × (length counts ≤ words.connections) × Appends before after (server_lines words counts)

-- what work that isn't done has printed, where no stream failed and there was memory: nothing; but a server may have told of its port and of connections before it was stopped
abbrev pub MayBePrintedOf : Work → Option (List ℕ) → Option (List ℕ) → Type 0
MayBePrintedOf (Import words) before after = after ≡ before
MayBePrintedOf (Statement words) before after = after ≡ before
MayBePrintedOf (Expire words) before after = after ≡ before
MayBePrintedOf (Operators work) before after = after ≡ before
MayBePrintedOf (Serve words) before after = (after ≡ before) ⊎ HasListened words before after

-- what a command that is refused has printed, where no stream failed and there was memory; of a replay that can't go on nothing is said
abbrev pub MayBePrintedBy : Command → Option (List ℕ) → Option (List ℕ) → Type 0
MayBePrintedBy (command.Init words) before after = after ≡ before
MayBePrintedBy (command.Import words) before after = MayBePrintedOf (Import words) before after
MayBePrintedBy (command.Statement words) before after = MayBePrintedOf (Statement words) before after
MayBePrintedBy (command.Expire words) before after = MayBePrintedOf (Expire words) before after
MayBePrintedBy (command.Operators words) before after = after ≡ before
MayBePrintedBy (command.Serve words) before after = MayBePrintedOf (Serve words) before after
MayBePrintedBy command.Replay before after = ⊤

-- what is told of a command that ended with status 1, and what it has printed: a fault that may be told of it, and where that is
-- neither of a stream nor want of memory, nothing but what may be printed then; or it is a replay that ended at a bad line, of which
-- nothing is told, and all of whose answers were handed on, so that none are left in the buffer
abbrev pub IsTold : Command → (err_before err_after out_before out_after : Option (List ℕ)) → (left : List ℕ) → Type 0
IsTold asked err_before err_after out_before out_after left =
    ((fault : Fault) × MayBeToldBy asked fault × Tells fault err_before err_after × (IsOfStream fault ⊎ MayBePrintedBy asked out_before out_after))
    ⊎ ((asked ≡ command.Replay) × Keeps err_before err_after × HasPrinted command.Replay 1 out_before out_after × (left ≡ []))
