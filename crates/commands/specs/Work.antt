-- What a command does on the book of a store.
use Rattle.std.specs.Prelude.{◌≡◌, ◌≢◌, ◌≤◌, ◌⊎◌, ⊤, ℕ, IsTrue, List, Option, Some, None, Result, Ok, Err, Vec, length}
use Rattle.std.specs.Io.KnownBytes.{Appends}
use Rattle.command_ends.specs.Faults.{IsOfStream}
use Rattle.command_ends.specs.declared.fault.Fault.{Fault}
use Rattle.command_ends.specs.declared.fault.Fault.TheVariants.{Damaged, NoAccount, Import as ByFile}
use Rattle.command_words.specs.declared.outcome.Serve.{Serve as ServeWords}
use Rattle.grants_csv.specs.declared.fault.ImportFault.{ImportFault}
use Rattle.grants_csv.specs.declared.importing.Imported.{Imported}
use Rattle.office.specs.Told.{AreReadOf, HaveExpired, IsRefused, IsTaken, expired_line, import_line}
use Rattle.page_statements.specs.Statement.{sheet_text}
use Rattle.print_server.specs.Connections.{AreConnections, IsAtMostOneMore}
use Rattle.queue_core.specs.Limits.{IsMoment}
use Rattle.queue_core.specs.Shown.{sheet_of}
use Rattle.queue_core.specs.World.{World}
use Rattle.queue_tables.specs.Steps.{with_operators}
use Rattle.queue_types.specs.declared.sheet.AccountSheet.{AccountSheet}
use Rattle.queue_store.specs.Closed.{KeepAlone}
use Rattle.queue_store.specs.Kept.{IsHonest, StandsFor, shown_by}
use Rattle.queue_store.specs.declared.book.TableBook.{TableBook}
use Rattle.sqlite.specs.Files.{over_files}
use Rattle.sqlite_disk.specs.declared.Disk as disk
use Rattle.sqlite_disk.specs.declared.Files.{Files}
use Rattle.sqlite_store.specs.declared.store.FileStore.{FileStore}
use Rattle.sqlite_trees.specs.declared.store.Store.{Ghosts}
use Rattle.commands.specs.Books.{KeepBeside, LeavesBeside, MakesSafely}
use Rattle.commands.specs.Printed.{Prints, operators_line, server_lines}
use Rattle.commands.specs.Refusals.{IsOfNoAccount, MayBePrintedOf, MayBeToldOf}
use Rattle.commands.specs.declared.work.NewOperators.{NewOperators}
use Rattle.commands.specs.declared.work.Work.{Work}
use Rattle.commands.specs.declared.work.Work.TheVariants.{Import, Statement, Expire, Operators, Serve}

-- an account file was opened, and these bytes are read of it, as far as its reader tells what it has
abbrev pub AreReadIn : {R E : Type 0} → (R → Option (List ℕ)) → Result R E → List ℕ → Type 0
AreReadIn remaining (Ok file) bytes = AreReadOf (remaining file) bytes
AreReadIn remaining (Err error) bytes = ⊥

-- these bytes were read of an account file
abbrev pub AreIn : {Z E : Type 0} → Result (Vec ℕ Z) E → List ℕ → Type 0
AreIn (Ok read) bytes = bytes ≡ read.items
AreIn (Err error) bytes = ⊥

-- where it is not known what an account file holds, it may be any bytes
abbrev pub AreAny : List ℕ → Type 0
AreAny bytes = ⊤

-- at this moment the rows of an account file with these bytes are taken, and v is the queue after it
abbrev pub IsTakenAt : ℕ → List ℕ → World → World → Type 0
IsTakenAt now bytes w v = (n : Imported) × IsTaken now w v bytes n

-- it is the fault of an account file with these bytes, which is refused at this moment
abbrev pub IsRefusedAt : ℕ → List ℕ → Fault → World → Type 0
IsRefusedAt now bytes fault w = (told : ImportFault) × (fault ≡ ByFile told) × IsRefused now w bytes told

-- at some moment the rows of an account file with such bytes are taken, so many of them new, and u is the queue after it
pub record IsImport (are_read : List ℕ → Type 0) (w u : World) (n : Imported) : Type 0 where
  pub now : ℕ
  pub moment : IsMoment now
  pub bytes : List ℕ
  pub read : are_read bytes
  pub taken : IsTaken now w u bytes n

-- whatever their number
abbrev pub HasImport : (List ℕ → Type 0) → World → World → Type 0
HasImport are_read w u = (n : Imported) × IsImport are_read w u n

-- what became of them is told
abbrev pub TellsImport : (List ℕ → Type 0) → World → World → Option (List ℕ) → Option (List ℕ) → Type 0
TellsImport are_read w u before after = (n : Imported) × IsImport are_read w u n × Appends before after (import_line n)

-- it is the fault of an account file with such bytes, which is refused at some moment
pub record IsOfFile (are_read : List ℕ → Type 0) (fault : Fault) (w : World) : Type 0 where
  pub now : ℕ
  pub moment : IsMoment now
  pub bytes : List ℕ
  pub read : are_read bytes
  pub refused : IsRefusedAt now bytes fault w

-- the statement of this account is printed
abbrev pub PrintsStatement : World → List ℕ → Option (List ℕ) → Option (List ℕ) → Type 0
PrintsStatement w account before after = (s : AccountSheet) × (sheet_of w account ≡ Some s) × Appends before after (sheet_text s)

-- at some moment n jobs expire and end, and u is the queue after it
pub record IsSweep (w u : World) (n : ℕ) : Type 0 where
  pub now : ℕ
  pub moment : IsMoment now
  pub expired : HaveExpired now w u n

-- whatever their number
abbrev pub HasSweep : World → World → Type 0
HasSweep w u = (n : ℕ) × IsSweep w u n

-- their number is printed
abbrev pub PrintsSweep : World → World → Option (List ℕ) → Option (List ℕ) → Type 0
PrintsSweep w u before after = (n : ℕ) × IsSweep w u n × Appends before after (expired_line n)

-- the second queue is the first with these operators
abbrev pub AreSet : NewOperators → World → World → Type 0
AreSet work w u = u ≡ with_operators work.operators.now w

-- it made the second queue of the first, and what was written is the output then, where that was the output before:
-- the rows of an account file are taken, and what became of them is told; the statement of the account is printed, and the
-- queue stays as it is; the expired jobs end, and their number is printed; the operators are set, and their number is printed; so many connections are served, one after the other
abbrev pub IsDone : (List ℕ → Type 0) → Work → World → World → Option (List ℕ) → Option (List ℕ) → Type 0
IsDone are_read (Import words) w u before after = TellsImport are_read w u before after
IsDone are_read (Statement words) w u before after = (u ≡ w) × PrintsStatement w words.account.now before after
IsDone are_read (Expire words) w u before after = PrintsSweep w u before after
IsDone are_read (Operators work) w u before after = AreSet work w u × Appends before after (operators_line (length work.operators.now))
IsDone are_read (Serve words) w u before after =
    (counts : List ℕ) × AreConnections w counts u × (length counts ≡ words.connections) × Appends before after (server_lines words counts)

-- an account file is not taken, or its rows are and what became of them could not be told: a stream failed or the file is refused, and nothing is done;
-- or a stream failed behind it
pub record IsNoImport (are_read : List ℕ → Type 0) (fault : Fault) (w u : World) (before after : Option (List ℕ)) : Type 0 where
  pub why : IsOfStream fault ⊎ IsOfFile are_read fault w
  pub left : (u ≡ w) × (after ≡ before) ⊎ (IsOfStream fault × HasImport are_read w u)

-- the statement of this account is not printed: the queue stays as it is, and nothing is written but where a stream failed
pub record IsNoStatement (account : List ℕ) (fault : Fault) (w u : World) (before after : Option (List ℕ)) : Type 0 where
  pub undamaged : fault ≢ Damaged
  pub unknown : fault ≡ NoAccount → sheet_of w account ≡ None
  pub known : sheet_of w account ≡ None → IsOfNoAccount fault
  pub stays : u ≡ w
  pub quiet : IsOfStream fault ⊎ (after ≡ before)

-- no job ends and nothing is printed; or the expired jobs end, and then a stream failed, so that their number may not be printed
pub record IsNoSweep (fault : Fault) (w u : World) (before after : Option (List ℕ)) : Type 0 where
  pub undamaged : fault ≢ Damaged
  pub left : (u ≡ w) × (after ≡ before) ⊎ (IsOfStream fault × HasSweep w u)

-- the operators stay and nothing is printed; or they are set, and then a stream failed, so that their number may not be printed
pub record AreNotSet (work : NewOperators) (fault : Fault) (w u : World) (before after : Option (List ℕ)) : Type 0 where
  pub undamaged : fault ≢ Damaged
  pub left : (u ≡ w) × (after ≡ before) ⊎ (IsOfStream fault × AreSet work w u)

-- a server stops: no more than so many connections are served, and each is told of but where a stream failed
pub record IsNoService (words : ServeWords) (fault : Fault) (w u : World) (before after : Option (List ℕ)) : Type 0 where
  pub undamaged : fault ≢ Damaged
  pub counts : List ℕ
  pub are : AreConnections w counts u
  pub few : length counts ≤ words.connections
  pub told : IsOfStream fault ⊎ Appends before after (server_lines words counts)

-- it is refused with this fault, and left the second queue of the first
abbrev pub IsNotDone : (List ℕ → Type 0) → Work → Fault → World → World → Option (List ℕ) → Option (List ℕ) → Type 0
IsNotDone are_read (Import words) fault w u before after = IsNoImport are_read fault w u before after
IsNotDone are_read (Statement words) fault w u before after = IsNoStatement words.account.now fault w u before after
IsNotDone are_read (Expire words) fault w u before after = IsNoSweep fault w u before after
IsNotDone are_read (Operators work) fault w u before after = AreNotSet work fault w u before after
IsNotDone are_read (Serve words) fault w u before after = IsNoService words fault w u before after

-- of the queue w all of something is taken, or nothing: nothing is, u is w, and a crash leaves u; all is taken in u, and a crash leaves u; or taking it was
-- broken off, u is w, and a crash leaves u, or x, in which all is taken
pub data IsAllOrNone (all : World → Type 0) (w u x : World) : Type 0 where
  untaken : u ≡ w → x ≡ u → IsAllOrNone all w u x
  taken : all u → x ≡ u → IsAllOrNone all w u x
  broken_off : u ≡ w → all x → IsAllOrNone all w u x

-- of the queue w all rows of an account file with such bytes are taken, or none
abbrev pub IsFileOrNone : (List ℕ → Type 0) → World → World → World → Type 0
IsFileOrNone are_read w u x = IsAllOrNone (HasImport are_read w) w u x

-- of the queue w all expired jobs end, or none
abbrev pub IsSweepOrNone : World → World → World → Type 0
IsSweepOrNone w u x = IsAllOrNone (HasSweep w) w u x

-- it made u of the queue w, and a crash at any moment leaves u or x:
-- all rows of an account file are taken, or none; a statement leaves the queue as it is; all expired jobs end, or none; the operators are set, or not; no more than so many connections are
-- served, and x is u or what one request of theirs, which a fault answered, or one sweep before them, which met a fault, makes of it
abbrev pub MayBeLeft : (List ℕ → Type 0) → Work → World → World → World → Type 0
MayBeLeft are_read (Import words) w u x = IsFileOrNone are_read w u x
MayBeLeft are_read (Statement words) w u x = (u ≡ w) × (x ≡ u)
MayBeLeft are_read (Expire words) w u x = IsSweepOrNone w u x
MayBeLeft are_read (Operators work) w u x = IsAllOrNone (AreSet work w) w u x
MayBeLeft are_read (Serve words) w u x =
    (counts : List ℕ) × (are : AreConnections w counts u) × (length counts ≤ words.connections) × IsAtMostOneMore w counts u are x

-- it is no server
abbrev pub IsBrief : Work → Type 0
IsBrief (Import words) = ⊤
IsBrief (Statement words) = ⊤
IsBrief (Expire words) = ⊤
IsBrief (Operators work) = ⊤
IsBrief (Serve words) = ⊥

-- what is told of work that was refused, and printed: a fault that may be told of it, and what may be printed then
pub record IsRefusal (work : Work) (before after : Option (List ℕ)) (fault : Fault) : Type 0 where
  pub told : MayBeToldOf work fault
  -- a stream failed or there was no memory, or no more was printed than may be
  pub quiet : IsOfStream fault ⊎ MayBePrintedOf work before after

-- of the queue w the work made one for which the book stands now, and a crash at any moment leaves that, or one that may be left beside it
pub record IsDoneFrom {S : Type 0} (store : Ghosts S) (work : Work) (w : World) (book : TableBook S) (before after : Option (List ℕ)) : Type 0 where
  pub queue : World
  pub stands : StandsFor store book queue
  pub done : IsDone AreAny work w queue before after
  pub left : LeavesBeside (shown_by store book) queue (MayBeLeft AreAny work w queue)

-- of the queue w the work made one that these files keep, and the database file keeps it without its log too
pub record IsKeptFrom {D : Type 0} (g : disk.Ghosts D) (work : Work) (w : World) (files : Files D) (before after : Option (List ℕ)) : Type 0 where
  pub queue : World
  pub done : IsDone AreAny work w queue before after
  pub kept : KeepAlone g files queue

-- of the queue w the refused work left one, and whatever a crash leaves of the files that are given back keeps that, or one that may be left beside it
pub record IsRefusedFrom {D : Type 0} (g : disk.Ghosts D) (are_read : List ℕ → Type 0) (work : Work) (w : World) (files : Files D) (before after : Option (List ℕ)) (fault : Fault) : Type 0 where
  pub queue : World
  pub refused : IsNotDone are_read work fault w queue before after
  pub left : KeepBeside g files queue (MayBeLeft are_read work w queue)

-- the refused work was done on an honest book in files, and gave these back; where the store was open, of each queue for which it stood the work left one
pub record IsRefusedOver {D : Type 0} (g : disk.Ghosts D) (work : Work) (book : TableBook (FileStore D g)) (before after : Option (List ℕ)) (fault : Fault) (files : Files D) : Type 0 where
  pub began : IsHonest over_files book
  pub left : IsTrue (shown_by over_files book).is_open → (w : World) → StandsFor over_files book w → IsRefusedFrom g AreAny work w files before after fault

-- a book, and what was written, before the work and after it
module _ {S : Type 0} (store : Ghosts S) (are_read : List ℕ → Type 0) (work : Work) (old new : TableBook S) (before after : Option (List ℕ)) where
  -- the work is done
  pub record IsDoneOn : Type 0 where
    pub began : IsHonest store old
    pub done : MakesSafely store old new (λ w u. IsDone are_read work w u before after) (MayBeLeft are_read work)
    -- the store is open; of a server no contract says so, as a fault may have shut its store and the look at it behind that have had no memory
    pub live : IsBrief work → IsTrue (shown_by store new).is_open

  -- the work is refused with this fault
  pub record IsRefusedOn (fault : Fault) : Type 0 where
    pub began : IsHonest store old
    pub refused : MakesSafely store old new (λ w u. IsNotDone are_read work fault w u before after) (MayBeLeft are_read work)

  -- what came of the work: it is done, or refused with a fault; what was printed or is told of it is known of any book, and what became of the book where
  -- it is an honest one
  abbrev pub HasEnded : {A : Type 0} → Result A Fault → Type 0
  HasEnded (Ok done) = Prints work before after × (IsHonest store new → IsDoneOn)
  HasEnded (Err fault) = IsRefusal work before after fault × (IsHonest store new → IsRefusedOn fault)

abbrev pub store_of : Work → List ℕ
store_of (Import words) = words.store.now
store_of (Statement words) = words.store.now
store_of (Expire words) = words.store.now
store_of (Operators work) = work.store.now
store_of (Serve words) = words.store.now
