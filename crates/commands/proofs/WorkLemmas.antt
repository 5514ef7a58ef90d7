-- Work on a store, where less is known of what its account file holds.
use Rattle.std.proofs.Common.{◌≡◌, ℕ, IfErr, IfNone, IfOk, IfSome, IsErrAnd, IsOk, IsSome, IsTrue, List, None, OnOk, Option, Result, Ok, Err, Some, Vec, false, true, inl, inr, subst, sym}
use Rattle.grants_csv.specs.declared.importing.Imported.{Imported}
use Rattle.office.specs.Told.{IsTaken}
use Rattle.queue_core.specs.Limits.{IsMoment}
use Rattle.queue_core.specs.World.{World}
use Rattle.queue_store.specs.Closed.{KeepAlone}
use Rattle.queue_store.specs.Crash.{KeepOneOf}
use Rattle.queue_store.specs.Kept.{IsHonest, StandsFor, shown_by}
use Rattle.queue_store.specs.declared.book.TableBook.{TableBook}
use Rattle.queue_tables.specs.Content.{LeavesOneOf}
use Rattle.sqlite.specs.Files.{over_files}
use Rattle.sqlite_disk.specs.declared.Disk as disk
use Rattle.sqlite_disk.specs.declared.Files.{Files}
use Rattle.sqlite_store.specs.declared.store.FileStore.{FileStore}
use Rattle.sqlite_trees.specs.declared.store.Store.{Ghosts}
use Rattle.sqlite_wal.specs.Reads.{AreClean}
use Rattle.command_ends.specs.declared.fault.Fault.{Fault}
use Rattle.commands.specs.Books.{IfGivenBack}
use Rattle.commands.specs.Printed.{Prints}
use Rattle.commands.specs.Work.{AreAny, AreIn, HasEnded, IsDone, IsDoneFrom, IsDoneOn, IsImport, IsKeptFrom, IsNotDone, IsOfFile, IsRefusal, IsRefusedFrom, IsRefusedOn, IsRefusedOver, MayBeLeft}
use Rattle.commands.specs.declared.work.Work.{Work}
use Rattle.commands.specs.declared.work.Work.TheVariants.{Import}
use Rattle.commands.proofs.CrashLemmas.{known_of_all}

-- bytes that were read
pub in_read : {Z E : Type 0} (file : Result (Vec ℕ Z) E) (read : Vec ℕ Z) → file ≡ Ok read → (bytes : List ℕ) → bytes ≡ read.items → AreIn file bytes
in_read file read is bytes same = subst (λ (x : Result (Vec _ _) _). AreIn x bytes) (sym is) same

-- what is known of the bytes that were read
pub known_in : {Z E : Type 0} (file : Result (Vec ℕ Z) E) (P : List ℕ → Type 0) → IfOk file (λ read. P read.items) → (bytes : List ℕ) → AreIn file bytes → P bytes
known_in (Ok read) P p bytes is = subst P (sym is) p
known_in (Err error) P p bytes is = absurd is

-- rows that were taken at a moment
pub import_of : (are_read : List ℕ → Type 0) (now : ℕ) → IsMoment now → (bytes : List ℕ) → are_read bytes → (w u : World) (n : Imported) → IsTaken now w u bytes n
    → IsImport are_read w u n
import_of are_read now moment bytes read w u n told = record { now = now; moment = moment; bytes = bytes; read = read; taken = told }

-- so it is where more is known of what an account file holds than is wanted
module _ (P Q : List ℕ → Type 0) (known : (bytes : List ℕ) → P bytes → Q bytes) where
  import_by : (w u : World) (n : Imported) → IsImport P w u n → IsImport Q w u n
  import_by w u n told = record { now = told.now; moment = told.moment; bytes = told.bytes; read = known told.bytes told.read; taken = told.taken }

  done_by : (work : Work) (w u : World) (before after : Option (List ℕ)) → IsDone P work w u before after → IsDone Q work w u before after
  done_by (Import words) w u before after done = (done.0, import_by w u done.0 done.1, done.2)
  done_by _ w u before after done = done

  of_file_by : (fault : Fault) (w : World) → IsOfFile P fault w → IsOfFile Q fault w
  of_file_by fault w it = record { now = it.now; moment = it.moment; bytes = it.bytes; read = known it.bytes it.read; refused = it.refused }

  not_done_by : (work : Work) (fault : Fault) (w u : World) (before after : Option (List ℕ)) → IsNotDone P work fault w u before after → IsNotDone Q work fault w u before after
  not_done_by (Import words) fault w u before after it = record {
    why = elim it.why [ inl stream ↦ inl stream | inr file ↦ inr (of_file_by fault w file) ];
    left = elim it.left [ inl same ↦ inl same | inr taken ↦ inr (taken.0, (taken.1.0, import_by w u taken.1.0 taken.1.1)) ];
  }
  not_done_by _ fault w u before after it = it

  left_by : (work : Work) (w u x : World) → MayBeLeft P work w u x → MayBeLeft Q work w u x
  left_by (Import words) w u x left = known_of_all _ _ w u x (λ v told. (told.0, import_by w v told.0 told.1)) left
  left_by _ w u x left = left

  pub done_on_by : {S : Type 0} (store : Ghosts S) (work : Work) (old new : TableBook S) (before after : Option (List ℕ))
      → IsDoneOn store P work old new before after → IsDoneOn store Q work old new before after
  done_on_by store work old new before after it = record {
    began = it.began;
    done = λ w stands. let done = it.done w stands in (
      done.0,
      done.1,
      (done_by work w done.0 before after done.2.0, λ live. let left = done.2.1 live in (left.0, left.1, left_by work w done.0 left.0 left.2)),
    );
    live = it.live;
  }

  -- work on a book in files that is refused, and the files that are given back
  pub refused_from : {D : Type 0} {g : disk.Ghosts D} (work : Work) (old new : TableBook (FileStore D g)) (before after : Option (List ℕ)) (fault : Fault) (files : Files D)
      → ((v x : World) → LeavesOneOf v x (shown_by over_files new) → KeepOneOf g files v x) → IsRefusedOn over_files P work old new before after fault
      → IsTrue (shown_by over_files old).is_open → (w : World) → StandsFor over_files old w → IsRefusedFrom g Q work w files before after fault
  refused_from work old new before after fault files crash it live w stands =
      let end = it.refused w stands in
      let left = end.2.1 live in record {
        queue = end.0;
        refused = not_done_by work fault w end.0 before after end.2.0;
        left = (left.0, crash end.0 left.0 left.1, left_by work w end.0 left.0 left.2);
      }

-- so it is whatever the account file holds
pub refused_any : {D : Type 0} {g : disk.Ghosts D} (are_read : List ℕ → Type 0) (work : Work) (w : World) (files : Files D) (before after : Option (List ℕ)) (fault : Fault)
    → IsRefusedFrom g are_read work w files before after fault → IsRefusedFrom g AreAny work w files before after fault
refused_any are_read work w files before after fault it = record {
  queue = it.queue;
  refused = not_done_by are_read AreAny (λ bytes read. tt) work fault w it.queue before after it.refused;
  left = (it.left.0, it.left.1, left_by are_read AreAny (λ bytes read. tt) work w it.queue it.left.0 it.left.2);
}

-- what was done on an open store, and what a crash leaves of it
module _ {S : Type 0} (store : Ghosts S) (are_read : List ℕ → Type 0) (work : Work) (old new : TableBook S) (before after : Option (List ℕ)) where
  pub done_from : IsDoneOn store are_read work old new before after → (w : World) → StandsFor store old w → IsTrue (shown_by store old).is_open
      → IsDoneFrom store work w new before after
  done_from it w stands live =
      let done = it.done w stands in
      let left = done.2.1 live in record {
        queue = done.0;
        stands = done.1;
        done = done_by are_read AreAny (λ bytes read. tt) work w done.0 before after done.2.0;
        left = (left.0, left.1, left_by are_read AreAny (λ bytes read. tt) work w done.0 left.0 left.2);
      }

-- what was done, where these files keep alone what the book stands for
pub kept_from : {D : Type 0} {g : disk.Ghosts D} (work : Work) (w : World) (book : TableBook (FileStore D g)) (before after : Option (List ℕ)) (files : Files D)
    → IsDoneFrom over_files work w book before after → ((u : World) → StandsFor over_files book u → KeepAlone g files u) → IsKeptFrom g work w files before after
kept_from work w book before after files it alone = record { queue = it.queue; done = it.done; kept = alone it.queue it.stands }

-- work on a book that ended
module _ {S A : Type 0} (store : Ghosts S) (are_read : List ℕ → Type 0) (work : Work) (old new : TableBook S) (before after : Option (List ℕ)) where
  pub ended : (r : Result A Fault) → OnOk r (Prints work before after) → (IsHonest store new → OnOk r (IsDoneOn store are_read work old new before after)) → IfErr r (IsRefusal work before after)
      → (IsHonest store new → IfErr r (IsRefusedOn store are_read work old new before after)) → HasEnded store are_read work old new before after r
  ended (Ok a) printed done told refused = (printed, done)
  ended (Err fault) printed done told refused = (told, refused)

  pub ended_ok : (r : Result A Fault) → IsOk r → HasEnded store are_read work old new before after r → IsHonest store new
      → IsDoneOn store are_read work old new before after
  ended_ok (Ok a) ok done = done.1
  ended_ok (Err fault) ok refused = absurd (let no : false ≡ true = ok in cc)

  pub ended_printed : (r : Result A Fault) → IsOk r → HasEnded store are_read work old new before after r → Prints work before after
  ended_printed (Ok a) ok done = done.0
  ended_printed (Err fault) ok refused = absurd (let no : false ≡ true = ok in cc)

  pub ended_err : (r : Result A Fault) → HasEnded store are_read work old new before after r → IfErr r (IsRefusal work before after)
  ended_err (Ok a) done = tt
  ended_err (Err fault) refused = refused.0

-- of work that ended with files given back, it was refused with the fault that is told
pub refused_on : {D A B : Type 0} {g : disk.Ghosts D} (are_read : List ℕ → Type 0) (work : Work) (old new : TableBook (FileStore D g)) (before after : Option (List ℕ))
    (r : Result A Fault) (s : Result B (Fault × Files D)) → IfOk r (λ a. IsOk s) → IfErr r (λ fault. IsErrAnd s (λ told. told.0 ≡ fault))
    → HasEnded over_files are_read work old new before after r → IfErr s (λ told. AreClean g told.1.log told.1.db → IsHonest over_files new)
    → IfErr s (λ told. AreClean g told.1.log told.1.db → IsRefusedOn over_files are_read work old new before after told.0)
refused_on are_read work old new before after r (Ok b) done refused ended honest = tt
refused_on are_read work old new before after (Ok a) (Err told) done refused ended honest = absurd (let no : false ≡ true = done in cc)
refused_on are_read work old new before after (Err fault) (Err told) done refused ended honest =
    λ clean. subst (IsRefusedOn over_files are_read work old new before after) (sym refused) (ended.1 (honest clean))

given_weaker : {D : Type 0} (g : disk.Ghosts D) (given : Option (Files D)) (P Q : Files D → Type 0) → ((files : Files D) → P files → Q files)
    → IfSome given (λ files. AreClean g files.log files.db → P files) → IfSome given (λ files. AreClean g files.log files.db → Q files)
given_weaker g None P Q then_q p = tt
given_weaker g (Some files) P Q then_q p = λ clean. then_q files (p clean)

given_back_weaker : {D A E : Type 0} (g : disk.Ghosts D) (r : Result A (E × Option (Files D))) (P Q : E → Files D → Type 0) → ((e : E) (files : Files D) → P e files → Q e files)
    → IfGivenBack g r P → IfGivenBack g r Q
given_back_weaker g (Ok a) P Q then_q p = tt
given_back_weaker g (Err e) P Q then_q p = given_weaker g e.1 (P e.0) (Q e.0) (then_q e.0) p

-- work that was refused on a store that was open
module _ {D A : Type 0} {g : disk.Ghosts D} (r : Result A (Fault × Option (Files D))) (work : Work) (book : TableBook (FileStore D g)) (before after : Option (List ℕ))
    (refused : IfGivenBack g r (IsRefusedOver g work book before after)) (live : IsHonest over_files book → IsTrue (shown_by over_files book).is_open) where
  -- what it left of a queue for which the book stood
  pub refused_of : (w : World) → StandsFor over_files book w → IfGivenBack g r (λ fault files. IsRefusedFrom g AreAny work w files before after fault)
  refused_of w stands =
      given_back_weaker g r (IsRefusedOver g work book before after) (λ fault files. IsRefusedFrom g AreAny work w files before after fault)
      (λ fault files it. it.left (live it.began) w stands) refused

  -- what it left of the queue that the files kept
  pub refused_of_kept : (is_kept : World → Type 0) → (IsHonest over_files book → (w : World) × is_kept w × StandsFor over_files book w)
      → IfGivenBack g r (λ fault files. (w : World) × is_kept w × IsRefusedFrom g AreAny work w files before after fault)
  refused_of_kept is_kept kept =
      given_back_weaker g r (IsRefusedOver g work book before after) (λ fault files. (w : World) × is_kept w × IsRefusedFrom g AreAny work w files before after fault)
      (λ fault files it. let at = kept it.began in (at.0, at.1, it.left (live it.began) at.0 at.2)) refused

-- what is given back is there
pub given_is_some : {X : Type 0} (o : Option X) (P : Type 0) → IsSome o → IfNone o P
given_is_some None P there = absurd (let no : false ≡ true = there in cc)
given_is_some (Some x) P there = tt
