-- Files that keep a queue are not told to be damaged, unless a disk lied or failed.
use Rattle.std.proofs.Common.{◌≡◌, ◌⊎◌, inl, inr, IfSome, None, Option, Some, refl, sym, ap, subst, ◌∙◌, arith}
use Rattle.std.proofs.Math.Logic.{∥∥₁_elim}
use Rattle.sqlite.specs.Files.{FailsToOpenFiles, IsCleanLeft, LeavesFiles, faults_left, image_of}
use Rattle.sqlite.specs.declared.error.Error.{Error}
use Rattle.sqlite.specs.declared.error.Error.TheVariants.{SqliteFailure}
use Rattle.sqlite.specs.declared.error.ErrorCode.TheVariants.{CannotOpen, DatabaseBusy, OutOfMemory}
use Rattle.sqlite.specs.declared.file.Leftover.{Leftover}
use Rattle.sqlite_disk.specs.declared.Disk.{Ghosts}
use Rattle.sqlite_disk.specs.declared.Files.{Files}
use Rattle.sqlite_wal.specs.Recovery.{Image}
use Rattle.queue_core.specs.World.{World}
use Rattle.queue_core.specs.declared.book.BookFault.TheVariants.{Damaged}
use Rattle.queue_store.specs.Crash.{IsKept}
use Rattle.queue_store.specs.Opened.{IsFaultless, open_fault}

never_opened : (e : Error) → open_fault e ≡ Damaged → (e ≡ SqliteFailure CannotOpen) ⊎ ((e ≡ SqliteFailure OutOfMemory) ⊎ (e ≡ SqliteFailure DatabaseBusy)) → ⊥
never_opened e told (inl cannot) = let bad = sym (ap open_fault cannot) ∙ told in cc
never_opened e told (inr (inl memory)) = let bad = sym (ap open_fault memory) ∙ told in cc
never_opened e told (inr (inr busy)) = let bad = sym (ap open_fault busy) ∙ told in cc

module _ {D : Type 0} {g : Ghosts D} (e : Error) (told : open_fault e ≡ Damaged) where
  -- files that hold a database are refused for want of memory, a fault or a limit
  never_refused : (files : Files D) (left : Leftover D g) (w : World) → IsKept (image_of g files) w → faults_left left ≡ 0 → FailsToOpenFiles files left e → ⊥
  never_refused files left w kept none (inl memory) = let bad = sym (ap open_fault memory) ∙ told in cc
  never_refused files left w kept none (inr (inl refused)) = ∥∥₁_elim kept.held (λ a b. absurd a) (λ held. refused.1 (inl (kept.db, held)))
  never_refused files left w kept none (inr (inr (inl fault))) = let met = fault.1 in omega arith
  never_refused files left w kept none (inr (inr (inr full))) = let bad = sym (ap open_fault full.0) ∙ told in cc

  module _ (first : Image) (Log Db : Files D → Type 0) (fresh : (files : Files D) → Log files → Db files → image_of g files ≡ first) (w : World) (kept : IsKept first w) where
    pub never_damaged : (o : Option (Leftover D g)) → (o ≡ None → (e ≡ SqliteFailure CannotOpen) ⊎ ((e ≡ SqliteFailure OutOfMemory) ⊎ (e ≡ SqliteFailure DatabaseBusy)))
        → IfSome o (λ left. (files : Files D) × Log files × Db files × (IsCleanLeft left → FailsToOpenFiles files left e × LeavesFiles files left)) → IsFaultless o → ⊥
    never_damaged None unopened cause faultless = never_opened e told (unopened refl)
    never_damaged (Some left) unopened cause faultless =
        let same : image_of g cause.0 ≡ first = fresh cause.0 cause.1 cause.2 in
        never_refused cause.0 left w (subst (λ (i : Image). IsKept i w) (sym same) kept) faultless.1 (cause.3 faultless.0).0
