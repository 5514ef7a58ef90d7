-- Tables that were not made.
use Rattle.std.proofs.Common.{◌≡◌, ◌∙◌, IsTrue, Result, false, inl, inr, refl, sym, true}
use Rattle.sqlite.specs.declared.error.Error.{Error}
use Rattle.sqlite.specs.State.{HasCleanDisk, IsRolledBack, State, Survives}
use Rattle.sqlite.specs.Steps.{FailsToCommit}
use Rattle.sqlite_trees.specs.Tree.{Trees}
use Rattle.queue_store.specs.New.{KeepsTables}
use Rattle.queue_tables.proofs.Ending.{clean_before}
use Rattle.queue_tables.proofs.Leaving.{serves_all, serves_then, survives_serves}
use Rattle.queue_tables.specs.Leaving.{StaysInside}
use Rattle.queue_tables.specs.declared.fault.Fault.{Fault}

-- nothing was done
pub keeps_all : (s : State) → KeepsTables s s
keeps_all s = record {
  clean = λ clean. clean;
  opened = λ clean live. live;
  same = λ clean live. refl;
  committed = λ clean live. refl;
  mode = refl;
  serves = serves_all s;
}

-- a commit that fails undoes what was written
pub commit_undone : (mid new : State) (why : Error) → IsTrue mid.in_transaction → FailsToCommit mid new why → IsRolledBack mid new
commit_undone mid new why inside (inl failed) = failed.3
commit_undone mid new why inside (inr late) = absurd (let no = late.1 in cc)

-- what was written in a transaction of its own was undone
pub keeps_undone : {T : Type 0} {r : Result T Fault} (old mid new : State) (Commits : Trees → Type 0) → (IsTrue old.is_open → old.now ≡ old.committed) → old.in_transaction ≡ false
    → StaysInside (record old { in_transaction = true }) mid r → (HasCleanDisk new → IsRolledBack mid new) → Survives mid new Commits → new.in_transaction ≡ false → KeepsTables old new
keeps_undone old mid new Commits settled outside stays back survives ended =
    let begun : State = record old { in_transaction = true } in
    let early : HasCleanDisk new → HasCleanDisk mid = clean_before mid new survives.clean in
    let opened : HasCleanDisk new → IsTrue new.is_open → IsTrue old.is_open = λ clean live. (stays.kept (early clean) refl).was_open ((back clean).was_open live) in
    let committed_is = λ (clean : HasCleanDisk new) (live : IsTrue new.is_open). (stays.kept (early clean) refl).committed ((back clean).was_open live) in
    let serves = serves_then begun mid new early stays.serves (survives_serves mid new Commits survives) in
    record {
      clean = λ clean. stays.clean (early clean);
      opened = opened;
      same = λ clean live. ((back clean).undone live).0 ∙ committed_is clean live ∙ sym (settled (opened clean live));
      committed = λ clean live. ((back clean).undone live).1 ∙ committed_is clean live;
      mode = ended ∙ sym outside;
      serves = record { limit = serves.limit; counts = serves.counts; closes = serves.closes };
    }
