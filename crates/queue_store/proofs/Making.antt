-- The tables of a new book, made and committed or not.
use Rattle.std.proofs.Common.{◌≡◌, ◌∙◌, Err, IsErrAnd, IsTrue, Ok, Result, false, inl, inr, refl, subst, sym, true}
use Rattle.sqlite.specs.State.{HasCleanDisk, IsRolledBack, Shows, State, Survives}
use Rattle.sqlite_trees.specs.Tree.{Trees}
use Rattle.queue_core.specs.Sound.{IsSound}
use Rattle.queue_core.specs.World.{World}
use Rattle.queue_store.proofs.Unmade.{keeps_all, keeps_undone}
use Rattle.queue_store.specs.Making.{MakesTables}
use Rattle.queue_store.specs.New.{LeavesOldOrNew}
use Rattle.queue_tables.proofs.Crash.{book_of}
use Rattle.queue_tables.proofs.Ending.{clean_before, committed_holds}
use Rattle.queue_tables.specs.Content.{Holds, IsBookOf, content_of}
use Rattle.queue_tables.specs.Leaving.{StaysInside}
use Rattle.queue_tables.specs.declared.fault.Fault.{Fault}

-- nothing was done
pub none_made : {T E : Type 0} (w : World) (s : State) (r : Result T E) (e : E) → IsErrAnd r (λ f. f ≡ e) → MakesTables w s s r
none_made w s (Ok x) e same = absurd same
none_made w s (Err f) e same = record { clean = λ clean. clean; made = λ clean. tt; settled = λ clean. tt; ended = tt; refused = keeps_all s; crash = λ sound clean db may. inl may }

module _ (w : World) (old mid new : State) (settled : IsTrue old.is_open → old.now ≡ old.committed) (outside : old.in_transaction ≡ false) (ended : new.in_transaction ≡ false) where
  abbrev begun : State
  begun = record old { in_transaction = true }

  leaves : {T : Type 0} {r : Result T Fault} (Commits : Trees → Type 0) → StaysInside begun mid r → Survives mid new Commits
      → (HasCleanDisk mid → IsSound w → (db : Trees) → Commits db → IsBookOf w db) → IsSound w → LeavesOldOrNew w old new
  leaves Commits stays survives written sound clean db may =
      let early = clean_before mid new survives.clean clean in
      elim (survives.crash clean db may) [ inl before ↦ inl ((stays.kept early refl).left db before) | inr now ↦ inr (written early sound db now) ]

  -- the commit may have reached the disk before it failed
  committed_book : (HasCleanDisk mid → Holds (content_of w) mid) → HasCleanDisk mid → IsSound w → (db : Trees) → db ≡ mid.now.trees → IsBookOf w db
  committed_book holds clean sound db now = subst (IsBookOf w) (sym now) (book_of w mid sound (holds clean))

  pub tables_made : {T U : Type 0} {x : T} (y : U) → StaysInside {E = Fault} begun mid (Ok x) → (HasCleanDisk mid → Holds (content_of w) mid) → (HasCleanDisk new → Shows mid new mid.now mid.now false)
      → Survives mid new (λ db. db ≡ mid.now.trees) → MakesTables {E = Fault} w old new (Ok y)
  tables_made y stays holds shown survives =
      let early : HasCleanDisk new → HasCleanDisk mid = clean_before mid new survives.clean in record {
        clean = λ clean. stays.clean (early clean);
        made = λ clean. committed_holds (content_of w) mid new false (holds (early clean)) (shown clean);
        settled = λ clean. (shown clean).now_is ∙ sym (shown clean).committed_is;
        ended = ended;
        refused = tt;
        crash = leaves (λ db. db ≡ mid.now.trees) stays survives (committed_book holds);
      }

  tables_undone : {T U : Type 0} {r : Result T Fault} (Commits : Trees → Type 0) → StaysInside begun mid r → Survives mid new Commits → (HasCleanDisk mid → IsSound w → (db : Trees) → Commits db → IsBookOf w db)
      → (HasCleanDisk new → IsRolledBack mid new) → (q : Result U Fault) (e : Fault) → IsErrAnd q (λ f. f ≡ e) → MakesTables w old new q
  tables_undone Commits stays survives written back (Ok y) e same = absurd same
  tables_undone Commits stays survives written back (Err f) e same = record {
    clean = λ clean. stays.clean (clean_before mid new survives.clean clean);
    made = λ clean. tt;
    settled = λ clean. tt;
    ended = tt;
    refused = keeps_undone old mid new Commits settled outside stays back survives ended;
    crash = leaves Commits stays survives written;
  }

  -- what was to be committed is undone
  pub tables_failed : {T U : Type 0} {x : T} → StaysInside {E = Fault} begun mid (Ok x) → (HasCleanDisk mid → Holds (content_of w) mid) → (HasCleanDisk new → IsRolledBack mid new)
      → Survives mid new (λ db. db ≡ mid.now.trees) → (q : Result U Fault) (e : Fault) → IsErrAnd q (λ f. f ≡ e) → MakesTables w old new q
  tables_failed stays holds back survives = tables_undone (λ db. db ≡ mid.now.trees) stays survives (committed_book holds) back

  pub tables_refused : {T U : Type 0} {r : Result T Fault} → StaysInside begun mid r → (HasCleanDisk new → IsRolledBack mid new) → Survives mid new (λ _. ⊥)
      → (q : Result U Fault) (e : Fault) → IsErrAnd q (λ f. f ≡ e) → MakesTables w old new q
  tables_refused stays back survives = tables_undone (λ _. ⊥) stays survives (λ early sound db never. absurd never) back
