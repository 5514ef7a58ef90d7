-- A query inside a transaction.
use Rattle.std.proofs.Common.{◌⊎◌, inl, inr, List, ℕ, Option, None, Some, IsTrue, Bool, Result, Ok, Err, IfOk, IfErr, if◌then◌else◌, ap, ◌∙◌}
use Rattle.sqlite.specs.declared.error.Error.{Error}
use Rattle.sqlite.specs.State.{State, HasCleanDisk, Survives, KeepsCommit, IsRolledBack, IsUnchanged, FailsToQuery, IsTooLate, Shown, ShowsRows}
use Rattle.sqlite.specs.Order.{Row}
use Rattle.sqlite.specs.Clock.{timed}
use Rattle.sqlite_resolve.specs.declared.compiled.Compiled.{Compiled}
use Rattle.sqlite_schema.specs.declared.command.Returning.{Returning}
use Rattle.queue_tables.specs.Leaving.{KeepsBehind}
use Rattle.queue_tables.proofs.Ending.{query_fails}

unchanged_kept : (old new : State) → IsUnchanged old new → KeepsCommit old new
unchanged_kept old new same = record { was_open = λ _. same.0.was_open; committed = λ _. same.0.committed_is }

back_kept : (old new : State) → IsRolledBack old new → KeepsCommit old new
back_kept old new back = record { was_open = back.was_open; committed = λ is_open. (back.undone is_open).1 }

shown_kept : (sql : List ℕ) (params : Row) (old new : State) (rows : List Row) → Shown sql params old new rows → IsTrue old.in_transaction → KeepsCommit old new × IsTrue new.in_transaction
unfolding Shown
shown_kept sql params old new rows h inside = at h.0 (timed params h.0.formats h.1.now) h.0.returning h.2
  where
    at : (c : Compiled) (given : Row) (r : Option Returning) → ShowsRows old new sql c given rows r → KeepsCommit old new × IsTrue new.in_transaction
    at c given None it = (unchanged_kept old new it.3, it.3.0.mode ∙ inside)
    at c given (Some what) it =
        let s = it.1.shown in
        (record { was_open = λ _. s.was_open; committed = λ _. s.committed_is ∙ ap (λ (b : Bool). if b then old.committed else new.now) inside }, s.mode ∙ inside)

query_commits_none : {R : Type 0} (shows : R → List Row) (sql : List ℕ) (params : Row) (old new : State) (r : Result R Error) → IfOk r (λ rows. Shown sql params old new (shows rows))
    → IfErr r (λ e. FailsToQuery sql params old new e ⊎ IsTooLate sql params old new e) → IsTrue old.in_transaction → KeepsCommit old new
query_commits_none shows sql params old new (Ok rows) ok err inside = (shown_kept sql params old new (shows rows) ok inside).0
query_commits_none shows sql params old new (Err e) ok (inl failed) inside = at (query_fails sql params old new e failed)
  where
    at : IsUnchanged old new ⊎ IsRolledBack old new → KeepsCommit old new
    at (inl same) = unchanged_kept old new same
    at (inr back) = back_kept old new back
query_commits_none shows sql params old new (Err e) ok (inr late) inside = absurd (let no = late.3 in cc)

-- whatever it answers, it commits nothing
pub query_keeps : {R : Type 0} (shows : R → List Row) (sql : List ℕ) (params : Row) (old new : State) (r : Result R Error) → Survives old new (λ _. ⊥) → HasCleanDisk new
    → IfOk r (λ rows. Shown sql params old new (shows rows)) → IfErr r (λ e. FailsToQuery sql params old new e ⊎ IsTooLate sql params old new e) → IsTrue old.in_transaction → KeepsBehind old new
query_keeps shows sql params old new r survives clean ok err inside =
    let kept = query_commits_none shows sql params old new r ok err inside in
    record { was_open = kept.was_open; committed = kept.committed; left = λ db may. elim (survives.crash clean db may) [ inl before ↦ before | inr none ↦ absurd none ] }

pub shown_inside : (sql : List ℕ) (params : Row) (old new : State) (rows : List Row) → Shown sql params old new rows → IsTrue old.in_transaction → IsTrue new.in_transaction
shown_inside sql params old new rows h inside = (shown_kept sql params old new rows h inside).1
