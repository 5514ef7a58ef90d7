use Rattle.std.proofs.Common.{rules, ◌≡◌, ◌∙◌, IsTrue, refl, sym}
use Rattle.std.proofs.lemmas.Bool.{not-true}
use Rattle.sqlite.specs.State.{HasCleanDisk, IsRolledBack}
use Rattle.sqlite.specs.Held.{state}
use Rattle.queue_tables.proofs.Ending.{clean_before, not_inside}
use Rattle.queue_store.proofs.Making.{none_made, tables_failed, tables_made, tables_refused}
use Rattle.queue_store.proofs.Taken.{held_begun}
use Rattle.queue_store.proofs.Results.{on_any_err}
use Rattle.queue_store.proofs.Unmade.{commit_undone, keeps_all, keeps_undone}
use Rattle.queue_store.specs.Older.{version_of}
use Rattle.queue_store.proofs.migrate.migrate.Goals as goal

pub returns-then-not-is_autocommit-clause-kept : goal.returns-then-not-is_autocommit-clause-kept
returns-then-not-is_autocommit-clause-kept g c = keeps_all (state g.S.Store c.args.conn.now)

pub returns-clause-clean : goal.returns-clause-clean
returns-clause-clean g c =
    let tie : c.conn-2-1.given.0 ≡ c.commit.new.self.0 = search rules in
    let mid = state g.S.Store c.migrate_all.new.tx.conn.now in
    let new = state g.S.Store c.commit.new.self.0 in
    let stays = rw c.transaction-tx.ensures.begun at c.in_ok-migrate_all.ensures.stays in
    rw tie (λ clean. stays.clean (clean_before mid new c.commit.ensures.survives.clean clean))

pub returns-in_err-commit-clause-clean : goal.returns-in_err-commit-clause-clean
returns-in_err-commit-clause-clean g c =
    let tie : c.conn-2-1.given.0 ≡ c.commit.new.self.0 = search rules in
    let mid = state g.S.Store c.migrate_all.new.tx.conn.now in
    let new = state g.S.Store c.commit.new.self.0 in
    let stays = rw c.transaction-tx.ensures.begun at c.in_ok-migrate_all.ensures.stays in
    rw tie (λ clean. stays.clean (clean_before mid new c.commit.ensures.survives.clean clean))

pub returns-in_err-migrate_all-clause-clean : goal.returns-in_err-migrate_all-clause-clean
returns-in_err-migrate_all-clause-clean g c =
    let tie : c.conn-1.given.0 ≡ c.drop-tx.new.self.0 = search rules in
    let mid = state g.S.Store c.migrate_all.new.tx.conn.now in
    let new = state g.S.Store c.drop-tx.new.self.0 in
    let stays = rw c.transaction-tx.ensures.begun at c.in_err-migrate_all.ensures.stays in
    rw tie (λ clean. stays.clean (clean_before mid new c.drop-tx.ensures.survives.clean clean))

pub returns-in_err-commit-clause-kept : goal.returns-in_err-commit-clause-kept
returns-in_err-commit-clause-kept g c =
    let tie : c.conn-2-1.given.0 ≡ c.commit.new.self.0 = search rules in
    let outside : IsTrue c.is_autocommit.result = search rules in
    let old = state g.S.Store c.args.conn.now in
    let mid = state g.S.Store c.migrate_all.new.tx.conn.now in
    let new = state g.S.Store c.commit.new.self.0 in
    let stays = rw c.transaction-tx.ensures.begun at c.in_ok-migrate_all.ensures.stays in
    let back : HasCleanDisk new → IsRolledBack mid new = λ clean. commit_undone mid new _ (stays.inside (clean_before mid new c.commit.ensures.survives.clean clean) refl) (c.in_err-commit.ensures.err clean) in
    rw tie (on_any_err _ _ (keeps_undone old mid new (λ db. db ≡ mid.now.trees) (c.is_autocommit.ensures.settled outside) (not-true _ (sym c.is_autocommit.ensures.value ∙ outside)) stays back c.commit.ensures.survives c.commit.ensures.ended))

pub returns-in_err-migrate_all-clause-kept : goal.returns-in_err-migrate_all-clause-kept
returns-in_err-migrate_all-clause-kept g c =
    let tie : c.conn-1.given.0 ≡ c.drop-tx.new.self.0 = search rules in
    let outside : IsTrue c.is_autocommit.result = search rules in
    let old = state g.S.Store c.args.conn.now in
    let mid = state g.S.Store c.migrate_all.new.tx.conn.now in
    let new = state g.S.Store c.drop-tx.new.self.0 in
    let stays = rw c.transaction-tx.ensures.begun at c.in_err-migrate_all.ensures.stays in
    rw tie (on_any_err _ _ (keeps_undone old mid new (λ _. ⊥) (c.is_autocommit.ensures.settled outside) (not-true _ (sym c.is_autocommit.ensures.value ∙ outside)) stays c.drop-tx.ensures.undone c.drop-tx.ensures.survives c.drop-tx.ensures.ended))

pub returns-then-not-is_autocommit-clause-makes : goal.returns-then-not-is_autocommit-clause-makes
returns-then-not-is_autocommit-clause-makes g c = λ w fits has. none_made w (state g.S.Store c.args.conn.now) _ _ refl

pub returns-clause-makes : goal.returns-clause-makes
returns-clause-makes g c = λ w fits has.
    let tie : c.conn-2-1.given.0 ≡ c.commit.new.self.0 = search rules in
    let outside : IsTrue c.is_autocommit.result = search rules in
    let old = state g.S.Store c.args.conn.now in
    let mid = state g.S.Store c.migrate_all.new.tx.conn.now in
    let new = state g.S.Store c.commit.new.self.0 in
    let stays = rw c.transaction-tx.ensures.begun at c.in_ok-migrate_all.ensures.stays in
    let done = rw c.transaction-tx.ensures.begun at c.in_ok-migrate_all.ensures.done in
    rw tie (tables_made w old mid new (c.is_autocommit.ensures.settled outside) (not-true _ (sym c.is_autocommit.ensures.value ∙ outside)) c.commit.ensures.ended _ stays (λ clean. done clean w fits (held_begun (version_of c.args.version) w old has)) (λ clean. (c.in_ok-commit.ensures.ok clean).1) c.commit.ensures.survives)

pub returns-in_err-commit-clause-makes : goal.returns-in_err-commit-clause-makes
returns-in_err-commit-clause-makes g c = λ w fits has.
    let tie : c.conn-2-1.given.0 ≡ c.commit.new.self.0 = search rules in
    let outside : IsTrue c.is_autocommit.result = search rules in
    let old = state g.S.Store c.args.conn.now in
    let mid = state g.S.Store c.migrate_all.new.tx.conn.now in
    let new = state g.S.Store c.commit.new.self.0 in
    let stays = rw c.transaction-tx.ensures.begun at c.in_ok-migrate_all.ensures.stays in
    let done = rw c.transaction-tx.ensures.begun at c.in_ok-migrate_all.ensures.done in
    let back : HasCleanDisk new → IsRolledBack mid new = λ clean. commit_undone mid new _ (stays.inside (clean_before mid new c.commit.ensures.survives.clean clean) refl) (c.in_err-commit.ensures.err clean) in
    rw tie (tables_failed w old mid new (c.is_autocommit.ensures.settled outside) (not-true _ (sym c.is_autocommit.ensures.value ∙ outside)) c.commit.ensures.ended stays (λ clean. done clean w fits (held_begun (version_of c.args.version) w old has)) back c.commit.ensures.survives _ _ c.from_residual-in_err-commit.ensures.1)

pub returns-in_err-migrate_all-clause-makes : goal.returns-in_err-migrate_all-clause-makes
returns-in_err-migrate_all-clause-makes g c = λ w fits has.
    let tie : c.conn-1.given.0 ≡ c.drop-tx.new.self.0 = search rules in
    let outside : IsTrue c.is_autocommit.result = search rules in
    let old = state g.S.Store c.args.conn.now in
    let mid = state g.S.Store c.migrate_all.new.tx.conn.now in
    let new = state g.S.Store c.drop-tx.new.self.0 in
    let stays = rw c.transaction-tx.ensures.begun at c.in_err-migrate_all.ensures.stays in
    rw tie (tables_refused w old mid new (c.is_autocommit.ensures.settled outside) (not-true _ (sym c.is_autocommit.ensures.value ∙ outside)) c.drop-tx.ensures.ended stays c.drop-tx.ensures.undone c.drop-tx.ensures.survives _ _ c.from_residual.ensures.1)

pub returns-clause-inside : goal.returns-clause-inside
returns-clause-inside g c = not_inside c.is_autocommit.result (state g.S.Store c.args.conn.now).in_transaction c.is_autocommit.ensures.value (search rules)

pub returns-in_err-commit-clause-inside : goal.returns-in_err-commit-clause-inside
returns-in_err-commit-clause-inside g c = not_inside c.is_autocommit.result (state g.S.Store c.args.conn.now).in_transaction c.is_autocommit.ensures.value (search rules)

pub returns-in_err-migrate_all-clause-inside : goal.returns-in_err-migrate_all-clause-inside
returns-in_err-migrate_all-clause-inside g c = not_inside c.is_autocommit.result (state g.S.Store c.args.conn.now).in_transaction c.is_autocommit.ensures.value (search rules)
