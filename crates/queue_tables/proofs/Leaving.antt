-- What a SELECT leaves, whatever it shows.
use Rattle.std.proofs.Common.{◌≡◌, ◌⊎◌, Bool, true, false, not, arith, List, ℕ, Option, None, Some, IsTrue, Result, Ok, Err, IfOk, IfErr, inl, inr, refl, sym, ◌∙◌}
use Rattle.sqlite.specs.declared.error.Error.{Error}
use Rattle.sqlite.specs.Given.{HasBegun}
use Rattle.sqlite.specs.Held.{Held, state}
use Rattle.sqlite.specs.State.{State, HasCleanDisk, IsUnchanged, IsRolledBack, FailsToQuery, Shown, ShowsRows, Survives, CommitsShowing}
use Rattle.sqlite.specs.Tree.{Trees}
use Rattle.sqlite.specs.Order.{Row}
use Rattle.sqlite.specs.Clock.{timed}
use Rattle.sqlite_resolve.specs.declared.compiled.Compiled.{Compiled}
use Rattle.sqlite_schema.specs.declared.command.Returning.{Returning}
use Rattle.sqlite_trees.specs.declared.store.Store.{Ghosts}
use Rattle.queue_tables.specs.Content.{Content, HoldNoQueue, Holds, content_of}
use Rattle.queue_tables.specs.Queries.{IsQueryText}
use Rattle.queue_tables.proofs.Ending.{clean_before, query_fails, same_holds}
use Rattle.queue_tables.proofs.Queries.{query_changes_nothing, query_is_bare, query_never_commits}
use Rattle.queue_tables.specs.Leaving.{KeepsServing, LeavesTables}

-- nothing is done
pub serves_all : (s : State) → KeepsServing s s
serves_all s = record { limit = refl; counts = omega arith; closes = λ clean live. inl live }

pub survives_all : (s : State) → Survives s s (λ _. ⊥)
survives_all s = record {
  clean = omega arith;
  shield = λ shielded. shielded;
  counts = omega arith;
  limit = refl;
  closes = λ clean live. inl live;
  crash = λ clean db may. inl may;
}

pub leaves_all : (s : State) → LeavesTables s s
leaves_all s = record {
  clean = λ clean. clean;
  opened = λ clean live. live;
  same = λ clean live. refl;
  committed = λ clean live. refl;
  left = λ clean db may. may;
  mode = refl;
  serves = serves_all s;
}

-- one after another
pub serves_then : (a b c : State) → (HasCleanDisk c → HasCleanDisk b) → KeepsServing a b → KeepsServing b c → KeepsServing a c
serves_then a b c mid first last = record {
  limit = last.limit ∙ first.limit;
  counts = omega (arith, first.counts, last.counts);
  closes = λ clean live. elim (first.closes (mid clean) live) [
    | inl still ↦ elim (last.closes clean still) [ inl shown ↦ inl shown | inr more ↦ inr (omega (arith, first.counts, more)) ]
    | inr more ↦ inr (omega (arith, last.counts, more))
  ];
}

pub leaves_then : (a b c : State) → LeavesTables a b → LeavesTables b c → LeavesTables a c
leaves_then a b c first last = record {
  clean = λ clean. first.clean (last.clean clean);
  opened = λ clean live. first.opened (last.clean clean) (last.opened clean live);
  same = λ clean live. last.same clean live ∙ first.same (last.clean clean) (last.opened clean live);
  committed = λ clean live. last.committed clean live ∙ first.committed (last.clean clean) (last.opened clean live);
  left = λ clean db may. first.left (last.clean clean) db (last.left clean db may);
  mode = last.mode ∙ first.mode;
  serves = serves_then a b c last.clean first.serves last.serves;
}

-- where rows are shown, the connection is open
pub shown_live : (sql : List ℕ) (params : Row) (old new : State) (rows : List Row) → Shown sql params old new rows → IsTrue new.is_open
unfolding Shown
shown_live sql params old new rows h = at h.0 (timed params h.0.formats h.1.now) h.0.returning h.2
  where
    at : (c : Compiled) (given : Row) (r : Option Returning) → ShowsRows old new sql c given rows r → IsTrue new.is_open
    at c given None it = it.3.0.is_open
    at c given (Some what) it = it.1.shown.is_open

-- what the tables held they hold, where the connection is open still
pub holds_after : {old new : State} → LeavesTables old new → HasCleanDisk new → (c : Content) → Holds c old → IsTrue new.is_open → Holds c new
holds_after {old} {new} leaves clean c has live = same_holds c old new has (leaves.same clean live) live

-- and what they hold they held
pub held_by : {old new : State} → LeavesTables old new → HasCleanDisk new → (c : Content) → Holds c new → Holds c old
held_by {old} {new} leaves clean c has = same_holds c new old has (sym (leaves.same clean has.live)) (leaves.opened clean has.live)

-- tables that hold no queue held none
pub none_before : {old new : State} → LeavesTables old new → HasCleanDisk new → HoldNoQueue new → HoldNoQueue old
none_before leaves clean hold = record {
  live = leaves.opened clean hold.live;
  none = λ w sound has. hold.none w sound (holds_after leaves clean (content_of w) has hold.live);
}

-- so it is behind a call of the connection
pub survives_serves : (old new : State) (Commits : Trees → Type 0) → Survives old new Commits → KeepsServing old new
survives_serves old new Commits survives = record { limit = survives.limit; counts = survives.counts; closes = survives.closes }

-- outside a transaction: nothing is changed, or what was begun is undone
pub left_leaves : (old new : State) → (IsTrue old.is_open → old.now ≡ old.committed) → (HasCleanDisk new → HasCleanDisk old) → (HasCleanDisk new → (db : Trees) → new.may_leave db → old.may_leave db)
    → new.in_transaction ≡ old.in_transaction → KeepsServing old new → (HasCleanDisk new → IsUnchanged old new ⊎ IsRolledBack old new) → LeavesTables old new
left_leaves old new settled early behind mode serves left = record {
  clean = early;
  opened = λ clean live. opened (left clean) live;
  same = λ clean live. same (left clean) live;
  committed = λ clean live. committed (left clean) live;
  left = behind;
  mode = mode;
  serves = serves;
}
  where
    opened : IsUnchanged old new ⊎ IsRolledBack old new → IsTrue new.is_open → IsTrue old.is_open
    opened (inl unchanged) live = unchanged.0.was_open
    opened (inr back) live = back.was_open live

    same : IsUnchanged old new ⊎ IsRolledBack old new → IsTrue new.is_open → new.now ≡ old.now
    same (inl unchanged) live = unchanged.0.now_is
    same (inr back) live = (back.undone live).0 ∙ sym (settled (back.was_open live))

    committed : IsUnchanged old new ⊎ IsRolledBack old new → IsTrue new.is_open → new.committed ≡ old.committed
    committed (inl unchanged) live = unchanged.0.committed_is
    committed (inr back) live = (back.undone live).1

-- outside a transaction it is where it began none
pub still_outside : (before after outside : Bool) → outside ≡ not before → IsTrue outside → (before ≡ false → after ≡ false) → after ≡ before
still_outside true after outside is out keeps = absurd (let both = sym out ∙ is in cc)
still_outside false after outside is out keeps = keeps refl

-- what a query may commit is nothing
pub query_stays : (sql : List ℕ) (params : Row) (old new : State) → IsQueryText sql → Survives old new (CommitsShowing sql params old) → HasCleanDisk new → (db : Trees) → new.may_leave db → old.may_leave db
query_stays sql params old new query survives clean db may = elim (survives.crash clean db may) [
  | inl before ↦ before
  | inr commits ↦ absurd (query_never_commits sql params old db query commits)
]

module _ {R : Type 0} (shows : R → List Row) (sql : List ℕ) (params : Row) (old new : State) (query : IsQueryText sql) where
  left_by : (r : Result R Error) → IfOk r (λ rows. Shown sql params old new (shows rows)) → IfErr r (FailsToQuery sql params old new) → IsUnchanged old new ⊎ IsRolledBack old new
  left_by (Ok rows) ok err = inl (query_changes_nothing sql params old new (shows rows) query ok)
  left_by (Err e) ok err = query_fails sql params old new e err

  pub query_leaves_tables : (r : Result R Error) → (IsTrue old.is_open → old.now ≡ old.committed) → Survives old new (CommitsShowing sql params old) → new.in_transaction ≡ old.in_transaction
      → (HasCleanDisk new → IfOk r (λ rows. Shown sql params old new (shows rows))) → (HasCleanDisk new → IfErr r (FailsToQuery sql params old new)) → LeavesTables old new
  query_leaves_tables r settled survives mode ok err =
      left_leaves old new settled (clean_before old new survives.clean) (query_stays sql params old new query survives) mode (survives_serves old new (CommitsShowing sql params old) survives)
      (λ clean. left_by r (ok clean) (err clean))

-- a query that begins writes nothing
pub begun_unchanged : {S : Type 0} (g : Ghosts S) (sql : List ℕ) (params : Row) (old new : Held S) → IsQueryText sql → HasBegun g sql params old new → IsUnchanged (state g old) (state g new)
begun_unchanged g sql params old new query (inl h) = h.1
begun_unchanged g sql params old new query (inr h) = query_changes_nothing sql params (state g old) (state g new) _ query h.1

-- ---- a SELECT shows the same over a connection that stays as it was

still : (old new : State) → IsUnchanged old new → IsUnchanged old old
still old new same = (
  record { was_open = same.0.was_open; is_open = same.0.was_open; now_is = refl; committed_is = refl; mode = refl },
  record { changes = refl; last_rowid = refl },
  refl,
)

pub shown_still : (sql : List ℕ) (params : Row) (old new : State) (rows : List Row) → IsQueryText sql → Shown sql params old new rows → Shown sql params old old rows
unfolding Shown
shown_still sql params old new rows query h =
    let bare = query_is_bare old.now.schema sql h.0 query h.1.is in
    let it = rw bare at h.2 in
    (h.0, h.1, rw bare (it.0, it.1, it.2, still old new it.3))
