-- Rows that are read one at a time, and what is the same where the tables are.
use Rattle.std.proofs.Common.{◌≡◌, inl, inr, ℕ, List, Ok, IsTrue, refl, sym, subst, ◌∙◌}
use Rattle.sqlite.specs.Order.{Row}
use Rattle.sqlite.specs.Clock.{timed}
use Rattle.sqlite.specs.Effect.{Database}
use Rattle.sqlite.specs.Listing.{understood, reads_listing, IsSourceOf}
use Rattle.sqlite.specs.State.{State, Shown, ShowsRows, Begins, IsUnchanged, IsRolledBack}
use Rattle.sqlite.proofs.Callers.{IsPlain, unchanged_then}
use Rattle.queue_tables.specs.Reads.{Answers, LeavesRows}

-- an open state is as it was
pub unchanged_open : (s : State) → IsTrue s.is_open → IsUnchanged s s
unchanged_open s live = (record { was_open = live; is_open = live; now_is = refl; committed_is = refl; mode = refl }, record { changes = refl; last_rowid = refl }, refl)

pub still_open : (old new : State) → IsUnchanged old new → IsTrue new.is_open
still_open old new same = same.0.is_open

left_back : (old mid now : State) → IsUnchanged old mid → IsRolledBack mid now → IsRolledBack old now
left_back old mid now same back = record {
  was_open = λ shown. same.0.was_open;
  undone = λ shown. ((back.undone shown).0 ∙ same.0.committed_is, (back.undone shown).1 ∙ same.0.committed_is);
  autocommit = back.autocommit;
  unmarked = back.unmarked;
  counts = record { changes = back.counts.changes ∙ same.1.changes; last_rowid = back.counts.last_rowid ∙ same.1.last_rowid };
}

-- what a read leaves of what was as before
pub left_then : (old mid now : State) → IsUnchanged old mid → LeavesRows mid now → LeavesRows old now
left_then old mid now same (inl kept) = inl (unchanged_then old mid now same kept)
left_then old mid now same (inr back) = inr (left_back old mid now same back)

pub plain_at : (sql : List ℕ) (first now : Database) → IsPlain (understood first.schema sql) → now ≡ first → IsPlain (understood now.schema sql)
plain_at sql first now plain same = subst (λ (d : Database). IsPlain (understood d.schema sql)) (sym same) plain

-- what is said of a state is said of one with the same tables
pub begins_at : (sql : List ℕ) (params : Row) (old new : State) (rows : List Row) → new.now ≡ old.now → Begins sql params new rows → Begins sql params old rows
unfolding Begins
begins_at sql params old new rows same h = (
  h.0,
  record { is = subst (λ (d : Database). understood d.schema sql ≡ Ok h.0) same h.1.is; whole = h.1.whole; given = h.1.given; now = h.1.now },
  h.2,
  h.3,
  subst (λ (d : Database). IsSourceOf (reads_listing d.schema sql) d h.3) same h.4,
  h.5,
)

pub answers_same : (sql : List ℕ) (params : Row) (old new : State) (rows : List Row) → new.now ≡ old.now → Answers sql params new rows → Answers sql params old rows
answers_same sql params old new rows same h = (
  h.0,
  record { is = subst (λ (d : Database). understood d.schema sql ≡ Ok h.0) same h.1.is; whole = h.1.whole; given = h.1.given; now = h.1.now },
  h.2,
  h.3,
  subst (λ (d : Database). IsSourceOf (reads_listing d.schema sql) d h.3) same h.4,
  h.5,
)

pub answers_at : (sql : List ℕ) (params : Row) (first old new : State) (rows : List Row) → IsPlain (understood old.now.schema sql) → old.now ≡ first.now → Shown sql params old new rows → Answers sql params first rows
unfolding Shown
answers_at sql params first old new rows plain same h =
    let none = (subst IsPlain h.1.is plain).0 in
    let it = subst (ShowsRows old new sql h.0 (timed params h.0.formats h.1.now) rows) none h.2 in
    answers_same sql params first old rows same (h.0, record { is = h.1.is; whole = h.1.whole; given = h.1.given; now = h.1.now }, none, it.0, it.1, it.2)
