-- A query whose rows are sent one at a time: each step, and the whole.
use Rattle.std.proofs.Common.{◌≡◌, ◌≢◌, inl, inr, ℕ, ◌+◌, ◌≤◌, false, List, [], ◌∷◌, ◌++◌, length, take, Option, Some, None, Result, Ok, Err, IsErrAnd, IsTrue, refl, sym, ◌∙◌, arith, length-append}
use Rattle.std.specs.Borrow.{Bor}
use Rattle.std.specs.Io.KnownBytes.{Appends}
use Rattle.std.proofs.KnownBytes.{Appends-nil, Appends-trans}
use Rattle.std.proofs.lemmas.List.{length-take-le}
use Rattle.std.proofs.lemmas.Result.{on_err_weaker}
use Rattle.sqlite.specs.declared.error.Error.{Error}
use Rattle.sqlite.specs.declared.error.Error.TheVariants.{SqliteFailure}
use Rattle.sqlite.specs.declared.error.ErrorCode.TheVariants.{OutOfMemory}
use Rattle.sqlite.specs.declared.rows.stream.Rows.{Rows}
use Rattle.sqlite.specs.Given.{HasBegun, HasGiven, IsPlain, IsRefused}
use Rattle.sqlite.specs.Held.{Held, state}
use Rattle.sqlite.specs.Listing.{understood}
use Rattle.sqlite.specs.Next.{HasMoved}
use Rattle.sqlite.specs.Order.{Row}
use Rattle.sqlite.specs.State.{State, Begins, CommitsShowing, HasCleanDisk, IsUnchanged, Survives}
use Rattle.sqlite.specs.Tree.{Trees}
use Rattle.sqlite.proofs.Callers.{begun_plain, given_begin, unchanged_then}
use Rattle.sqlite.proofs.StateLemmas.{survives_then, survives_weaker}
use Rattle.sqlite_trees.specs.declared.store.Store.{Ghosts}
use Rattle.queue_tables.specs.Faults.{read_fault}
use Rattle.queue_tables.specs.declared.fault.Fault.TheVariants.{Damaged, Disk}
use Rattle.queue_tables.proofs.Columns.{map_err}
use Rattle.queue_tables.proofs.Ending.{clean_before, on_ok, query_fails}
use Rattle.queue_tables.proofs.Leaving.{begun_unchanged, survives_all}
use Rattle.queue_tables.proofs.Queries.{query_never_commits}
use Rattle.queue_tables.proofs.Reading.{answers_at, begins_at, left_then, plain_at, still_open, unchanged_open}
use Rattle.queue_shown.specs.Sending.{SendsPieces, SendsRows}
use Rattle.queue_shown.specs.Sent.{HasBook, HasWritten, ShowsNoBlob, bytes_of, piece_bytes, pieces_select}
use Rattle.queue_shown.specs.declared.send.Stop.{Stop}
use Rattle.queue_shown.specs.declared.send.Stop.TheVariants.{Tables}
use Rattle.queue_shown.proofs.Damage.{at_stop}
use Rattle.queue_shown.proofs.Sending.{front_whole, pieces_plain_in, same_found, same_front, same_sent}
use Rattle.queue_shown.proofs.Texts.{select_pieces_is}
use Rattle.queue_shown.proofs.Writes.{front_of, one_more, written_on}

not_damaged : (e : Error) (stop : Stop) → stop ≡ Tables (read_fault e) → stop ≢ Tables Damaged
not_damaged (SqliteFailure OutOfMemory) stop is told = cc
not_damaged _ stop is told = cc

-- ---- the rows

-- where it commits nothing, a crash leaves nothing but what it left before
pub leaves_behind : {old new : State} → Survives old new (λ _. ⊥) → HasCleanDisk new → (db : Trees) → new.may_leave db → old.may_leave db
leaves_behind survives clean db may = elim (survives.crash clean db may) [ inl before ↦ before | inr none ↦ absurd none ]

-- the rows that were given were written, over tables that stayed as they were
pub record HasSentRows {S : Type 0} (g : Ghosts S) (old new : Held S) (before after : Option (List ℕ)) (written : ℕ) : Type 0 where
  pub survives : Survives (state g old) (state g new) (λ _. ⊥)
  pub mode : old.in_transaction ≡ false → new.in_transaction ≡ false
  pub same : HasCleanDisk (state g new) → IsTrue (state g old).is_open → IsUnchanged (state g old) (state g new)
  pub sent : HasCleanDisk (state g new) → (params : Row) → HasGiven g pieces_select params old [] → (given : List Row) × HasGiven g pieces_select params new given × Appends before after (bytes_of given) × (written ≡ length (bytes_of given))
  pub counted : HasWritten before after written

pub none_sent : {S : Type 0} (g : Ghosts S) (h : Held S) (a : Option (List ℕ)) (k : ℕ) → k ≡ 0 → HasSentRows g h h a a k
none_sent g h a k none = record {
  survives = survives_all (state g h);
  mode = λ outside. outside;
  same = λ clean live. unchanged_open (state g h) live;
  sent = λ clean params given. ([], given, Appends-nil a, none);
  counted = ([], sym none, Appends-nil a);
}

module _ {S : Type 0} (g : Ghosts S) (first : Held S) (at : Rows S g) (a b : Option (List ℕ)) (k : ℕ) (so : HasSentRows g first at.conn.now a b k) where
  begun_at : HasCleanDisk (state g at.conn.now) → IsTrue (state g first).is_open → (params : Row) (rows : List Row) → HasGiven g pieces_select params at.conn.now rows → Begins pieces_select params (state g first) rows
  begun_at clean live params rows was = begins_at pieces_select params (state g first) (state g at.conn.now) rows (so.same clean live).0.now_is (given_begin g pieces_select params at.conn.now rows was)

  -- it goes on too long
  pub too_long : {T : Type 0} → SendsRows {T = T} g first at.conn.now (Err (Tables Disk)) a b k
  too_long = record {
    survives = so.survives;
    mode = so.mode;
    same = λ clean live. tt;
    writer_failed = λ clean live unwritten. absurd cc;
    left = λ clean live. inl (so.same clean live);
    sent = λ clean live params plain begun. tt;
    front = λ clean live params begun.
        let was = so.sent clean params begun in
        front_whole params (state g first) a b was.0 k (begun_at clean live params was.0 was.1) was.2 was.3;
    damaged = λ clean live params begun told. absurd cc;
    counted = so.counted;
  }

  module _ (now : Rows S g) where
    through : Survives (state g at.conn.now) (state g now.conn.now) (λ _. ⊥) → Survives (state g first) (state g now.conn.now) (λ _. ⊥)
    through survives = survives_then (state g first) (state g at.conn.now) (state g now.conn.now) (λ _. ⊥) (λ _. ⊥) (λ _. ⊥) (λ clean db none. none) (λ clean db none. none) so.survives survives

    earlier : Survives (state g at.conn.now) (state g now.conn.now) (λ _. ⊥) → HasCleanDisk (state g now.conn.now) → HasCleanDisk (state g at.conn.now)
    earlier survives = clean_before (state g at.conn.now) (state g now.conn.now) survives.clean

    -- the query fails
    pub no_row : {T : Type 0} (e : Error) (r : Result T Stop) → IsErrAnd r (λ s. s ≡ Tables (read_fault e)) → HasMoved g at (Err e) now → SendsRows g first now.conn.now r a b k
    no_row e (Ok x) is moved = absurd is
    no_row e (Err stop) is moved = record {
      survives = through moved.survives;
      mode = λ outside. moved.mode (so.mode outside);
      same = λ clean live. tt;
      writer_failed = λ clean live unwritten. absurd cc;
      left = λ clean live. left_then (state g first) (state g at.conn.now) (state g now.conn.now) (so.same (earlier moved.survives clean) live) (elim (moved.kept clean) [ inl failed ↦ inr failed.3 | inr same ↦ inl same ]);
      sent = λ clean live params plain begun. tt;
      front = λ clean live params begun.
          let was = so.sent (earlier moved.survives clean) params begun in
          front_whole params (state g first) a b was.0 k (begun_at (earlier moved.survives clean) live params was.0 was.1) was.2 was.3;
      damaged = λ clean live params begun told. absurd (not_damaged e stop is told);
      counted = so.counted;
    }

    -- all were sent
    pub no_more : {T : Type 0} (x : T) → HasMoved g at (Ok None) now → SendsRows g first now.conn.now (Ok x) a b k
    no_more x moved = record {
      survives = through moved.survives;
      mode = λ outside. moved.mode (so.mode outside);
      same = λ clean live. kept clean live;
      writer_failed = λ clean live. tt;
      left = λ clean live. inl (kept clean live);
      sent = λ clean live params plain begun.
          let was = so.sent (earlier moved.survives clean) params begun in
          let same = (so.same (earlier moved.survives clean) live).0.now_is in record {
            rows = was.0;
            all = answers_at pieces_select params (state g first) (state g at.conn.now) (state g now.conn.now) was.0 (plain_at pieces_select (state g first).now (state g at.conn.now).now plain same) same (moved.ok clean pieces_select params was.0 was.1);
            appends = was.2;
            count = was.3;
          };
      front = λ clean live params begun. tt;
      damaged = λ clean live params begun. tt;
      counted = so.counted;
    }
      where
        kept : HasCleanDisk (state g now.conn.now) → IsTrue (state g first).is_open → IsUnchanged (state g first) (state g now.conn.now)
        kept clean live = unchanged_then (state g first) (state g at.conn.now) (state g now.conn.now) (so.same (earlier moved.survives clean) live) (moved.same clean)

    -- one more row
    module _ (row : Bor Row) (moved : HasMoved g at (Ok (Some row)) now) (c : Option (List ℕ)) (written : ℕ) where
      kept : HasCleanDisk (state g now.conn.now) → IsTrue (state g first).is_open → IsUnchanged (state g first) (state g now.conn.now)
      kept clean live = unchanged_then (state g first) (state g at.conn.now) (state g now.conn.now) (so.same (earlier moved.survives clean) live) (moved.same clean)

      begins : HasCleanDisk (state g now.conn.now) → IsTrue (state g first).is_open → (params : Row) (rows : List Row) → HasGiven g pieces_select params at.conn.now rows → Begins pieces_select params (state g first) (rows ++ row.now ∷ [])
      begins clean live params rows was =
          begins_at pieces_select params (state g first) (state g now.conn.now) (rows ++ row.now ∷ []) (kept clean live).0.now_is (given_begin g pieces_select params now.conn.now (rows ++ row.now ∷ []) (moved.ok clean pieces_select params rows was))

      pub more_sent : Appends b c (piece_bytes row.now) × (written ≡ k + length (piece_bytes row.now)) → HasSentRows g first now.conn.now a c written
      more_sent whole = record {
        survives = through moved.survives;
        mode = λ outside. moved.mode (so.mode outside);
        same = kept;
        sent = λ clean params begun.
            let was = so.sent (earlier moved.survives clean) params begun in (
              was.0 ++ row.now ∷ [],
              moved.ok clean pieces_select params was.0 was.1,
              rw (one_more was.0 row.now) (Appends-trans _ _ _ _ _ was.2 whole.0),
              rw (one_more was.0 row.now) (omega (arith, length-append (bytes_of was.0) (piece_bytes row.now), was.3, whole.1)),
            );
        counted = written_on a b c k (length (piece_bytes row.now)) written (piece_bytes row.now) so.counted refl whole.0 whole.1;
      }

      -- which is not sent whole
      pub cut_off : {T : Type 0} (stop : Stop) (r : Result T Stop) → IsErrAnd r (λ s. s ≡ stop) → (stop ≡ Tables Damaged → ShowsNoBlob row.now)
          → (n : ℕ) × (n ≤ length (piece_bytes row.now)) × Appends b c (take n (piece_bytes row.now)) × (written ≡ k + n) → SendsRows g first now.conn.now r a c written
      cut_off stop (Ok x) is bare part = absurd is
      cut_off stop (Err s) is bare part = record {
        survives = through moved.survives;
        mode = λ outside. moved.mode (so.mode outside);
        same = λ clean live. tt;
        writer_failed = λ clean live unwritten. kept clean live;
        left = λ clean live. inl (kept clean live);
        sent = λ clean live params plain begun. tt;
        front = λ clean live params begun.
            let was = so.sent (earlier moved.survives clean) params begun in
            front_of params (state g first) a b c was.0 row.now k part.0 written (begins clean live params was.0 was.1) was.2 was.3 part.1 part.2 part.3;
        damaged = λ clean live params begun told.
            let was = so.sent (earlier moved.survives clean) params begun in
            record { before = was.0; row = row.now; there = begins clean live params was.0 was.1; bare = bare (sym is ∙ told) };
        counted = written_on a b c k part.0 written (take part.0 (piece_bytes row.now)) so.counted (length-take-le part.0 (piece_bytes row.now) part.1) part.2 part.3;
      }

-- ---- the query and its rows

module _ {S T : Type 0} (g : Ghosts S) (params : Row) (old : Held S) (r : Result T Stop) (a : Option (List ℕ)) where
  -- it does not begin
  pub not_begun : {X : Type 0} (new : Held S) (e : Error) (written : ℕ) → IsErrAnd r (λ s. s ≡ Tables (read_fault e)) → written ≡ 0 → IsRefused g {X = X} pieces_select params old (Err e) new → SendsPieces (state g old) (state g new) r params a a written
  not_begun new e written is none refused = at r is
    where
      at : (r : Result T Stop) → IsErrAnd r (λ s. s ≡ Tables (read_fault e)) → SendsPieces (state g old) (state g new) r params a a written
      at (Ok x) is = absurd is
      at (Err stop) is = record {
        survives = survives_weaker (state g old) (state g new) (CommitsShowing pieces_select params (state g old)) (λ _. ⊥) (λ clean db commits. query_never_commits pieces_select params (state g old) db select_pieces_is.shows.query commits) refused.survives;
        mode = refused.mode;
        live = λ clean. tt;
        writer_failed = λ clean unwritten. absurd cc;
        left = λ clean. query_fails pieces_select params (state g old) (state g new) e (refused.err clean);
        sent = λ fits clean. tt;
        front = λ fits clean. record { bytes = []; appends = Appends-nil a; count = none; front = inl refl };
        damaged = λ fits clean told. absurd (not_damaged e stop is told);
        was_open = λ clean told. absurd (not_damaged e stop is told);
        counted = ([], sym none, Appends-nil a);
      }

  -- what its rows are sent as
  pub begun_sent : (first new : Held S) (b : Option (List ℕ)) (written : ℕ) → (HasCleanDisk (state g first) → HasBegun g pieces_select params old first) → (old.in_transaction ≡ false → first.in_transaction ≡ false)
      → Survives (state g old) (state g first) (CommitsShowing pieces_select params (state g old)) → SendsRows g first new r a b written → SendsPieces (state g old) (state g new) r params a b written
  begun_sent first new b written begun mode survives sends = record {
    survives = survives_then (state g old) (state g first) (state g new) (CommitsShowing pieces_select params (state g old)) (λ _. ⊥) (λ _. ⊥) (λ clean db commits. query_never_commits pieces_select params (state g old) db select_pieces_is.shows.query commits) (λ clean db none. none) survives sends.survives;
    mode = λ outside. sends.mode (mode outside);
    live = λ clean. on_ok r _ _ (still_open (state g first) (state g new)) (sends.same clean (live clean));
    writer_failed = λ clean. map_err r _ _ (λ stop told unwritten. still_open (state g first) (state g new) (told unwritten)) (sends.writer_failed clean (live clean));
    left = λ clean. left_then (state g old) (state g first) (state g new) (same clean) (sends.left clean (live clean));
    sent = λ fits clean. on_ok r _ _ (same_sent params (state g old) (state g first) a b written (same clean).0.now_is) (sends.sent clean (live clean) params (plain_at pieces_select (state g old).now (state g first).now (plain fits clean) (same clean).0.now_is) (given fits clean));
    front = λ fits clean. on_err_weaker r (same_front params (state g old) (state g first) a b written (same clean).0.now_is) (sends.front clean (live clean) params (given fits clean));
    damaged = λ fits clean. map_err r _ _ (λ stop told damaged. same_found params (state g old) (state g first) (same clean).0.now_is (told damaged)) (sends.damaged clean (live clean) params (given fits clean));
    was_open = λ clean. at_stop r (Tables Damaged) (same clean).0.was_open;
    counted = sends.counted;
  }
    where
      mid : HasCleanDisk (state g new) → HasCleanDisk (state g first)
      mid = clean_before (state g first) (state g new) sends.survives.clean

      same : HasCleanDisk (state g new) → IsUnchanged (state g old) (state g first)
      same clean = begun_unchanged g pieces_select params old first select_pieces_is.shows.query (begun (mid clean))

      live : HasCleanDisk (state g new) → IsTrue (state g first).is_open
      live clean = (same clean).0.is_open

      plain : HasBook (state g old) → HasCleanDisk (state g new) → IsPlain (understood (state g old).now.schema pieces_select)
      plain fits clean = pieces_plain_in (state g old).now.schema (fits (clean_before (state g old) (state g first) survives.clean (mid clean)))

      given : HasBook (state g old) → HasCleanDisk (state g new) → HasGiven g pieces_select params first []
      given fits clean = (begun_plain g pieces_select params old first (plain fits clean) (begun (mid clean))).0
