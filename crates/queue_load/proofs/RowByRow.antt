-- A query whose rows are read one at a time: each step, and the whole.
use Rattle.std.proofs.Common.{◌≡◌, ◌≢◌, inl, inr, ℕ, false, List, [], ◌∷◌, ◌++◌, Option, Some, None, Result, Ok, Err, IsErrAnd, IsTrue, Vec, sym, ◌∙◌}
use Rattle.std.specs.Borrow.{Bor}
use Rattle.sqlite.specs.declared.error.Error.{Error}
use Rattle.sqlite.specs.declared.error.Error.TheVariants.{SqliteFailure}
use Rattle.sqlite.specs.declared.error.ErrorCode.TheVariants.{OutOfMemory}
use Rattle.sqlite.specs.declared.rows.stream.Rows.{Rows}
use Rattle.sqlite.specs.Given.{HasGiven}
use Rattle.sqlite.specs.Held.{Held, state}
use Rattle.sqlite.specs.Next.{HasMoved}
use Rattle.sqlite.specs.Order.{Row}
use Rattle.sqlite.specs.State.{HasCleanDisk, IsUnchanged, Survives}
use Rattle.sqlite.proofs.Callers.{given_begin, unchanged_then}
use Rattle.sqlite.proofs.StateLemmas.{survives_then}
use Rattle.sqlite_trees.specs.declared.store.Store.{Ghosts}
use Rattle.queue_tables.specs.Faults.{read_fault}
use Rattle.queue_tables.specs.declared.fault.Fault.{Fault}
use Rattle.queue_tables.specs.declared.fault.Fault.TheVariants.{Damaged, Disk, Memory}
use Rattle.queue_tables.proofs.Ending.{clean_before}
use Rattle.queue_tables.proofs.Leaving.{survives_all}
use Rattle.queue_tables.proofs.Reading.{answers_at, begins_at, left_then, plain_at, unchanged_open}
use Rattle.queue_load.specs.Reads.{Tell}
use Rattle.queue_load.specs.RowByRow.{ReadsNext, ReadsRows}
use Rattle.queue_load.proofs.Loading.{same_formless, tell_more}

-- ---- one row

not_damaged : (e : Error) → read_fault e ≢ Damaged
not_damaged (SqliteFailure OutOfMemory) is = cc
not_damaged _ is = cc

module _ {S T : Type 0} (g : Ghosts S) (tells : T → Row → Type 0) (is_formless : Row → Type 0) (old new : Rows S g) where
  -- the query fails
  pub no_row : (e : Error) (r : Result (Option T) Fault) → IsErrAnd r (λ f. f ≡ read_fault e) → HasMoved g old (Err e) new → ReadsNext g old.conn.now new.conn.now r tells is_formless
  no_row e (Ok x) is moved = absurd is
  no_row e (Err f) is moved = record {
    survives = moved.survives;
    mode = moved.mode;
    same = λ clean. tt;
    left = λ clean. elim (moved.kept clean) [ inl failed ↦ inr failed.3 | inr same ↦ inl same ];
    read = λ clean. tt;
    formless = λ clean damaged. absurd (not_damaged e (sym is ∙ damaged));
  }

  -- it is at its end
  pub last_row : HasMoved g old (Ok None) new → ReadsNext g old.conn.now new.conn.now (Ok None) tells is_formless
  last_row moved = record {
    survives = moved.survives;
    mode = moved.mode;
    same = moved.same;
    left = λ clean. inl (moved.same clean);
    read = λ clean sql given was. moved.ok clean sql [] given was;
    formless = λ clean. tt;
  }

  -- a row of which no value tells
  pub bad_row : (row : Bor Row) (e : Fault) (r : Result (Option T) Fault) → IsErrAnd r (λ f. f ≡ e) → (e ≡ Damaged → is_formless row.now) → HasMoved g old (Ok (Some row)) new
      → ReadsNext g old.conn.now new.conn.now r tells is_formless
  bad_row row e (Ok x) is bad moved = absurd is
  bad_row row e (Err f) is bad moved = record {
    survives = moved.survives;
    mode = moved.mode;
    same = λ clean. tt;
    left = λ clean. inl (moved.same clean);
    read = λ clean. tt;
    formless = λ clean damaged sql given was. record {
      before = given;
      row = row.now;
      there = begins_at sql [] (state g old.conn.now) (state g new.conn.now) (given ++ row.now ∷ []) (moved.same clean).0.now_is (given_begin g sql [] new.conn.now (given ++ row.now ∷ []) (moved.ok clean sql [] given was));
      formless = bad (sym is ∙ damaged);
    };
  }

  -- a row and its value
  pub one_row : (row : Bor Row) (t : T) → tells t row.now → HasMoved g old (Ok (Some row)) new → ReadsNext g old.conn.now new.conn.now (Ok (Some t)) tells is_formless
  one_row row t told moved = record {
    survives = moved.survives;
    mode = moved.mode;
    same = moved.same;
    left = λ clean. inl (moved.same clean);
    read = λ clean sql given was. (row.now, moved.ok clean sql [] given was, told);
    formless = λ clean. tt;
  }

-- ---- all rows

-- the items tell of the rows that were given, over tables that stayed as they were
pub record HasReadFront {S T Z : Type 0} (g : Ghosts S) (tells : T → Row → Type 0) (old new : Held S) (v : Vec T Z) : Type 0 where
  pub survives : Survives (state g old) (state g new) (λ _. ⊥)
  pub mode : old.in_transaction ≡ false → new.in_transaction ≡ false
  pub same : HasCleanDisk (state g new) → IsTrue (state g old).is_open → IsUnchanged (state g old) (state g new)
  pub told : HasCleanDisk (state g new) → (sql : List ℕ) → HasGiven g sql [] old [] → (given : List Row) × HasGiven g sql [] new given × Tell tells v.items given

module _ {S T Z : Type 0} (g : Ghosts S) (tells : T → Row → Type 0) where
  pub none_read : (h : Held S) (v : Vec T Z) → v.items ≡ [] → HasReadFront g tells h h v
  none_read h v none = record {
    survives = survives_all (state g h);
    mode = λ outside. outside;
    same = λ clean live. unchanged_open (state g h) live;
    told = λ clean sql given. ([], given, rw none tt);
  }

  module _ (is_formless : Row → Type 0) (first before : Held S) (v : Vec T Z) (front : HasReadFront g tells first before v) where
    -- it goes on too long
    pub too_long : ReadsRows {Z = Z} g first before (Err Disk) tells is_formless
    too_long = record {
      survives = front.survives;
      mode = front.mode;
      same = λ clean live. tt;
      left = λ clean live. inl (front.same clean live);
      read = λ clean live sql plain begun. tt;
      formless = λ clean live sql begun damaged. absurd cc;
    }

    module _ (now : Held S) where
      through : Survives (state g before) (state g now) (λ _. ⊥) → Survives (state g first) (state g now) (λ _. ⊥)
      through survives = survives_then (state g first) (state g before) (state g now) (λ _. ⊥) (λ _. ⊥) (λ _. ⊥) (λ clean db none. none) (λ clean db none. none) front.survives survives

      earlier : Survives (state g before) (state g now) (λ _. ⊥) → HasCleanDisk (state g now) → HasCleanDisk (state g before)
      earlier survives = clean_before (state g before) (state g now) survives.clean

      pub more_read : (t : T) (more : Vec T Z) → ReadsNext g before now (Ok (Some t)) tells is_formless → more.items ≡ v.items ++ t ∷ [] → HasReadFront g tells first now more
      more_read t more next is = record {
        survives = through next.survives;
        mode = λ outside. next.mode (front.mode outside);
        same = λ clean live. unchanged_then (state g first) (state g before) (state g now) (front.same (earlier next.survives clean) live) (next.same clean);
        told = λ clean sql begun.
            let was = front.told (earlier next.survives clean) sql begun in
            let it = next.read clean sql was.0 was.1 in
            (was.0 ++ it.0 ∷ [], it.1, rw is (tell_more tells v.items was.0 t it.0 was.2 it.2));
      }

      -- there is no memory for it
      pub no_room : (t : T) (r : Result (Vec T Z) Fault) → IsErrAnd r (λ f. f ≡ Memory) → ReadsNext g before now (Ok (Some t)) tells is_formless → ReadsRows g first now r tells is_formless
      no_room t (Ok x) is next = absurd is
      no_room t (Err f) is next = record {
        survives = through next.survives;
        mode = λ outside. next.mode (front.mode outside);
        same = λ clean live. tt;
        left = λ clean live. inl (unchanged_then (state g first) (state g before) (state g now) (front.same (earlier next.survives clean) live) (next.same clean));
        read = λ clean live sql plain begun. tt;
        formless = λ clean live sql begun damaged. absurd cc;
      }

      pub all_read : ReadsNext g before now (Ok None) tells is_formless → ReadsRows g first now (Ok v) tells is_formless
      all_read next = record {
        survives = through next.survives;
        mode = λ outside. next.mode (front.mode outside);
        same = λ clean live. kept clean live;
        left = λ clean live. inl (kept clean live);
        read = λ clean live sql plain begun.
            let was = front.told (earlier next.survives clean) sql begun in
            let same = (front.same (earlier next.survives clean) live).0.now_is in record {
              rows = was.0;
              all = answers_at sql [] (state g first) (state g before) (state g now) was.0 (plain_at sql (state g first).now (state g before).now plain same) same (next.read clean sql was.0 was.1);
              told = was.2;
            };
        formless = λ clean live sql begun. tt;
      }
        where
          kept : HasCleanDisk (state g now) → IsTrue (state g first).is_open → IsUnchanged (state g first) (state g now)
          kept clean live = unchanged_then (state g first) (state g before) (state g now) (front.same (earlier next.survives clean) live) (next.same clean)

      -- the next row can't be read
      pub none_more : (e : Fault) (r : Result (Vec T Z) Fault) → IsErrAnd r (λ f. f ≡ e) → ReadsNext g before now (Err e) tells is_formless → ReadsRows g first now r tells is_formless
      none_more e (Ok x) is next = absurd is
      none_more e (Err f) is next = record {
        survives = through next.survives;
        mode = λ outside. next.mode (front.mode outside);
        same = λ clean live. tt;
        left = λ clean live. left_then (state g first) (state g before) (state g now) (front.same (earlier next.survives clean) live) (next.left clean);
        read = λ clean live sql plain begun. tt;
        formless = λ clean live sql begun damaged.
            let was = front.told (earlier next.survives clean) sql begun in
            same_formless sql (state g first) (state g before) (front.same (earlier next.survives clean) live).0.now_is is_formless (next.formless clean (sym is ∙ damaged) sql was.0 was.1);
      }
