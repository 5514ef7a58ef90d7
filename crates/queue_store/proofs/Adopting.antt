-- Tables that were adopted, and files that were opened.
use Rattle.std.proofs.Common.{◌≡◌, ◌↔◌, ◌<◌, ℕ, Bool, List, [], ◌∷◌, Result, Ok, Err, IfOk, IsTrue, false, inl, inr, map, length, refl, sym, ap, subst, ◌∙◌, arith}
use Rattle.std.proofs.lemmas.List.Sorted.{length_permutation}
use Rattle.sqlite.specs.Effect.{Database, IsDatabase}
use Rattle.sqlite.specs.Files.{AreFoundIn}
use Rattle.sqlite.specs.Held.{Held, state}
use Rattle.sqlite.specs.Order.{Row}
use Rattle.sqlite.specs.Schema.{Schema}
use Rattle.sqlite.specs.Start.{FindsIn}
use Rattle.sqlite.specs.State.{State, HasCleanDisk, IsLive, IsUnchanged, Opens}
use Rattle.sqlite_trees.specs.Tree.{Trees}
use Rattle.sqlite_trees.specs.declared.store.Store.{Ghosts}
use Rattle.sqlite_wal.specs.Recovery.{Image}
use Rattle.queue_types.specs.Settings.{SettingValues, AreSettings}
use Rattle.queue_core.specs.World.{World, rows}
use Rattle.queue_rows.specs.Meta.{settings_in}
use Rattle.queue_rows.specs.Rows.{Tables, meta_row}
use Rattle.queue_rows.specs.Versions.{IsOf, Version, first_version, keep_in, operator_rows, operators_in, policy_rows, second_version, third_version}
use Rattle.queue_rows.specs.declared.rows.MetaRow.{MetaRow}
use Rattle.queue_load.specs.Queues.{HasQueue}
use Rattle.queue_load.specs.Store.{FitsIn}
use Rattle.queue_tables.proofs.Ending.{same_holds}
use Rattle.queue_tables.proofs.Leaving.{serves_then}
use Rattle.queue_tables.specs.Content.{HasQueueOf, content_of}
use Rattle.queue_tables.specs.Leaving.{LeavesTables}
use Rattle.queue_tables.specs.Tables.{book_schema, no_schema, schema_of}
use Rattle.queue_tables.specs.Values.{meta_view}
use Rattle.queue_store.specs.Handed.{MakesBook}
use Rattle.queue_store.specs.Kept.{IsHonest, StandsFor, shown_by, without_limit}
use Rattle.queue_store.specs.Making.{MakesTables}
use Rattle.queue_store.specs.New.{KeepsTables}
use Rattle.queue_store.proofs.Stopping.{caused_holds}
use Rattle.queue_store.specs.Older.{AreCaused, HaveCauses, HoldsQueueOf, IsFound, LeavesOldOrTaken, TakesQueue, version_in, version_of}
use Rattle.queue_store.specs.Opened.{FitsFile, HasNoTables, HoldsOnly, IsKeptIn}
use Rattle.queue_store.specs.declared.book.TableBook.{TableBook}
use Rattle.queue_store.specs.declared.version.SchemaVersion.{SchemaVersion}
use Rattle.queue_store.specs.declared.version.SchemaVersion.TheVariants.{First, Second, Third}

row_of : (t : Tables) (d : Database) (has : HasQueue t d) → t.meta ≡ meta_row has.queue.version has.world ∷ []
row_of t d has = sym (ap (λ (u : Tables). u.meta) has.rows)

keep_of : (n : Version) (w : World) → IsOf n w → keep_in (policy_rows n w.settings.keep) ≡ w.settings.keep
keep_of first_version w fits = sym fits.0
keep_of second_version w fits = refl
keep_of third_version w fits = refl

operators_of : (n : Version) (w : World) → IsOf n w → operators_in (operator_rows n w.settings.operators) ≡ w.settings.operators
operators_of first_version w fits = sym fits.1
operators_of second_version w fits = sym fits
operators_of third_version w fits = refl

-- the settings in the rows are those of the queue
settings_of : (t : Tables) (d : Database) (has : HasQueue t d) → settings_in (keep_in t.policy) (operators_in t.operators) (meta_row has.queue.version has.world) ≡ has.world.settings
settings_of t d has =
    let w = has.world in
    let policy : keep_in t.policy ≡ keep_in (policy_rows has.queue.version w.settings.keep) = sym (ap (λ (u : Tables). keep_in u.policy) has.rows) in
    let keep : keep_in t.policy ≡ w.settings.keep = policy ∙ keep_of has.queue.version w has.queue.fits in
    let names : operators_in t.operators ≡ operators_in (operator_rows has.queue.version w.settings.operators) = sym (ap (λ (u : Tables). operators_in u.operators) has.rows) in
    let operators : operators_in t.operators ≡ w.settings.operators = names ∙ operators_of has.queue.version w has.queue.fits in
    λ i. record w.settings { keep = keep i; operators = operators i }

version_again : (n : Version) (keep : ℕ) (operators : List (List ℕ)) → version_of (version_in (policy_rows n keep) (operator_rows n operators)) ≡ n
version_again first_version keep operators = refl
version_again second_version keep operators = refl
version_again third_version keep operators = refl

pub found : (t : Tables) (old new : State) (settings : SettingValues) (version : SchemaVersion) → HasQueue t old.now → IsLive old → IsUnchanged old new → (IsTrue old.is_open → old.now ≡ old.committed)
    → old.in_transaction ≡ false → ((m : MetaRow) → t.meta ≡ m ∷ [] → settings ≡ settings_in (keep_in t.policy) (operators_in t.operators) m) → version ≡ version_in t.policy t.operators → IsFound old new settings version
found t old new settings version has live same settled outside told is =
    let n = has.queue.version in
    let w = has.world in
    record {
      world = w;
      queue = has.queue;
      settings_are = told (meta_row n w) (row_of t old.now has) ∙ settings_of t old.now has;
      version_is = sym (version_again n w.settings.keep w.settings.operators) ∙ ap (λ (u : Tables). version_of (version_in u.policy u.operators)) has.rows ∙ ap version_of (sym is);
      same = same.0.now_is;
      live = same.0.is_open;
      sound = subst IsDatabase (sym same.0.now_is) (live same.0.was_open).0;
      settled = same.0.now_is ∙ (settled same.0.was_open ∙ sym same.0.committed_is);
      outside = same.0.mode ∙ outside;
    }

-- the tables of the newest version are of no other
third_alone : (version : SchemaVersion) (s : Schema) → s ≡ schema_of (version_of version) → s ≡ book_schema → version ≡ Third
third_alone First s of newest = let e : 7 ≡ 9 = ap (λ (t : Schema). length t.tables) (sym of ∙ newest) in absurd (omega (arith, e))
third_alone Second s of newest = let e : 8 ≡ 9 = ap (λ (t : Schema). length t.tables) (sym of ∙ newest) in absurd (omega (arith, e))
third_alone Third s of newest = refl

module _ (old mid : State) (settings : SettingValues) (version : SchemaVersion) (it : IsFound old mid settings version) where
  pub found_holds : HoldsQueueOf (version_of version) it.world mid
  found_holds = record {
    schema_is = ap (λ (d : Database). d.schema) it.same ∙ it.queue.schema ∙ ap schema_of it.version_is;
    sound = it.sound;
    rows = subst (λ (d : Database). HasQueueOf (version_of version) it.world d.trees) (sym it.same) (subst (λ n. HasQueueOf n it.world old.now.trees) it.version_is it.queue.rows);
    live = it.live;
  }

  pub found_fits : IsOf (version_of version) it.world
  found_fits = subst (λ n. IsOf n it.world) it.version_is it.queue.fits

  pub is_third : old.now.schema ≡ book_schema → version ≡ Third
  is_third = third_alone version old.now.schema (it.queue.schema ∙ ap schema_of it.version_is)

  -- tables that are as an open book has them are not migrated
  pub not_migrated : {X : Type 0} (newest : Bool) → newest ≡ false → (IsTrue newest ↔ ((version ≡ Third) × AreCaused mid.now)) → old.now.schema ≡ book_schema → HaveCauses old.now → X
  not_migrated newest other found is causes =
      let yes : IsTrue newest = found.1 (is_third is, subst AreCaused (sym it.same) (causes it.world it.queue)) in
      absurd (let no = sym other ∙ yes in cc)

  -- after a query
  pub still_found : (new : State) → LeavesTables mid new → HasCleanDisk new → IsTrue new.is_open → IsFound old new settings version
  still_found new leaves clean live =
      let same = leaves.same clean live in
      record {
        world = it.world;
        queue = it.queue;
        settings_are = it.settings_are;
        version_is = it.version_is;
        same = same ∙ it.same;
        live = live;
        sound = subst IsDatabase (sym same) it.sound;
        settled = same ∙ it.settled ∙ sym (leaves.committed clean live);
        outside = leaves.mode ∙ it.outside;
      }

  pub taken_now : {T E : Type 0} {x : T} (new : State) → HasCleanDisk new → MakesTables {E = E} it.world mid new (Ok x) → TakesQueue old (without_limit new) settings
  taken_now new clean made =
      let has = made.made clean in
      record {
        world = it.world;
        queue = it.queue;
        keeps = record {
          sound = it.queue.sound;
          settings_are = it.settings_are;
          holds = λ is_open. same_holds (content_of it.world) new (without_limit new) has refl is_open;
          settled = λ is_open. made.settled clean;
          outside = λ is_open. made.ended;
          unlimited = λ is_open. refl;
        };
        live = has.live;
      }

  pub crash_leaves : {T E : Type 0} {r : Result T E} (new : State) → LeavesTables old mid → (HasCleanDisk new → HasCleanDisk mid) → MakesTables it.world mid new r → LeavesOldOrTaken old new
  crash_leaves new leaves early made clean db may = elim (made.crash it.queue.sound clean db may) [
    | inl before ↦ inl (leaves.left (early clean) db before)
    | inr taken ↦ inr (it.world, it.queue, taken)
  ]

-- in the newest tables already
pub taken_already : (old new : State) (settings : SettingValues) → IsFound old new settings Third → AreCaused new.now → TakesQueue old (without_limit new) settings
taken_already old new settings it caused =
    let has = caused_holds (content_of it.world) (rows it.world) new refl (found_holds old new settings Third it) caused in
    record {
      world = it.world;
      queue = it.queue;
      keeps = record {
        sound = it.queue.sound;
        settings_are = it.settings_are;
        holds = λ is_open. same_holds (content_of it.world) new (without_limit new) has refl is_open;
        settled = λ is_open. it.settled;
        outside = λ is_open. it.outside;
        unlimited = λ is_open. refl;
      };
      live = it.live;
    }

-- ---- what a refusal leaves

pub leaves_keeps : (old new : State) → LeavesTables old new → KeepsTables old new
leaves_keeps old new leaves = record { clean = leaves.clean; opened = leaves.opened; same = leaves.same; committed = leaves.committed; mode = leaves.mode; serves = leaves.serves }

pub leaves_old : (old new : State) → LeavesTables old new → LeavesOldOrTaken old new
leaves_old old new leaves clean db may = inl (leaves.left clean db may)

pub keeps_then : (old mid new : State) → LeavesTables old mid → KeepsTables mid new → KeepsTables old new
keeps_then old mid new first last = record {
  clean = λ clean. first.clean (last.clean clean);
  opened = λ clean live. first.opened (last.clean clean) (last.opened clean live);
  same = λ clean live. last.same clean live ∙ first.same (last.clean clean) (last.opened clean live);
  committed = λ clean live. last.committed clean live ∙ first.committed (last.clean clean) (last.opened clean live);
  mode = last.mode ∙ first.mode;
  serves = serves_then old mid new last.clean first.serves last.serves;
}

-- the settings of a sound queue are within their limits
pub within_limits : (t : Tables) (d : Database) → HasQueue t d → ((m : MetaRow) → t.meta ≡ m ∷ [] → ¬ AreSettings (settings_in (keep_in t.policy) (operators_in t.operators) m)) → ⊥
within_limits t d has beyond = beyond (meta_row has.queue.version has.world) (row_of t d has) (subst AreSettings (sym (settings_of t d has)) has.queue.sound.settings)

-- ---- files

-- each version has the one row of the book itself
meta_in : (n : Version) (w : World) (db : Trees) → HasQueueOf n w db → length (map meta_view (db 0)) ≡ 1
meta_in first_version w db has = length_permutation _ _ has.meta.same
meta_in second_version w db has = length_permutation _ _ has.first.meta.same
meta_in third_version w db has = length_permutation _ _ has.second.first.meta.same

-- a file with a row in it isn't empty
present : (image : Image) (db : Trees) (n : Version) (w : World) → AreFoundIn image db → HasQueueOf n w db → 0 < length image.db
present image db n w (inl it) has = it.3.found.present
present image db n w (inr nothing) has =
    let some : length (map meta_view (db 0)) ≡ 1 = meta_in n w db has in
    let none : length (map meta_view (db 0)) ≡ 0 = ap (λ (rows : List Row). length (map meta_view rows)) (nothing.1.0 0 (omega arith)) in
    absurd (omega arith)

module _ (s : State) (image : Image) (opened : HasCleanDisk s → Opens s × IsLive s) (found : HasCleanDisk s → FindsIn image s) where
  same_trees : (clean : HasCleanDisk s) → s.committed.trees ≡ s.now.trees
  same_trees clean = sym (ap (λ (d : Database). d.trees) (opened clean).0.clean)

  pub holds_only : HasCleanDisk s → HoldsOnly image s.now.schema s.now.trees
  holds_only clean = record {
    found = subst (AreFoundIn image) (same_trees clean) (found clean).reads;
    tables = ((opened clean).1 (opened clean).0.is_open).0;
    only = λ other held. sym ((found clean).holds other held) ∙ same_trees clean;
  }

  pub fits_in : FitsFile image → FitsIn s
  fits_in fits clean = let it = holds_only clean in fits s.now.trees s.now.schema it.found it.tables

  -- a book that was opened stands for the queue that its files keep
  pub kept_in : {S : Type 0} (store : Ghosts S) (b : TableBook S) → HasCleanDisk s → TakesQueue s (shown_by store b) b.settings → (w : World) × IsKeptIn image w × StandsFor store b w
  kept_in store b clean it =
      let only = holds_only clean in (
        it.world,
        record {
          present = present image s.now.trees it.queue.version it.world only.found it.queue.rows;
          version = it.queue.version;
          fits = it.queue.fits;
          db = s.now.trees;
          held = subst (λ (tables : Schema). HoldsOnly image tables s.now.trees) it.queue.schema only;
          rows = it.queue.rows;
        },
        λ _. it.keeps,
      )

  -- files in which a blank store was found have no tables
  pub no_tables : HasCleanDisk s → s.now.schema ≡ no_schema → HasNoTables image
  no_tables clean blank = (s.now.trees, subst (λ (tables : Schema). HoldsOnly image tables s.now.trees) blank (holds_only clean))

-- likewise files of which a new book was made
pub no_tables_made : {S E : Type 0} (store : Ghosts S) (conn : Held S) (image : Image) → (HasCleanDisk (state store conn) → Opens (state store conn) × IsLive (state store conn)) → (HasCleanDisk (state store conn) → FindsIn image (state store conn))
    → (result : Result (TableBook S) E) (settings : SettingValues) → MakesBook store conn result settings → IfOk result (λ b. IsHonest store b → HasNoTables image)
no_tables_made store conn image opened found (Ok b) settings made = λ honest. no_tables (state store conn) image opened found (made.clean honest) made.blank
no_tables_made store conn image opened found (Err e) settings made = tt

-- a new book is one, whatever else a refusal hands back
pub made_however : {S E F : Type 0} (store : Ghosts S) (conn : Held S) (b : TableBook S) (settings : SettingValues) → MakesBook {S = S} {E = E} store conn (Ok b) settings → MakesBook {S = S} {E = F} store conn (Ok b) settings
made_however store conn b settings made = record { clean = made.clean; blank = made.blank; stands = made.stands; live = made.live }

pub none_made : {S E : Type 0} (store : Ghosts S) (conn : Held S) (e : E) (settings : SettingValues) → MakesBook store conn (Err e) settings
none_made store conn e settings = record { clean = tt; blank = tt; stands = tt; live = tt }
