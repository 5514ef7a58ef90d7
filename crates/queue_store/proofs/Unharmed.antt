-- Files that hold a database hold it behind a refusal.
use Rattle.std.proofs.Common.{◌≡◌, ℕ, ◌≤◌, ◌%◌, List, Bool, IfSome, IsTrue, None, Option, Some, cond, eq-eqb, false, inl, inr, ne_eqb, subst, sym, ◌∙◌, ◌∷◌, [], arith}
use Rattle.std.proofs.lemmas.Bool.{cases_eq}
use Rattle.sqlite.proofs.FileLemmas.{is_something}
use Rattle.sqlite.specs.Files.{FailsToOpenFiles, HoldsDatabase, IsCleanLeft, IsNothing, IsOpened, LeavesFiles, NamesSize, SaysSums, file_state, image_of}
use Rattle.sqlite.specs.Held.{Held}
use Rattle.sqlite.specs.Start.{FindsIn}
use Rattle.sqlite.specs.declared.error.Error.{Error}
use Rattle.sqlite.specs.declared.file.Leftover.{Leftover}
use Rattle.sqlite.specs.declared.file.Leftover.TheVariants.{Files as Plain, Store, Unopened}
use Rattle.sqlite_disk.specs.Events.{Event, replay, settled}
use Rattle.sqlite_disk.specs.History.{MayLeave}
use Rattle.sqlite_disk.specs.declared.Disk.{Ghosts}
use Rattle.sqlite_disk.specs.declared.Files.{Files}
use Rattle.sqlite_pool.proofs.ProbeLemmas.{reserved_word, size_by_file, size_by_log}
use Rattle.sqlite_pool.specs.Stored.{Adopts, StandsAs, is_summed, reserved, stored_size}
use Rattle.sqlite_store.specs.Laws.{settled_at}
use Rattle.sqlite_store.specs.Unopened.{state_of}
use Rattle.sqlite_store.specs.declared.store.FileStore.{FileStore}
use Rattle.sqlite_trees.specs.Tree.{Trees}
use Rattle.sqlite_wal.proofs.LogLemmas.{SeenMayStay}
use Rattle.sqlite_wal.specs.Files.{outcomes}
use Rattle.sqlite_wal.specs.Recovery as raw
use Rattle.sqlite_wal.specs.Recovery.{Image, IsIgnored}
use Rattle.sqlite.specs.Effect.{IsDatabase}
use Rattle.sqlite.specs.Schema.{Schema}
use Rattle.sqlite.specs.State.{State}
use Rattle.sqlite_catalog.specs.Listing.{IsSound as KeepsSchema}
use Rattle.queue_core.specs.World.{World}
use Rattle.queue_load.specs.Queues.{IsQueueIn}
use Rattle.queue_tables.specs.Content.{IsBookOf}
use Rattle.queue_store.specs.Crash.{StillHolds, StillKeeps}

-- a crash leaves a file to which nothing was done as it was
pub left_alone : (mixes is_log which : Bool) (log db : List ℕ) (history : List Event) (key : ℕ) → is_log ≡ which → history ≡ settled key ∷ [] → (c : List ℕ)
    → (let m = replay (cond is_log log db) history in MayLeave mixes m.seen m.synced m.steps c) → c ≡ cond which log db
left_alone mixes is_log which log db history key p q c may = let it = rw (p, q) at may in elim it [ inl same ↦ same | inr synced ↦ synced ]

-- ---- the size of the pages

module _ (image : Image) (db : Trees) (held : HoldsDatabase image db) (size : ℕ) (names : NamesSize image (stored_size size)) where
  large : 504 ≤ held.0
  large = let few : reserved held.0 ≤ 8 = grind arith in omega (arith, held.1.0)

  same_stored : stored_size held.0 ≡ stored_size size
  same_stored = elim (cases_eq (stored_size held.0) (stored_size size)) [
    | inl same ↦ same
    | inr other ↦ absurd (
        let read = λ (seen : ¬ IsIgnored image.log). other (sym (size_by_log held.0 image held.2.pages held.2.found seen) ∙ sym (names.0 seen)) in
        read (λ ignored. other (sym (size_by_file held.0 image held.2.pages held.2.found large held.2.ours.file.sound ignored) ∙ sym (names.1 ignored))))
  ]

  -- pages without sums are read as such
  same_size : (IsTrue (is_summed size) → SaysSums (stored_size size) image) → is_summed held.0 ≡ false → held.0 ≡ size
  same_size says plain = elim (cases_eq (size % 16) 8) [
    | inl on ↦
        let eight : reserved size ≡ 8 = rw (eq-eqb _ 8 on) in
        let page = reserved_word held.0 image held.2.pages held.2.found large held.2.ours.file.sound in
        let word = says (rw (eq-eqb _ 8 on)) held.2.found.stored page.0 (subst (λ n. raw.Recovers n image held.2.found.stored) same_stored held.2.found.found) page.1 (page.2 ∙ same_stored) in
        absurd (omega (arith, word, page.3, none))
    | inr off ↦ let zero : reserved size ≡ 0 = rw (ne_eqb _ 8 off) in omega (arith, same_stored, zero, none)
  ]
    where
      none : reserved held.0 ≡ 0
      none = elim (cases_eq (held.0 % 16) 8) [ inl on ↦ absurd (let bad = rw (eq-eqb _ 8 on) at plain in cc) | inr off ↦ rw (ne_eqb _ 8 off) ]

-- what stands for files as they were recovered holds the database that they held
still_holds : (old new : Image) (db : Trees) (held : HoldsDatabase old db) (size : ℕ) → held.0 ≡ size → StandsAs size old new → HoldsDatabase new db
still_holds old new db held size same stands = (
  held.0,
  held.1,
  record {
    pages = held.2.pages;
    wanted = held.2.wanted;
    schema = held.2.schema;
    found = subst (λ n. Adopts n new held.2.pages) (sym same) (stands.1 held.2.pages (subst (λ n. Adopts n old held.2.pages) same held.2.found));
    ours = held.2.ours;
    reads = held.2.reads;
    sound = held.2.sound;
  },
)

-- ---- what is left

module _ (first : Image) (db : Trees) (held : HoldsDatabase first db) where
  same_files : (image : Image) → image ≡ first → HoldsDatabase image db
  same_files image same = subst (λ (i : Image). HoldsDatabase i db) (sym same) held

  module _ {D : Type 0} {g : Ghosts D} where
    left_holds : (files : Files D) → image_of g files ≡ first → ((image : Image) → outcomes g files.log files.db image → image ≡ first)
        → (left : Leftover D g) → LeavesFiles files left → StillHolds first left db
    left_holds files same alone (Plain now) leaves = λ image may. same_files image (alone image (leaves image may))
    left_holds files same alone (Unopened now) (inl nothing) = absurd (is_something first db held (subst IsNothing same nothing.0))
    left_holds files same alone (Unopened now) (inr other) = λ plain image may.
        let size = (state_of now).page_size in
        let names : NamesSize first (stored_size size) = subst (λ i. NamesSize i (stored_size size)) same other.1 in
        let says = λ (sums : IsTrue (is_summed size)). subst (SaysSums (stored_size size)) same (other.3 sums) in
        elim ((other.4 image may).same) [
          | inl old ↦ same_files image (alone image old)
          | inr stands ↦ still_holds first image db held size (same_size first db held size names says (plain db held)) (subst (λ i. StandsAs size i image) same stands)
        ]
    left_holds files same alone (Store now) leaves = λ found may. (leaves found may).1 db (same_files (image_of g files) same)

    pub held_behind : (Log Db : Files D → Type 0) → ((files : Files D) → Log files → Db files → (image_of g files ≡ first) × ((image : Image) → outcomes g files.log files.db image → image ≡ first))
        → (e : Error) (o : Option (Leftover D g)) → IfSome o (λ left. (files : Files D) × Log files × Db files × (IsCleanLeft left → FailsToOpenFiles files left e × LeavesFiles files left))
        → IfSome o (λ left. IsCleanLeft left → StillHolds first left db)
    held_behind Log Db fresh e None cause = tt
    held_behind Log Db fresh e (Some left) cause = λ clean.
        let were = fresh cause.0 cause.1 cause.2 in
        left_holds cause.0 were.0 were.1 left (cause.3 clean).1

    -- of a connection that was opened a crash leaves the database that was found
    pub same_behind : SeenMayStay g → (c : Held (FileStore D g)) → IsOpened c → FindsIn first (file_state c) → (found : Trees) → (file_state c).may_leave found → found ≡ db
    same_behind stays c opened finds found may = settled_at c.store stays found opened.0.is_open may ∙ finds.holds db held

-- what holds the database keeps its queue
pub still_keeps : {D : Type 0} {g : Ghosts D} (first : Image) (db : Trees) (o : Option (Leftover D g)) → IfSome o (λ left. IsCleanLeft left → StillHolds first left db) → IfSome o (λ left. IsCleanLeft left → StillKeeps first left db)
still_keeps first db None h = tt
still_keeps {D} {g} first db (Some left) h = λ clean. at left (h clean)
  where
    at : (left : Leftover D g) → StillHolds first left db → StillKeeps first left db
    at (Plain now) holds = holds
    at (Unopened now) holds = holds
    at (Store now) holds = λ found may. inl (holds found may)

-- a queue in the tables of a connection is in its trees
pub book_in : (w : World) (s : State) → IsQueueIn w s.now → IsDatabase s.now → IsBookOf w s.now.trees
book_in w s it sound = record { version = it.version; fits = it.fits; sound = it.sound; tables = subst (λ (schema : Schema). KeepsSchema schema s.now.trees) it.schema sound; rows = it.rows }
