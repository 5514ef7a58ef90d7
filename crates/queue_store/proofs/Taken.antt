-- Tables of an older version as they are taken to the newest.
use Rattle.std.proofs.Common.{◌≡◌, true, ℕ, List, [], ◌∷◌, None, Some, Ok, false, map, slice_get, refl, sym, ap, subst, subst₂, ◌∙◌}
use Rattle.sqlite.specs.Change.{created, next_tree, KeepsRows}
use Rattle.sqlite.specs.Command.TheVariants.{CreateIndex, CreateTable}
use Rattle.sqlite.specs.Compile.{table_defined_by}
use Rattle.sqlite.specs.Does.{Defines, Does, MakesIndex, Tally, lacks_sequence}
use Rattle.sqlite.specs.Effect.{Database, IsDatabase}
use Rattle.sqlite.specs.Listing.{understood}
use Rattle.sqlite.specs.Order.{Row}
use Rattle.sqlite.specs.Schema.{Schema}
use Rattle.sqlite.specs.State.{State, Executes, ExecutesInside, Writes, mode_of}
use Rattle.sqlite.specs.Table.{Table}
use Rattle.sqlite.specs.Tree.{Trees}
use Rattle.sqlite.proofs.Callers.{IsPlain, command_of, statement_of, runs_as}
use Rattle.sqlite_catalog.specs.Change.{indexed}
use Rattle.sqlite_resolve.specs.Compile.{index_defined_by}
use Rattle.sqlite_schema.specs.declared.schema.Index.{Index}
use Rattle.sqlite_tied.specs.Compute.{everything}
use Rattle.queue_core.specs.World.{World}
use Rattle.queue_rows.specs.Versions.{IsOf, Version, policy_row, first_version, second_version}
use Rattle.queue_tables.proofs.Writing.{same_value, went}
use Rattle.queue_tables.specs.Content.{Content, HasFirst, HasSecond, Holds, numbered_content}
use Rattle.queue_tables.specs.Kept.{HasRows}
use Rattle.queue_tables.specs.Plain.{table_of}
use Rattle.queue_tables.specs.Steps.{with_policy_row, without_operators}
use Rattle.queue_tables.specs.Tables.{book_schema, by_age, by_ended, first_schema, jobs, operators, policy, second_schema}
use Rattle.queue_tables.specs.Values.{operator_values, operator_view, policy_values, policy_view}
use Rattle.queue_store.proofs.Empty.{no_rows}
use Rattle.queue_store.proofs.Texts.{by_age_text, by_ended_text, operators_text, policy_text}
use Rattle.queue_store.specs.Older.{HoldsFirst, HoldsQueueOf, HoldsSecond, HoldsThird, HoldsUnended, HoldsUnindexed, operators_schema, policy_schema, without_policy}

pub moved : {K : Type 0} {view : Row → Row} {values a b : List Row} → b ≡ a → HasRows K view values a → HasRows K view values b
moved {K} {view} {values} e h = subst (HasRows K view values) (sym e) h

-- ---- any table, any index, by itself, whatever rows are there

-- the text makes that table, which has no row numbers of its own
record CreatesAlone (schema : Schema) (text : List ℕ) (table : Table) : Type 0 where
  command : command_of (understood schema text) ≡ CreateTable
  whole : statement_of text (understood schema text) ≡ text
  defined : table_defined_by text ≡ Ok table
  plain : IsPlain (understood schema text)
  unnumbered : lacks_sequence (created schema table) ≡ false

-- the schema has it, it has no rows, and each other table has those that it had
record Created (schema : Schema) (table : Table) (old new : State) : Type 0 where
  schema_is : new.now.schema ≡ created schema table
  sound : IsDatabase new.now
  empty : new.now.trees (next_tree schema) ≡ []
  kept : KeepsRows schema.tables old.now.trees new.now.trees

creates_alone : (schema : Schema) (text : List ℕ) (table : Table) → CreatesAlone schema text table → (old new : State) (count : ℕ) → old.now.schema ≡ schema → Executes text [] old new (Ok count) → Created schema table old new
creates_alone schema text table is old new count has h =
    let w = subst (λ t. Writes old new None CreateTable t [] count) is.whole (runs_as text [] old new schema has CreateTable is.command is.plain count h) in
    let all = went w.changed in
    let first = went all.1 in
    let made = first.1 in
    let both : Ok made.table ≡ Ok table = sym made.defined ∙ is.defined in
    let same : made.table ≡ table = cc in
    let after : first.0.schema ≡ created schema table = made.is ∙ ap (λ s. created s made.table) has ∙ ap (created schema) same in
    let bare : lacks_sequence first.0.schema ≡ false = ap lacks_sequence after ∙ is.unnumbered in
    let now : new.now ≡ first.0 = ap (λ (p : Tally × Database). p.1) (same_value all.2) ∙ same_value (rw bare at first.2) in
    let trees : new.now.trees ≡ first.0.trees = ap (λ (d : Database). d.trees) now in
    record {
      schema_is = ap (λ (d : Database). d.schema) now ∙ after;
      sound = w.sound;
      empty = ap (λ (t : Trees). t (next_tree schema)) trees ∙ subst (λ s. first.0.trees (next_tree s) ≡ []) has made.empty;
      kept = subst (λ (t : Trees). KeepsRows schema.tables old.now.trees t) (sym trees) (subst (λ s. KeepsRows s.tables old.now.trees first.0.trees) has made.others);
    }

-- the text makes that index of the table at that place
record IndexesAlone (schema : Schema) (text : List ℕ) (at : ℕ) (table : Table) (index : Index) : Type 0 where
  command : command_of (understood schema text) ≡ CreateIndex at
  whole : statement_of text (understood schema text) ≡ text
  placed : slice_get schema.tables at ≡ Some table
  defined : index_defined_by table text ≡ Ok index
  plain : IsPlain (understood schema text)

-- the schema has it, and each table the rows that it had
record Indexed (schema : Schema) (table : Table) (index : Index) (old new : State) : Type 0 where
  schema_is : new.now.schema ≡ indexed schema table index
  sound : IsDatabase new.now
  kept : KeepsRows schema.tables old.now.trees new.now.trees

indexes_alone : (schema : Schema) (text : List ℕ) (at : ℕ) (table : Table) (index : Index) → IndexesAlone schema text at table index
    → (old new : State) (count : ℕ) → old.now.schema ≡ schema → Executes text [] old new (Ok count) → Indexed schema table index old new
indexes_alone schema text at table index is old new count has h =
    let w = subst (λ t. Writes old new None (CreateIndex at) t [] count) is.whole (runs_as text [] old new schema has (CreateIndex at) is.command is.plain count h) in
    let did = subst (λ s. Does old.step_limit (mode_of old) [] (record old.now { schema = s }) text None (CreateIndex at) (Ok (w.tally, new.now))) has w.changed in
    let found : Defines (mode_of old) (MakesIndex text (record old.now { schema = schema }) table) (Ok (w.tally, new.now)) = rw is.placed at did in
    let all = went found in
    let made = all.1 in
    let both : Ok made.index ≡ Ok index = sym made.defined ∙ is.defined in
    let same : made.index ≡ index = cc in
    let now : new.now ≡ all.0 = ap (λ (p : Tally × Database). p.1) (same_value all.2) in
    record {
      schema_is = ap (λ (d : Database). d.schema) now ∙ made.is ∙ ap (indexed schema table) same;
      sound = w.sound;
      kept = subst (λ (t : Trees). KeepsRows schema.tables old.now.trees t) (sym (ap (λ (d : Database). d.trees) now)) made.rows;
    }

-- ---- policy

policy_is : CreatesAlone first_schema policy_text (record (table_of policy) { tree = 0 })
unfolding understood everything
policy_is = record { command = refl; whole = refl; defined = refl; plain = (refl, refl); unnumbered = refl }

policy_grown : created first_schema (record (table_of policy) { tree = 0 }) ≡ policy_schema
policy_grown = refl

policy_tree : next_tree first_schema ≡ 15
policy_tree = refl

-- the tables of the first version have the rows that they had
first_kept : (c : Content) (a b : Trees) → KeepsRows first_schema.tables a b → HasFirst c a → HasFirst c b
first_kept c a b kept has = record {
  meta = moved kept.0 has.meta;
  jobs = moved kept.1.0 has.jobs;
  documents = moved kept.1.1.0 has.documents;
  pieces = moved kept.1.1.1.0 has.pieces;
  accounts = moved kept.1.1.1.1.0 has.accounts;
  grants = moved kept.1.1.1.1.1.0 has.grants;
  reports = moved kept.1.1.1.1.1.1.0 has.reports;
}

pub makes_policy : (old new : State) (count : ℕ) (c : Content) → HoldsFirst c old → ExecutesInside 0 policy_text [] old new (Ok count) → HoldsUnindexed (without_policy c) new
makes_policy old new count c has h =
    let it = creates_alone first_schema policy_text (record (table_of policy) { tree = 0 }) policy_is old new count has.schema_is h.0 in
    let empty : new.now.trees 15 ≡ [] = subst (λ n. new.now.trees n ≡ []) policy_tree it.empty in
    record {
      schema_is = it.schema_is ∙ policy_grown;
      sound = it.sound;
      rows = record { first = first_kept (without_policy c) old.now.trees new.now.trees it.kept (without_rows has.rows); policy = no_rows policy_view (new.now.trees 15) empty };
      live = h.1.is_open;
    }
  where
    without_rows : HasFirst c old.now.trees → HasFirst (without_policy c) old.now.trees
    without_rows rows = record { meta = rows.meta; jobs = rows.jobs; documents = rows.documents; pieces = rows.pieces; accounts = rows.accounts; grants = rows.grants; reports = rows.reports }

-- ---- by_age, over the jobs that are there

age_is : IndexesAlone policy_schema by_age_text 1 (table_of jobs) (record by_age { tree = 0 })
unfolding understood everything
age_is = record { command = refl; whole = refl; placed = refl; defined = refl; plain = (refl, refl) }

age_grown : indexed policy_schema (table_of jobs) (record by_age { tree = 0 }) ≡ second_schema
age_grown = refl

-- so have those of the second
second_kept : (c : Content) (a b : Trees) → KeepsRows second_schema.tables a b → HasSecond c a → HasSecond c b
second_kept c a b kept has = record {
  first = first_kept c a b (kept.0, (kept.1.0, (kept.1.1.0, (kept.1.1.1.0, (kept.1.1.1.1.0, (kept.1.1.1.1.1.0, (kept.1.1.1.1.1.1.0, tt))))))) has.first;
  policy = moved kept.1.1.1.1.1.1.1.0 has.policy;
}

pub makes_age : (old new : State) (count : ℕ) (c : Content) → HoldsUnindexed c old → ExecutesInside 0 by_age_text [] old new (Ok count) → HoldsSecond c new
makes_age old new count c has h =
    let it = indexes_alone policy_schema by_age_text 1 (table_of jobs) (record by_age { tree = 0 }) age_is old new count has.schema_is h.0 in
    record { schema_is = it.schema_is ∙ age_grown; sound = it.sound; rows = second_kept c old.now.trees new.now.trees it.kept has.rows; live = h.1.is_open }

-- ---- operators

operators_is : CreatesAlone second_schema operators_text (record (table_of operators) { tree = 0 })
unfolding understood everything
operators_is = record { command = refl; whole = refl; defined = refl; plain = (refl, refl); unnumbered = refl }

operators_grown : created second_schema (record (table_of operators) { tree = 0 }) ≡ operators_schema
unfolding everything
operators_grown = refl

operators_tree : next_tree second_schema ≡ 17
operators_tree = refl

pub makes_operators : (old new : State) (count : ℕ) (c : Content) → HoldsSecond c old → ExecutesInside 0 operators_text [] old new (Ok count) → HoldsUnended (without_operators c) new
makes_operators old new count c has h =
    let it = creates_alone second_schema operators_text (record (table_of operators) { tree = 0 }) operators_is old new count has.schema_is h.0 in
    let empty : new.now.trees 17 ≡ [] = subst (λ n. new.now.trees n ≡ []) operators_tree it.empty in
    record {
      schema_is = it.schema_is ∙ operators_grown;
      sound = it.sound;
      rows = record { second = second_kept (without_operators c) old.now.trees new.now.trees it.kept (without_rows has.rows); operators = no_rows operator_view (new.now.trees 17) empty };
      live = h.1.is_open;
    }
  where
    without_rows : HasSecond c old.now.trees → HasSecond (without_operators c) old.now.trees
    without_rows rows = let r = rows.first in record {
      first = record { meta = r.meta; jobs = r.jobs; documents = r.documents; pieces = r.pieces; accounts = r.accounts; grants = r.grants; reports = r.reports };
      policy = rows.policy;
    }

-- ---- by_ended, over the jobs that are there

ended_is : IndexesAlone operators_schema by_ended_text 1 (table_of jobs) (record by_ended { tree = 0 })
unfolding understood everything
ended_is = record { command = refl; whole = refl; placed = refl; defined = refl; plain = (refl, refl) }

ended_grown : indexed operators_schema (table_of jobs) (record by_ended { tree = 0 }) ≡ book_schema
ended_grown = refl

pub makes_ended : (old new : State) (count : ℕ) (c : Content) → HoldsUnended c old → ExecutesInside 0 by_ended_text [] old new (Ok count) → HoldsThird c new
makes_ended old new count c has h =
    let it = indexes_alone operators_schema by_ended_text 1 (table_of jobs) (record by_ended { tree = 0 }) ended_is old new count has.schema_is h.0 in
    let kept = it.kept in
    record {
      schema_is = it.schema_is ∙ ended_grown;
      sound = it.sound;
      rows = record {
        second = second_kept c old.now.trees new.now.trees (kept.0, (kept.1.0, (kept.1.1.0, (kept.1.1.1.0, (kept.1.1.1.1.0, (kept.1.1.1.1.1.0, (kept.1.1.1.1.1.1.0, (kept.1.1.1.1.1.1.1.0, tt)))))))) has.rows.second;
        operators = moved kept.1.1.1.1.1.1.1.1.0 has.rows.operators;
      };
      live = h.1.is_open;
    }

-- ---- the rows that are added

-- the first version keeps jobs for ever, and has no operators
pub first_added : (w : World) (s : State) → IsOf first_version w → Holds (with_policy_row (policy_values (policy_row 0)) (without_operators (without_policy (numbered_content first_version w)))) s → Holds (numbered_content first_version w) s
first_added w s fits has =
    subst₂ (λ (keep : ℕ) (names : List (List ℕ)). Holds (record (numbered_content first_version w) { policy = policy_values (policy_row keep) ∷ []; operators = map operator_values names }) s) (sym fits.0) (sym fits.1) has

-- the second has no operators either
pub second_added : (w : World) (s : State) → IsOf second_version w → Holds (without_operators (numbered_content second_version w)) s → Holds (numbered_content second_version w) s
second_added w s fits has = subst (λ (names : List (List ℕ)). Holds (record (numbered_content second_version w) { operators = map operator_values names }) s) (sym fits) has

-- BEGIN changes no row
pub held_begun : (n : Version) (w : World) (old : State) → HoldsQueueOf n w old → HoldsQueueOf n w (record old { in_transaction = true })
held_begun n w old has = record { schema_is = has.schema_is; sound = has.sound; rows = has.rows; live = has.live }
