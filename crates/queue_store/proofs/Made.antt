-- The tables as they are made, one after another, by the statements of one text.
use Rattle.std.proofs.Common.{arith, true, ◌≡◌, ◌<◌, ℕ, List, [], ◌∷◌, ◌++◌, codes, None, Some, Ok, IsTrue, false, length, slice_get, refl, sym, ap, subst, ◌∙◌}
use Rattle.std.specs.List.{AllByRecursion as Each}
use Rattle.sqlite.specs.Batch.{ExecutesAllInside, RunInTurn, first_len}
use Rattle.sqlite.specs.Change.{created, next_tree, KeepsRows}
use Rattle.sqlite.specs.Command.TheVariants.{CreateTable, CreateIndex}
use Rattle.sqlite.specs.Compile.{table_defined_by}
use Rattle.sqlite.specs.Does.{Defines, Does, MakesIndex, Tally, lacks_sequence}
use Rattle.sqlite.specs.Effect.{Database, IsDatabase}
use Rattle.sqlite.specs.Held.{Held, state}
use Rattle.sqlite.specs.Listing.{understood}
use Rattle.sqlite.specs.State.{State, ExecutesIn, Writes, mode_of}
use Rattle.sqlite.specs.Schema.{Schema}
use Rattle.sqlite.specs.Table.{Table}
use Rattle.sqlite.specs.Tree.{Trees}
use Rattle.sqlite_catalog.specs.Change.{indexed}
use Rattle.sqlite_schema.specs.declared.schema.Index.{Index}
use Rattle.sqlite_syntax.specs.Lex.{past_semi}
use Rattle.sqlite.proofs.Callers.{IsPlain, command_of, statement_of}
use Rattle.sqlite_resolve.specs.Compile.{index_defined_by}
use Rattle.sqlite_tied.specs.Compute.{everything}
use Rattle.sqlite_trees.specs.declared.store.Store.{Ghosts}
use Rattle.queue_tables.specs.Plain.{table_of}
use Rattle.queue_tables.specs.Tables.{meta, jobs, documents, pieces, accounts, grants, reports, by_owner, by_end, by_phase, policy, by_age, operators, by_ended, no_schema, book_schema}
use Rattle.queue_store.proofs.Schemas.{schema1, schema2, schema3, schema4, schema5, schema6, schema7, schema8, schema9, schema10, schema11, schema12, schema13, schema14, IsMade}
use Rattle.queue_store.proofs.Texts.{meta_text, jobs_text, documents_text, pieces_text, accounts_text, grants_text, reports_text, by_owner_text, by_end_text, by_phase_text, policy_text, by_age_text, operators_text, by_ended_text}
use Rattle.queue_tables.proofs.Writing.{same_value, went}
use Rattle.queue_store.proofs.Batch.{first_ran, runs_in_batch}

-- ---- any table, any index

-- in a text of several statements each ends in a semicolon
abbrev ended : List ℕ → List ℕ
ended text = text ++ codes ";"

-- the tables are as they were, and the new one has no rows
grown : (old new : Trees) (ts : List Table) (t : Table) → KeepsRows ts old new → Each (λ (u : Table). old u.tree ≡ []) ts → new t.tree ≡ [] → Each (λ (u : Table). new u.tree ≡ []) (ts ++ t ∷ [])
grown old new [] t kept were empty = (empty, tt)
grown old new (u ∷ ts) t kept were empty = (kept.0 ∙ were.0, grown old new ts t kept.1 were.1 empty)

still_empty : (old new : Trees) (ts : List Table) → KeepsRows ts old new → Each (λ (u : Table). old u.tree ≡ []) ts → Each (λ (u : Table). new u.tree ≡ []) ts
still_empty old new [] kept were = tt
still_empty old new (u ∷ ts) kept were = (kept.0 ∙ were.0, still_empty old new ts kept.1 were.1)

-- the text makes that table, which has no row numbers of its own
record Creates (schema : Schema) (text : List ℕ) (table : Table) : Type 0 where
  command : command_of (understood schema (ended text)) ≡ CreateTable
  whole : statement_of (ended text) (understood schema (ended text)) ≡ text
  defined : table_defined_by text ≡ Ok table
  plain : IsPlain (understood schema (ended text))
  unnumbered : lacks_sequence (created schema table) ≡ false

makes : (schema : Schema) (text : List ℕ) (table : Table) → Creates schema text table
    → (old new : State) (count : ℕ) → IsMade schema old → ExecutesIn true (ended text) [] old new (Ok count) → IsMade (created schema table) new
makes schema text table is old new count has h =
    let w = subst (λ t. Writes old new None CreateTable t [] count) whole_is (runs_in_batch (ended text) old new CreateTable (ap (λ s. command_of (understood s (ended text))) has.schema_is ∙ is.command) plain_is count h) in
    let all = went w.changed in
    let first = went all.1 in
    let made = first.1 in
    let both : Ok made.table ≡ Ok table = sym made.defined ∙ is.defined in
    let same : made.table ≡ table = cc in
    let after : first.0.schema ≡ created schema table = made.is ∙ ap (λ s. created s made.table) has.schema_is ∙ ap (created schema) same in
    let bare : lacks_sequence first.0.schema ≡ false = ap lacks_sequence after ∙ is.unnumbered in
    let now : new.now ≡ first.0 = ap (λ (p : Tally × Database). p.1) (same_value all.2) ∙ same_value (rw bare at first.2) in
    let trees : new.now.trees ≡ first.0.trees = ap (λ (d : Database). d.trees) now in
    let empty : new.now.trees (next_tree schema) ≡ [] = ap (λ (t : Trees). t (next_tree schema)) trees ∙ subst (λ s. first.0.trees (next_tree s) ≡ []) has.schema_is made.empty in
    let others : KeepsRows schema.tables old.now.trees new.now.trees = subst (λ (t : Trees). KeepsRows schema.tables old.now.trees t) (sym trees) (subst (λ s. KeepsRows s.tables old.now.trees first.0.trees) has.schema_is made.others) in
    record {
      schema_is = ap (λ (d : Database). d.schema) now ∙ after;
      empty = grown old.now.trees new.now.trees schema.tables (record table { tree = next_tree schema }) others has.empty empty;
    }
  where
    whole_is : statement_of (ended text) (understood old.now.schema (ended text)) ≡ text
    whole_is = ap (λ s. statement_of (ended text) (understood s (ended text))) has.schema_is ∙ is.whole

    plain_is : IsPlain (understood old.now.schema (ended text))
    plain_is = subst (λ s. IsPlain (understood s (ended text))) (sym has.schema_is) is.plain

-- the text makes that index of the table at that place
record Indexes (schema : Schema) (text : List ℕ) (at : ℕ) (table : Table) (index : Index) : Type 0 where
  command : command_of (understood schema (ended text)) ≡ CreateIndex at
  whole : statement_of (ended text) (understood schema (ended text)) ≡ text
  placed : slice_get schema.tables at ≡ Some table
  defined : index_defined_by table text ≡ Ok index
  plain : IsPlain (understood schema (ended text))

module _ (schema : Schema) (text : List ℕ) (at : ℕ) (table : Table) (index : Index) (is : Indexes schema text at table index) (old new : State) (count : ℕ) (has : IsMade schema old) where
  index_written : ExecutesIn true (ended text) [] old new (Ok count) → Writes old new None (CreateIndex at) text [] count
  index_written h =
      let command = ap (λ s. command_of (understood s (ended text))) has.schema_is ∙ is.command in
      let whole = ap (λ s. statement_of (ended text) (understood s (ended text))) has.schema_is ∙ is.whole in
      let plain = subst (λ s. IsPlain (understood s (ended text))) (sym has.schema_is) is.plain in
      subst (λ t. Writes old new None (CreateIndex at) t [] count) whole (runs_in_batch (ended text) old new (CreateIndex at) command plain count h)

  indexes : ExecutesIn true (ended text) [] old new (Ok count) → IsMade (indexed schema table index) new
  indexes h =
      let w = index_written h in
      let did = subst (λ s. Does old.step_limit (mode_of old) [] (record old.now { schema = s }) text None (CreateIndex at) (Ok (w.tally, new.now))) has.schema_is w.changed in
      let found : Defines (mode_of old) (MakesIndex text (record old.now { schema = schema }) table) (Ok (w.tally, new.now)) = rw is.placed at did in
      let all = went found in
      let made = all.1 in
      let both : Ok made.index ≡ Ok index = sym made.defined ∙ is.defined in
      let same : made.index ≡ index = cc in
      let now : new.now ≡ all.0 = ap (λ (p : Tally × Database). p.1) (same_value all.2) in
      let rows : KeepsRows schema.tables old.now.trees new.now.trees = subst (λ (t : Trees). KeepsRows schema.tables old.now.trees t) (sym (ap (λ (d : Database). d.trees) now)) made.rows in
      record {
        schema_is = ap (λ (d : Database). d.schema) now ∙ made.is ∙ ap (indexed schema table) same;
        empty = still_empty old.now.trees new.now.trees schema.tables rows has.empty;
      }

-- ---- meta

meta_is : Creates no_schema meta_text (record (table_of meta) { tree = 0 })
unfolding understood everything
meta_is = record { command = refl; whole = refl; defined = refl; plain = (refl, refl); unnumbered = refl }

makes_meta : (old new : State) (count : ℕ) → IsMade no_schema old → ExecutesIn true (ended meta_text) [] old new (Ok count) → IsMade schema1 new
makes_meta = makes no_schema meta_text (record (table_of meta) { tree = 0 }) meta_is

-- ---- jobs

jobs_is : Creates schema1 jobs_text (record (table_of jobs) { tree = 0 })
unfolding understood everything
jobs_is = record { command = refl; whole = refl; defined = refl; plain = (refl, refl); unnumbered = refl }

makes_jobs : (old new : State) (count : ℕ) → IsMade schema1 old → ExecutesIn true (ended jobs_text) [] old new (Ok count) → IsMade schema2 new
makes_jobs = makes schema1 jobs_text (record (table_of jobs) { tree = 0 }) jobs_is

-- ---- documents

documents_is : Creates schema2 documents_text (record (table_of documents) { tree = 0 })
unfolding understood everything
documents_is = record { command = refl; whole = refl; defined = refl; plain = (refl, refl); unnumbered = refl }

makes_documents : (old new : State) (count : ℕ) → IsMade schema2 old → ExecutesIn true (ended documents_text) [] old new (Ok count) → IsMade schema3 new
makes_documents = makes schema2 documents_text (record (table_of documents) { tree = 0 }) documents_is

-- ---- pieces

pieces_is : Creates schema3 pieces_text (record (table_of pieces) { tree = 0 })
unfolding understood everything
pieces_is = record { command = refl; whole = refl; defined = refl; plain = (refl, refl); unnumbered = refl }

makes_pieces : (old new : State) (count : ℕ) → IsMade schema3 old → ExecutesIn true (ended pieces_text) [] old new (Ok count) → IsMade schema4 new
makes_pieces = makes schema3 pieces_text (record (table_of pieces) { tree = 0 }) pieces_is

-- ---- accounts

accounts_is : Creates schema4 accounts_text (record (table_of accounts) { tree = 0 })
unfolding understood everything
accounts_is = record { command = refl; whole = refl; defined = refl; plain = (refl, refl); unnumbered = refl }

makes_accounts : (old new : State) (count : ℕ) → IsMade schema4 old → ExecutesIn true (ended accounts_text) [] old new (Ok count) → IsMade schema5 new
makes_accounts = makes schema4 accounts_text (record (table_of accounts) { tree = 0 }) accounts_is

-- ---- grants

grants_is : Creates schema5 grants_text (record (table_of grants) { tree = 0 })
unfolding understood everything
grants_is = record { command = refl; whole = refl; defined = refl; plain = (refl, refl); unnumbered = refl }

makes_grants : (old new : State) (count : ℕ) → IsMade schema5 old → ExecutesIn true (ended grants_text) [] old new (Ok count) → IsMade schema6 new
makes_grants = makes schema5 grants_text (record (table_of grants) { tree = 0 }) grants_is

-- ---- reports

reports_is : Creates schema6 reports_text (record (table_of reports) { tree = 0 })
unfolding understood everything
reports_is = record { command = refl; whole = refl; defined = refl; plain = (refl, refl); unnumbered = refl }

makes_reports : (old new : State) (count : ℕ) → IsMade schema6 old → ExecutesIn true (ended reports_text) [] old new (Ok count) → IsMade schema7 new
makes_reports = makes schema6 reports_text (record (table_of reports) { tree = 0 }) reports_is

-- ---- by_owner

by_owner_is : Indexes schema7 by_owner_text 1 (table_of jobs) (record by_owner { tree = 0 })
unfolding understood everything
by_owner_is = record { command = refl; whole = refl; placed = refl; defined = refl; plain = (refl, refl) }

makes_by_owner : (old new : State) (count : ℕ) → IsMade schema7 old → ExecutesIn true (ended by_owner_text) [] old new (Ok count) → IsMade schema8 new
makes_by_owner = indexes schema7 by_owner_text 1 (table_of jobs) (record by_owner { tree = 0 }) by_owner_is

-- ---- by_end

by_end_is : Indexes schema8 by_end_text 1 (table_of jobs) (record by_end { tree = 0 })
unfolding understood everything
by_end_is = record { command = refl; whole = refl; placed = refl; defined = refl; plain = (refl, refl) }

makes_by_end : (old new : State) (count : ℕ) → IsMade schema8 old → ExecutesIn true (ended by_end_text) [] old new (Ok count) → IsMade schema9 new
makes_by_end = indexes schema8 by_end_text 1 (table_of jobs) (record by_end { tree = 0 }) by_end_is

-- ---- by_phase

by_phase_is : Indexes schema9 by_phase_text 1 (table_of jobs) (record by_phase { tree = 0 })
unfolding understood everything
by_phase_is = record { command = refl; whole = refl; placed = refl; defined = refl; plain = (refl, refl) }

makes_by_phase : (old new : State) (count : ℕ) → IsMade schema9 old → ExecutesIn true (ended by_phase_text) [] old new (Ok count) → IsMade schema10 new
makes_by_phase = indexes schema9 by_phase_text 1 (table_of jobs) (record by_phase { tree = 0 }) by_phase_is

-- ---- policy

policy_is : Creates schema10 policy_text (record (table_of policy) { tree = 0 })
unfolding understood everything
policy_is = record { command = refl; whole = refl; defined = refl; plain = (refl, refl); unnumbered = refl }

makes_policy : (old new : State) (count : ℕ) → IsMade schema10 old → ExecutesIn true (ended policy_text) [] old new (Ok count) → IsMade schema11 new
makes_policy = makes schema10 policy_text (record (table_of policy) { tree = 0 }) policy_is

-- ---- by_age

by_age_is : Indexes schema11 by_age_text 1 (table_of jobs) (record by_age { tree = 0 })
unfolding understood everything
by_age_is = record { command = refl; whole = refl; placed = refl; defined = refl; plain = (refl, refl) }

makes_by_age : (old new : State) (count : ℕ) → IsMade schema11 old → ExecutesIn true (ended by_age_text) [] old new (Ok count) → IsMade schema12 new
makes_by_age = indexes schema11 by_age_text 1 (table_of jobs) (record by_age { tree = 0 }) by_age_is

-- ---- operators

operators_is : Creates schema12 operators_text (record (table_of operators) { tree = 0 })
unfolding understood everything
operators_is = record { command = refl; whole = refl; defined = refl; plain = (refl, refl); unnumbered = refl }

makes_operators : (old new : State) (count : ℕ) → IsMade schema12 old → ExecutesIn true (ended operators_text) [] old new (Ok count) → IsMade schema13 new
makes_operators = makes schema12 operators_text (record (table_of operators) { tree = 0 }) operators_is

-- ---- by_ended

by_ended_is : Indexes schema13 by_ended_text 1 (table_of jobs) (record by_ended { tree = 0 })
unfolding understood everything
by_ended_is = record { command = refl; whole = refl; placed = refl; defined = refl; plain = (refl, refl) }

makes_by_ended : (old new : State) (count : ℕ) → IsMade schema13 old → ExecutesIn true (ended by_ended_text) [] old new (Ok count) → IsMade schema14 new
makes_by_ended = indexes schema13 by_ended_text 1 (table_of jobs) (record by_ended { tree = 0 }) by_ended_is

sound_by_ended : (old new : State) (count : ℕ) → IsMade schema13 old → ExecutesIn true (ended by_ended_text) [] old new (Ok count) → IsDatabase new.now × IsTrue new.is_open
sound_by_ended old new count has h =
    let w = index_written schema13 by_ended_text 1 (table_of jobs) (record by_ended { tree = 0 }) by_ended_is old new count has h in
    (w.sound, w.shown.is_open)

pub all_made : schema14 ≡ book_schema
unfolding understood everything
all_made = refl

-- ---- the whole text, from its end

abbrev text13 : List ℕ
text13 = ended operators_text ++ ended by_ended_text

abbrev text12 : List ℕ
text12 = ended by_age_text ++ text13

abbrev text11 : List ℕ
text11 = ended policy_text ++ text12

abbrev text10 : List ℕ
text10 = ended by_phase_text ++ text11

abbrev text9 : List ℕ
text9 = ended by_end_text ++ text10

abbrev text8 : List ℕ
text8 = ended by_owner_text ++ text9

abbrev text7 : List ℕ
text7 = ended reports_text ++ text8

abbrev text6 : List ℕ
text6 = ended grants_text ++ text7

abbrev text5 : List ℕ
text5 = ended accounts_text ++ text6

abbrev text4 : List ℕ
text4 = ended pieces_text ++ text5

abbrev text3 : List ℕ
text3 = ended documents_text ++ text4

abbrev text2 : List ℕ
text2 = ended jobs_text ++ text3

abbrev pub whole_text : List ℕ
whole_text = ended meta_text ++ text2

-- each statement ends at its semicolon
record Ends (text rest : List ℕ) : Type 0 where
  len : first_len (ended text ++ rest) ≡ length (ended text)
  some : 0 < length (ended text)

meta_ends : Ends meta_text text2
unfolding past_semi everything
meta_ends = record { len = refl; some = omega arith }

jobs_ends : Ends jobs_text text3
unfolding past_semi everything
jobs_ends = record { len = refl; some = omega arith }

documents_ends : Ends documents_text text4
unfolding past_semi everything
documents_ends = record { len = refl; some = omega arith }

pieces_ends : Ends pieces_text text5
unfolding past_semi everything
pieces_ends = record { len = refl; some = omega arith }

accounts_ends : Ends accounts_text text6
unfolding past_semi everything
accounts_ends = record { len = refl; some = omega arith }

grants_ends : Ends grants_text text7
unfolding past_semi everything
grants_ends = record { len = refl; some = omega arith }

reports_ends : Ends reports_text text8
unfolding past_semi everything
reports_ends = record { len = refl; some = omega arith }

by_owner_ends : Ends by_owner_text text9
unfolding past_semi everything
by_owner_ends = record { len = refl; some = omega arith }

by_end_ends : Ends by_end_text text10
unfolding past_semi everything
by_end_ends = record { len = refl; some = omega arith }

by_phase_ends : Ends by_phase_text text11
unfolding past_semi everything
by_phase_ends = record { len = refl; some = omega arith }

policy_ends : Ends policy_text text12
unfolding past_semi everything
policy_ends = record { len = refl; some = omega arith }

by_age_ends : Ends by_age_text text13
unfolding past_semi everything
by_age_ends = record { len = refl; some = omega arith }

operators_ends : Ends operators_text (ended by_ended_text)
unfolding past_semi everything
operators_ends = record { len = refl; some = omega arith }

by_ended_ends : Ends by_ended_text []
unfolding past_semi everything
by_ended_ends = record { len = refl; some = omega arith }

module _ {S : Type 0} (g : Ghosts S) (new : Held S) where
  -- the statements before the rest have made these tables
  record Reached (schema : Schema) (rest : List ℕ) : Type 0 where
    mid : Held S
    made : IsMade schema (state g mid)
    less : ℕ
    ran : RunInTurn g (Some 0) less rest mid new (Ok tt)

  abbrev Makes : Schema → Schema → List ℕ → Type 1
  Makes schema next text = (old after : State) (count : ℕ) → IsMade schema old → ExecutesIn true (ended text) [] old after (Ok count) → IsMade next after

  step : (schema next : Schema) (text rest : List ℕ) → Ends text rest → Makes schema next text → Reached schema (ended text ++ rest) → Reached next rest
  step schema next text rest ends makes_it before =
      let ran = first_ran g before.less (ended text) rest before.mid new ends.len ends.some before.ran in
      record { mid = ran.0; made = makes_it (state g before.mid) (state g ran.0) ran.1 before.made ran.2; less = ran.3; ran = ran.4 }

  last_step : Reached schema13 (ended by_ended_text) → IsMade schema14 (state g new) × IsDatabase (state g new).now × IsTrue (state g new).is_open
  last_step before =
      let ran = first_ran g before.less (ended by_ended_text) [] before.mid new by_ended_ends.len by_ended_ends.some before.ran in
      let made = makes_by_ended (state g before.mid) (state g ran.0) ran.1 before.made ran.2 in
      let sound = sound_by_ended (state g before.mid) (state g ran.0) ran.1 before.made ran.2 in
      subst (λ (h : Held S). IsMade schema14 (state g h) × IsDatabase (state g h).now × IsTrue (state g h).is_open) (sym ran.4.1) (made, sound.0, sound.1)

  reached2 : Reached no_schema whole_text → Reached schema2 text3
  reached2 begun = step schema1 schema2 jobs_text text3 jobs_ends makes_jobs (step no_schema schema1 meta_text text2 meta_ends makes_meta begun)

  reached4 : Reached schema2 text3 → Reached schema4 text5
  reached4 two = step schema3 schema4 pieces_text text5 pieces_ends makes_pieces (step schema2 schema3 documents_text text4 documents_ends makes_documents two)

  reached6 : Reached schema4 text5 → Reached schema6 text7
  reached6 four = step schema5 schema6 grants_text text7 grants_ends makes_grants (step schema4 schema5 accounts_text text6 accounts_ends makes_accounts four)

  reached8 : Reached schema6 text7 → Reached schema8 text9
  reached8 six = step schema7 schema8 by_owner_text text9 by_owner_ends makes_by_owner (step schema6 schema7 reports_text text8 reports_ends makes_reports six)

  reached10 : Reached schema8 text9 → Reached schema10 text11
  reached10 eight = step schema9 schema10 by_phase_text text11 by_phase_ends makes_by_phase (step schema8 schema9 by_end_text text10 by_end_ends makes_by_end eight)

  reached12 : Reached schema10 text11 → Reached schema12 text13
  reached12 ten = step schema11 schema12 by_age_text text13 by_age_ends makes_by_age (step schema10 schema11 policy_text text12 policy_ends makes_policy ten)

  reached13 : Reached schema12 text13 → Reached schema13 (ended by_ended_text)
  reached13 twelve = step schema12 schema13 operators_text (ended by_ended_text) operators_ends makes_operators twelve

pub makes_all : {S : Type 0} (g : Ghosts S) (old new : Held S) → (state g old).now.schema ≡ no_schema → ExecutesAllInside g 0 whole_text old new (Ok tt) → IsMade schema14 (state g new) × IsDatabase (state g new).now × IsTrue (state g new).is_open
unfolding ExecutesAllInside
makes_all g old new blank ran =
    last_step g new (reached13 g new (reached12 g new (reached10 g new (reached8 g new (reached6 g new (reached4 g new (reached2 g new (record { mid = old; made = record { schema_is = blank; empty = tt }; less = length whole_text; ran = ran }))))))))
