-- What one INSERT, UPDATE or SELECT does, whatever the table.
use Rattle.std.proofs.Common.{if◌then◌else◌, ◌≡◌, ◌⊎◌, inl, inr, ℕ, ◌/◌, pos, List, [], ◌∷◌, ◌++◌, map, filter, flat_map, length, take, slice_get, unwrap_or, Option, Some, None, Ok, Err, Result, refl, sym, ap, subst, ◌∙◌, append-nil}
use Rattle.std.specs.List.Sorted.{IsPermutation, IsSorted}
use Rattle.sqlite.specs.declared.types.Value.TheVariants.{Null, Int}
use Rattle.sqlite.specs.Order.{Row, column}
use Rattle.sqlite.specs.Term.{Term, col, eval_all}
use Rattle.sqlite_value.specs.declared.keys.Key.{Key}
use Rattle.std.proofs.lemmas.Bool.{cases_Bool}
use Rattle.sqlite.specs.Query.{IsAnswer, output, output_cmp, Output}
use Rattle.sqlite.specs.Program.{overlay}
use Rattle.sqlite.specs.Schema.{Schema}
use Rattle.sqlite.specs.Source.TheVariants.{Values}
use Rattle.sqlite.specs.Command.TheVariants.{Insert, Update}
use Rattle.sqlite.specs.Edit.{edit_of, Edit, Applies}
use Rattle.sqlite.specs.Rowids.TheVariants.{Chosen, Given}
use Rattle.sqlite.specs.Tree.{Trees}
use Rattle.sqlite.specs.Does.{Tally, Does, OnRows}
use Rattle.sqlite.specs.Rows.{Written, Task}
use Rattle.sqlite.specs.Effect.{Database, IsDatabase, value_rows}
use Rattle.sqlite.specs.Listing.{understood}
use Rattle.sqlite.specs.State.{State, mode_of, Executes, Begins, Shown, Shows}
use Rattle.sqlite.proofs.Callers.{IsPlain, command_of, statement_of, runs_as, begins_as, reads_as, one_step}
use Rattle.sqlite_schema.specs.declared.schema.Keys.TheVariants.{Enforced}
use Rattle.sqlite_rules.specs.Action.{works}
use Rattle.sqlite_rules.specs.Calls.{ids_of}
use Rattle.queue_tables.specs.Plain.{Plain, table_of}
use Rattle.queue_tables.proofs.PlainQueries.{plain_query, passes, shown_of}
use Rattle.queue_tables.specs.Tables.{book_schema}
use Rattle.queue_tables.proofs.Statements.{IsSelection, Selection}

-- one write of rows: the schema stays, which the trees list and obey, and each tree but this table's is as it was
pub record Wrote (schema : Schema) (edit : Edit) (old new : State) : Type 0 where
  pub schema_is : new.now.schema ≡ schema
  pub sound : IsDatabase new.now
  pub applies : Applies schema Enforced old.now.trees edit new.now.trees
  pub shows : Shows old new new.now (if old.in_transaction then old.committed else new.now) old.in_transaction

-- a part that gave a value did not stop on the way
pub went : {B E R : Type 0} {b : B} {Stops : E → Type 0} → ((stop : E) × Stops stop × (Ok b ≡ Err stop)) ⊎ R → R
went (inl stopped) = absurd (let e = stopped.2 in cc)
went (inr on) = on

pub same_value : {B E : Type 0} {a b : B} → ◌≡◌ {A = Result B E} (Ok a) (Ok b) → a ≡ b
same_value e = cc

module _ (schema : Schema) (sql : List ℕ) (at : ℕ) (p : Plain) (terms : List Term) (width : ℕ)
    (is : command_of (understood schema sql) ≡ Insert at (Values terms width)) (plain : IsPlain (understood schema sql))
    (placed : slice_get schema.tables at ≡ Some (table_of p)) (still : (news : List Row) → works schema Enforced 0 p.tree [] news ≡ []) where
  -- INSERT of one row of terms
  pub inserts : (old new : State) (params row : Row) (count : ℕ) → old.now.schema ≡ schema → value_rows params width (length terms / width) terms ≡ row ∷ []
      → Executes sql params old new (Ok count) → Wrote schema (edit_of old.now.trees (table_of p) [] Chosen 0 (row ∷ [])) old new
  inserts old new params row count has one h =
      let db = old.now.trees in
      let command = Insert at (Values terms width) in
      let w = runs_as sql params old new schema has command is plain count h in
      let text = statement_of sql (understood schema sql) in
      let did = subst (λ s. Does old.step_limit (mode_of old) params (record old.now { schema = s }) text None command (Ok (w.tally, new.now))) has w.changed in
      let task : Task = record { limit = old.step_limit; keys = Enforced; schema = schema; table = table_of p; params = params } in
      let found : OnRows task (mode_of old) None command db (Ok (w.tally, new.now)) = rw placed at did in
      let done = went found in
      let now = ap (λ (p : Tally × Database). p.1) (same_value (went (went done.2).2).2) in
      let given = went done.1 in
      let written = went (went given.2).2 in
      let counted = went written.2 in
      let trees : done.0.trees ≡ written.0 = ap (λ (it : Written). it.trees) (same_value counted.2) ∙ same_value counted.1 in
      let rows : given.0 ≡ row ∷ [] = given.1.1 ∙ rw (append-nil params) one in
      let applied = one_step schema Enforced db written.0 (edit_of db (table_of p) [] Chosen 0 given.0) (still _) written.1 in
      let same : new.now.trees ≡ written.0 = ap (λ (d : Database). d.trees) now ∙ trees in
      record {
        schema_is = ap (λ (d : Database). d.schema) now;
        sound = w.sound;
        applies = subst (λ (t : Trees). Applies schema Enforced db (edit_of db (table_of p) [] Chosen 0 (row ∷ [])) t) (sym same) (subst (λ (rs : List Row). Applies schema Enforced db (edit_of db (table_of p) [] Chosen 0 rs) written.0) rows applied);
        shows = w.shown;
      }

-- ---- queries over one table

-- a row as it is sorted, and as it is shown
abbrev pub sorted_and_shown : List (Term × Key) → List Term → Row → Row → Output
sorted_and_shown order project params r = (eval_all (map (λ k. k.0) order) (params ∷ r ∷ []), shown_of project params r)

module _ (tree : ℕ) (terms project : List Term) (order : List (Term × Key)) (params : Row) where
  abbrev pub kept_of : List Row → List Output
  kept_of rs = map (sorted_and_shown order project params) (filter (passes terms params) rs)

  kept_is : (rs : List Row) → map (output (plain_query tree terms project order)) (flat_map (λ r. if passes terms params r then (params ∷ r ∷ []) ∷ [] else []) rs) ≡ kept_of rs
  kept_is [] = refl
  kept_is (r ∷ rs) = elim (cases_Bool (passes terms params r)) [
    | inl passed ↦ rw (passed, kept_is rs)
    | inr failed ↦ rw (failed, kept_is rs)
  ]

  -- the answer is what passes WHERE, shown, in an order that ORDER BY allows
  pub record IsListing (rs : List Row) (rows : List Row) : Type 0 where
    pub ordered : List Output
    pub same : IsPermutation (kept_of rs) ordered
    pub sorted : IsSorted (output_cmp (plain_query tree terms project order)) ordered
    pub shown : rows ≡ map (λ o. o.1) ordered

  pub lists : (db : Trees) (rows : List Row) → overlay db [] tree ≡ db tree → IsAnswer (plain_query tree terms project order) (overlay db []) params rows → IsListing (db tree) rows
  lists db rows plainly a =
      let kept : a.kept ≡ kept_of (db tree) = a.distinct ∙ ap (map (output (plain_query tree terms project order))) a.grouped ∙ rw plainly (kept_is (db tree)) in
      record { ordered = a.ordered; same = subst (λ k. IsPermutation k a.ordered) kept a.same; sorted = a.sorted; shown = a.shown }

  -- the same under LIMIT: the first of what passes WHERE
  pub lists_first : (at n : ℕ) (db : Trees) (rows : List Row) → overlay db [] tree ≡ db tree → column params at ≡ Int (pos n)
      → IsAnswer (record (plain_query tree terms project order) { limit = col 0 at }) (overlay db []) params rows
      → (ordered : List Output) × IsPermutation (kept_of (db tree)) ordered × IsSorted (output_cmp (plain_query tree terms project order)) ordered × (rows ≡ take n (map (λ o. o.1) ordered))
  lists_first at n db rows plainly is a =
      let kept : a.kept ≡ kept_of (db tree) = a.distinct ∙ ap (map (output (plain_query tree terms project order))) a.grouped ∙ rw plainly (kept_is (db tree)) in
      (a.ordered, subst (λ k. IsPermutation k a.ordered) kept a.same, a.sorted, a.shown ∙ rw is refl)

module _ (schema : Schema) (sql : List ℕ) (at : ℕ) (p : Plain) (terms project : List Term)
    (is : command_of (understood schema sql) ≡ Update at (record { lets = []; body = plain_query p.tree terms project [] })) (plain : IsPlain (understood schema sql))
    (placed : slice_get schema.tables at ≡ Some (table_of p)) (plainly : (db : Trees) → overlay db [] p.tree ≡ db p.tree)
    (still : (olds news : List Row) → works schema Enforced 0 p.tree olds news ≡ []) where
  -- UPDATE of the rows that pass WHERE
  pub updates : (old new : State) (params : Row) (count : ℕ) → old.now.schema ≡ schema → Executes sql params old new (Ok count)
      → (rows : List Row) × IsListing p.tree terms project [] params (old.now.trees p.tree) rows × Wrote schema (edit_of old.now.trees (table_of p) (ids_of rows) Given 1 rows) old new × (count ≡ length (edit_of old.now.trees (table_of p) (ids_of rows) Given 1 rows).news)
  updates old new params count has h =
      let db = old.now.trees in
      let command = Update at (record { lets = []; body = plain_query p.tree terms project [] }) in
      let w = runs_as sql params old new schema has command is plain count h in
      let text = statement_of sql (understood schema sql) in
      let did = subst (λ s. Does old.step_limit (mode_of old) params (record old.now { schema = s }) text None command (Ok (w.tally, new.now))) has w.changed in
      let task : Task = record { limit = old.step_limit; keys = Enforced; schema = schema; table = table_of p; params = params } in
      let found : OnRows task (mode_of old) None command db (Ok (w.tally, new.now)) = rw placed at did in
      let done = went found in
      let now = ap (λ (p : Tally × Database). p.1) (same_value (went (went done.2).2).2) in
      let given = went done.1 in
      let written = went given.2 in
      let trees : done.0.trees ≡ written.0 = ap (λ (it : Written). it.trees) (same_value written.2) in
      let applied = one_step schema Enforced db written.0 (edit_of db (table_of p) (ids_of given.0) Given 1 given.0) (still _ _) written.1 in
      let same : new.now.trees ≡ written.0 = ap (λ (d : Database). d.trees) now ∙ trees in
      let listed = lists p.tree terms project [] params db given.0 (plainly db) (given.1.answer Null) in
      let pair = same_value (went (went done.2).2).2 in
      let news = (edit_of db (table_of p) (ids_of given.0) Given 1 given.0).news in
      let made : done.0.rows ≡ news = ap (λ (it : Written). it.rows) (same_value written.2) in
      let told : w.tally.rows ≡ Some (length done.0.rows) = ap (λ (q : Tally × Database). q.0.rows) pair in
      let counted : count ≡ length news = w.counted ∙ ap (λ (o : Option ℕ). unwrap_or o 0) told ∙ ap (length {A = Row}) made in (
        given.0,
        listed,
        record {
          schema_is = ap (λ (d : Database). d.schema) now;
          sound = w.sound;
          applies = subst (λ (t : Trees). Applies schema Enforced db (edit_of db (table_of p) (ids_of given.0) Given 1 given.0) t) (sym same) applied;
          shows = w.shown;
        },
        counted,
      )

module _ (q : Selection) (is : IsSelection q) where
  abbrev pub IsListed : Row → List Row → List Row → Type 0
  IsListed params = IsListing q.tree q.filter q.terms q.order params

  -- the first rows that it shows
  pub begins_rows : (old new : State) (params : Row) (rows : List Row) → old.now.schema ≡ book_schema → Begins q.text params old rows → (rest : List Row) × IsListed params (old.now.trees q.tree) (rows ++ rest)
  begins_rows old new params rows has h =
      let got = (begins_as q.text params old new book_schema has _ is.shows.command is.shows.plain is.shows.unlisted rows h).1 in
      (got.0, lists q.tree q.filter q.terms q.order params old.now.trees (rows ++ got.0) (is.plainly old.now.trees) (got.1 Null))

  -- all rows
  pub reads_rows : (old new : State) (params : Row) (rows : List Row) → old.now.schema ≡ book_schema → Shown q.text params old new rows → IsListed params (old.now.trees q.tree) rows
  reads_rows old new params rows has h =
      let got = reads_as q.text params old new book_schema has _ is.shows.command is.shows.plain is.shows.unlisted rows h in
      lists q.tree q.filter q.terms q.order params old.now.trees rows (is.plainly old.now.trees) (got.answer Null)
