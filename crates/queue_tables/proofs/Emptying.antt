-- What a DELETE of all rows leaves of a table.
use Rattle.std.proofs.Common.{◌≡◌, ℕ, ℤ, List, [], ◌∷◌, map, filter, slice_get, Bool, true, false, not, None, Some, Ok, inl, inr, refl, sym, ap, subst, ◌∙◌, ◌&&◌, ◌||◌, arith, is_eq}
use Rattle.std.specs.Prelude.{⊤}
use Rattle.std.specs.Cmp.{tied_itself}
use Rattle.std.specs.List.{list_any}
use Rattle.std.specs.List.Sorted.{IsPermutation}
use Rattle.std.proofs.lemmas.Bool.{cases_Bool}
use Rattle.std.proofs.lemmas.List.Sorted.{IsPermutation-map, IsPermutation-refl, list_any-IsPermutation}
use Rattle.sqlite.specs.Command.TheVariants.{Delete}
use Rattle.sqlite.specs.Does.{Does, OnRows, Tally}
use Rattle.sqlite.specs.Edit.{Applies, edit_of, without_all}
use Rattle.sqlite.specs.Effect.{Database}
use Rattle.sqlite.specs.Listing.{understood}
use Rattle.sqlite.specs.Order.{Row, value_cmp}
use Rattle.sqlite.specs.Program.{overlay}
use Rattle.sqlite.specs.Query.{Output}
use Rattle.sqlite.specs.Rowids.TheVariants.{Given}
use Rattle.sqlite.specs.Rows.{Task, Written}
use Rattle.sqlite.specs.Schema.{Schema}
use Rattle.sqlite.specs.State.{State, Executes, mode_of}
use Rattle.sqlite.specs.Tree.{Trees, has_rowid, rowid, without_rowid}
use Rattle.sqlite.specs.declared.types.Value.{Value}
use Rattle.sqlite.specs.declared.types.Value.TheVariants.{Int, Null}
use Rattle.sqlite.proofs.Callers.{IsPlain, command_of, one_step, runs_as, statement_of}
use Rattle.sqlite_rules.proofs.ListLemmas.{all_from, some_from}
use Rattle.sqlite_rules.proofs.TableLemmas.{int_is}
use Rattle.sqlite_rules.specs.Action.{works}
use Rattle.sqlite_rules.specs.Calls.{ids_of}
use Rattle.sqlite_rules.specs.Edit.{id_in, taken_by}
use Rattle.sqlite_rules.specs.Lists.{Has}
use Rattle.sqlite_schema.specs.declared.schema.Keys.TheVariants.{Enforced}
use Rattle.sqlite_trees.proofs.ListLemmas.{all_of, filter_all, filter_none, map-map}
use Rattle.sqlite_trees.specs.View.{is_int}
use Rattle.sqlite_value.proofs.OrderLemmas.{value_cmp_total}
use Rattle.queue_tables.specs.Kept.{AreKeyed, HasRows}
use Rattle.queue_tables.specs.Plain.{Plain, table_of}
use Rattle.queue_tables.proofs.Changing.{Left}
use Rattle.queue_tables.proofs.Permuting.{has_at}
use Rattle.queue_tables.proofs.PlainQueries.{passes, plain_query}
use Rattle.queue_tables.proofs.Statements.{rowid_alone}
use Rattle.queue_tables.proofs.Writing.{IsListing, Wrote, kept_of, lists, same_value, sorted_and_shown, went}

-- ---- rows that are taken out by their rowids

filter_twice : (p q s : Row → Bool) → ((r : Row) → s r ≡ (q r && p r)) → (rows : List Row) → filter p (filter q rows) ≡ filter s rows
filter_twice p q s both [] = refl
filter_twice p q s both (r ∷ rows) = elim (cases_Bool (q r)) [
  | inl passed ↦ elim (cases_Bool (p r)) [
    | inl also ↦ let here : s r ≡ true = both r ∙ rw (passed, also) refl in rw (passed, also, here) (ap (λ (k : List Row). r ∷ k) (filter_twice p q s both rows))
    | inr fails ↦ let here : s r ≡ false = both r ∙ rw (passed, fails) refl in rw (passed, fails, here) (filter_twice p q s both rows)
  ]
  | inr failed ↦ let here : s r ≡ false = both r ∙ rw failed refl in rw (failed, here) (filter_twice p q s both rows)
]

not_or : (a b : Bool) → not (a || b) ≡ (not a && not b)
not_or true b = refl
not_or false b = refl

without_is : (ids : List ℤ) (rows : List Row) → without_all rows ids ≡ filter (λ r. not (list_any (λ id. has_rowid id r) ids)) rows
without_is [] rows = sym (filter_all (λ (r : Row). true) rows (all_of (λ (r : Row). true ≡ true) (λ r. refl) rows))
without_is (id ∷ ids) rows =
    without_is ids (without_rowid id rows)
    ∙ filter_twice (λ r. not (list_any (λ id. has_rowid id r) ids)) (λ r. not (has_rowid id r)) (λ r. not (list_any (λ id. has_rowid id r) (id ∷ ids))) (λ r. not_or (has_rowid id r) (list_any (λ id. has_rowid id r) ids)) rows

has_own : (v : Value) (id : ℤ) → v ≡ Int id → is_eq (value_cmp v (Int id)) ≡ true
has_own v id is = rw is (ap is_eq (tied_itself value_cmp_total (Int id)))

has_id : (rows : List Row) (r : Row) → Has rows r → Has (ids_of rows) (id_in (rowid r))
has_id [] r there = absurd there
has_id (s ∷ rows) r (inl same) = inl (ap (λ (r : Row). id_in (rowid r)) same)
has_id (s ∷ rows) r (inr more) = inr (has_id rows r more)

-- the rowids of all rows take all of them out
none_left : (rows : List Row) (ids : List ℤ) → AreKeyed rows → IsPermutation (ids_of rows) ids → without_all rows ids ≡ []
none_left rows ids keyed same =
    without_is ids rows
    ∙ filter_none (λ r. not (list_any (λ id. has_rowid id r) ids)) rows
    (all_from (λ r. not (list_any (λ id. has_rowid id r) ids) ≡ false) rows
    (λ r there.
    let int = has_at (λ (r : Row). is_int (rowid r) ≡ true) rows r keyed.ints there in
    let own = has_own (rowid r) (id_in (rowid r)) (int_is (rowid r) int) in
    ap not (sym (list_any-IsPermutation (λ id. has_rowid id r) (ids_of rows) ids same) ∙ some_from (λ id. has_rowid id r) (ids_of rows) (id_in (rowid r)) (has_id rows r there) own)))

-- ---- one DELETE

module _ (schema : Schema) (sql : List ℕ) (at : ℕ) (p : Plain)
    (is : command_of (understood schema sql) ≡ Delete at (record { lets = []; body = plain_query p.tree [] rowid_alone [] })) (plain : IsPlain (understood schema sql))
    (placed : slice_get schema.tables at ≡ Some (table_of p)) (plainly : (db : Trees) → overlay db [] p.tree ≡ db p.tree)
    (still : (olds news : List Row) → works schema Enforced 0 p.tree olds news ≡ []) where
  deletes : (old new : State) (params : Row) (count : ℕ) → old.now.schema ≡ schema → Executes sql params old new (Ok count)
      → (rows : List Row) × IsListing p.tree [] rowid_alone [] params (old.now.trees p.tree) rows × Wrote schema (edit_of old.now.trees (table_of p) (ids_of rows) Given 0 []) old new
  deletes old new params count has h =
      let db = old.now.trees in
      let command = Delete at (record { lets = []; body = plain_query p.tree [] rowid_alone [] }) in
      let w = runs_as sql params old new schema has command is plain count h in
      let text = statement_of sql (understood schema sql) in
      let did = subst (λ s. Does old.step_limit (mode_of old) params (record old.now { schema = s }) text None command (Ok (w.tally, new.now))) has w.changed in
      let task : Task = record { limit = old.step_limit; keys = Enforced; schema = schema; table = table_of p; params = params } in
      let found : OnRows task (mode_of old) None command db (Ok (w.tally, new.now)) = rw placed at did in
      let done = went found in
      let now = ap (λ (p : Tally × Database). p.1) (same_value (went (went done.2).2).2) in
      let given = went done.1 in
      let written = went given.2 in
      let trees : done.0.trees ≡ written.0 = ap (λ (it : Written). it.trees) (same_value written.2) in
      let cut = edit_of db (table_of p) (ids_of given.0) Given 0 [] in
      let applied = one_step schema Enforced db written.0 cut (still (taken_by db cut) cut.news) written.1 in
      let same : new.now.trees ≡ written.0 = ap (λ (d : Database). d.trees) now ∙ trees in (
        given.0,
        lists p.tree [] rowid_alone [] params db given.0 (plainly db) (given.1.answer Null),
        record {
          schema_is = ap (λ (d : Database). d.schema) now;
          sound = w.sound;
          applies = subst (λ (t : Trees). Applies schema Enforced db cut t) (sym same) applied;
          shows = w.shown;
        },
      )

  -- no row is left
  pub empties : (cells : Row → Row) (values : List Row) (old new : State) (params : Row) (count : ℕ) → old.now.schema ≡ schema → HasRows ⊤ cells values (old.now.trees p.tree)
      → Executes sql params old new (Ok count) → Left ⊤ schema cells p.tree [] old new
  empties cells values old new params count has rows h =
      let before = old.now.trees p.tree in
      let u = deletes old new params count has h in
      let kept = kept_of p.tree [] rowid_alone [] params before in
      let id = λ (o : Output). id_in (rowid o.1) in
      let every : filter (passes [] params) before ≡ before = filter_all (passes [] params) before (all_of (λ (r : Row). passes [] params r ≡ true) (λ r. refl) before) in
      let shown : ids_of u.0 ≡ map id u.1.ordered = ap ids_of u.1.shown ∙ map-map (λ (r : Row). id_in (rowid r)) (λ (o : Output). o.1) u.1.ordered in
      let all : map id kept ≡ ids_of before = map-map id (sorted_and_shown [] rowid_alone params) (filter (passes [] params) before) ∙ ap ids_of every in
      let moved : IsPermutation (ids_of before) (ids_of u.0)
      = subst (λ (k : List ℤ). IsPermutation k (ids_of u.0)) all (subst (IsPermutation (map id kept)) (sym shown) (IsPermutation-map id kept u.1.ordered u.1.same)) in
      let after : new.now.trees p.tree ≡ [] = u.2.applies.rows ∙ none_left before (ids_of u.0) (rows.keyed tt) moved in
      record {
        schema_is = u.2.schema_is;
        sound = u.2.sound;
        rows = subst (HasRows ⊤ cells []) (sym after) (record { same = IsPermutation-refl []; keyed = λ k. record { ints = λ i d h. absurd (omega arith); apart = λ id. omega arith } });
        others = u.2.applies.tables;
      }
