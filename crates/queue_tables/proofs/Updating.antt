-- An UPDATE that leaves the key of its row as it was is never refused.
use Rattle.std.proofs.Common.{◌≡◌, ◌≢◌, inl, inr, ℕ, ℤ, List, [], ◌∷◌, filter, drop, slice_get, Bool, true, Some, Err, refl, ap, subst, ◌∙◌, eq-eqb}
use Rattle.std.specs.Prelude.{⊤}
use Rattle.std.proofs.lemmas.Bool.{cases_eq, and_from, both_ways, not_from_false, ne_eqb}
use Rattle.sqlite.specs.declared.types.Value.TheVariants.{Int}
use Rattle.sqlite.specs.Order.{Row}
use Rattle.sqlite.specs.Term.{Term}
use Rattle.sqlite.specs.Program.{overlay}
use Rattle.sqlite.specs.Table.{Table}
use Rattle.sqlite.specs.Cast.{cast_row}
use Rattle.sqlite.specs.Command.TheVariants.{Update}
use Rattle.sqlite.specs.Edit.{edit_of, edited, Edit, Applies}
use Rattle.sqlite.specs.Rowids.TheVariants.{Given}
use Rattle.sqlite.specs.Tree.{Trees, rowid, with_tree, put_row, without_rowid}
use Rattle.sqlite.specs.Listing.{understood}
use Rattle.sqlite.specs.State.{State, ExecutesInside}
use Rattle.sqlite.proofs.Callers.{IsPlain, command_of}
use Rattle.sqlite_schema.specs.declared.schema.Constraint.{Constraint}
use Rattle.sqlite_schema.specs.declared.schema.Constraint.TheVariants.{Datatype, NotNull, Check, PrimaryKey, Unique, ForeignKey}
use Rattle.sqlite_schema.specs.declared.schema.Keys.TheVariants.{Enforced}
use Rattle.sqlite_schema.specs.declared.schema.Among.TheVariants.{All as EachKey}
use Rattle.sqlite_schema.specs.Rules.{Obeys, Refers, are_typed, are_present}
use Rattle.sqlite_trees.specs.View.{is_int}
use Rattle.sqlite_rules.specs.declared.error.Refusal.TheVariants.{Violates}
use Rattle.sqlite_rules.specs.Action.{works}
use Rattle.sqlite_rules.specs.Edit.{IsRefused, id_in}
use Rattle.sqlite_rules.specs.Calls.{ids_of}
use Rattle.sqlite_rules.specs.Lists.{Has}
use Rattle.sqlite_rules.proofs.ListLemmas.{all_has}
use Rattle.sqlite_rules.proofs.RuleLemmas.{keeps_same, refers_same}
use Rattle.sqlite_rules.proofs.TableLemmas.{int_is}
use Rattle.queue_tables.specs.Plain.{Plain, table_of}
use Rattle.queue_tables.specs.Tables.{book_schema}
use Rattle.queue_tables.specs.Kept.{HasRows, AreKeyed}
use Rattle.queue_tables.proofs.PlainQueries.{plain_query, passes, shown_of}
use Rattle.queue_tables.proofs.Writing.{IsListing}
use Rattle.queue_tables.proofs.Permuting.{kept_is_there, has_at}
use Rattle.queue_tables.proofs.Changing.{none_listed, none_passing, one_listed, one_passing}
use Rattle.queue_tables.proofs.Refused.{told, IsRefusedWrite, update_refused}
use Rattle.queue_tables.proofs.Standing.{IsAlike, AreKeys, Renews, is_free, row_renewed, unique_stands, refers_stands}

-- ---- the trees with one of them put anew

put_there : (db : Trees) (tree : ℕ) (rows : List Row) → with_tree db tree rows tree ≡ rows
put_there db tree rows = rw (eq-eqb tree tree refl) refl

put_elsewhere : (db : Trees) (tree : ℕ) (rows : List Row) (t : ℕ) → t ≢ tree → with_tree db tree rows t ≡ db t
put_elsewhere db tree rows t other = rw (ne_eqb t tree other) refl

-- ---- edits of a table that keep its keys

module _ (p : Plain) (columns : List ℕ) (keys : AreKeys book_schema p.tree columns) (db : Trees) (obeys : Obeys book_schema db) where
  -- nothing is taken out, and nothing put in
  abbrev idle : Edit
  idle = record { table = table_of p; gone = []; news = [] }

  idle_refused : (rule : Constraint) → IsRefused book_schema Enforced db idle (Violates rule) → ⊥
  idle_refused Unique h = h (keeps_same book_schema db (with_tree db p.tree (db p.tree)) (λ t listed. elim (cases_eq t.tree p.tree) [
    | inl same ↦ rw same (put_there db p.tree (db p.tree))
    | inr other ↦ put_elsewhere db p.tree (db p.tree) t.tree other
  ]) Unique (obeys.rules Unique))
  idle_refused ForeignKey h = h
  idle_refused _ h = cc

  idle_refers : (next : Trees) → Applies book_schema Enforced db idle next → Refers EachKey book_schema next
  idle_refers next applies = refers_same EachKey book_schema db next (λ t listed. elim (cases_eq t.tree p.tree) [
    | inl same ↦ rw same applies.rows
    | inr other ↦ all_has (λ (k : Table). k.tree ≢ p.tree → next k.tree ≡ db k.tree) book_schema.tables t applies.tables listed other
  ]) (obeys.rules ForeignKey)

  idle_stands : (rule : Constraint) → ¬ IsRefusedWrite book_schema db idle rule
  idle_stands rule (inl refused) = idle_refused rule refused
  idle_stands rule (inr stray) = stray.2 (idle_refers stray.0 stray.1)

  module _ (id : ℤ) (was put : Row) (was_is : rowid was ≡ Int id) (put_is : rowid put ≡ Int id) (keyed : AreKeyed (db p.tree)) (there : Has (db p.tree) was) (alike : IsAlike (0 ∷ columns) was put)
      (typed : are_typed p.key 0 p.columns (drop 1 put) ≡ true) (present : are_present p.key 0 p.columns put ≡ true) where
    -- one row is put in the place of the one with its rowid
    abbrev swap : Edit
    swap = record { table = table_of p; gone = id ∷ []; news = put ∷ [] }

    renewed : (next : Trees) → next p.tree ≡ put_row put (without_rowid id (db p.tree)) → ((t : Table) → Has book_schema.tables t → t.tree ≢ p.tree → next t.tree ≡ db t.tree) → Renews book_schema p.tree columns db next
    renewed next rows others = row_renewed book_schema p.tree columns db next id was put was_is put_is keyed there alike rows others

    swap_refused : (rule : Constraint) → IsRefused book_schema Enforced db swap (Violates rule) → ⊥
    swap_refused Datatype h = both_ways _ h (and_from _ _ (and_from _ _ typed refl) refl)
    swap_refused NotNull h = both_ways _ h (and_from _ _ present refl)
    swap_refused Check h = cc
    swap_refused PrimaryKey h = both_ways _ h (and_from _ _ (not_from_false _ (is_free id put (db p.tree) put_is)) refl)
    swap_refused Unique h =
        let next = with_tree db p.tree (edited db swap) in
        h (unique_stands book_schema p.tree columns db next keys (renewed next (put_there db p.tree (edited db swap)) (λ t listed other. put_elsewhere db p.tree (edited db swap) t.tree other)) (obeys.rules Unique))
    swap_refused ForeignKey h = h

    swap_refers : (next : Trees) → Applies book_schema Enforced db swap next → Refers EachKey book_schema next
    swap_refers next applies = refers_stands book_schema p.tree columns db next keys (renewed next applies.rows (λ t listed other. all_has (λ (k : Table). k.tree ≢ p.tree → next k.tree ≡ db k.tree) book_schema.tables t applies.tables listed other)) (obeys.rules ForeignKey)

    swap_stands : (rule : Constraint) → ¬ IsRefusedWrite book_schema db swap rule
    swap_stands rule (inl refused) = swap_refused rule refused
    swap_stands rule (inr stray) = stray.2 (swap_refers stray.0 stray.1)

-- ---- the UPDATE

module _ (sql : List ℕ) (at : ℕ) (p : Plain) (terms project : List Term)
    (is : command_of (understood book_schema sql) ≡ Update at (record { lets = []; body = plain_query p.tree terms project [] })) (plain : IsPlain (understood book_schema sql))
    (placed : slice_get book_schema.tables at ≡ Some (table_of p)) (plainly : (db : Trees) → overlay db [] p.tree ≡ db p.tree)
    (still : (olds news : List Row) → works book_schema Enforced 0 p.tree olds news ≡ [])
    (columns : List ℕ) (keys : AreKeys book_schema p.tree columns) (cells : Row → Row) (values : List Row) (q : Row → Bool) where
  -- the row that is put keeps the key of the one that was there, and has a value of the type of each column
  abbrev pub Fits : Row → Row → (ℤ → Row) → Type 0
  Fits params t put = (r : Row) (id : ℤ) → rowid r ≡ Int id → cells r ≡ t
      → (shown_of project params r ≡ Int id ∷ put id) × (cast_row (table_of p) (put id) ≡ put id) × (rowid (put id) ≡ Int id) × IsAlike (0 ∷ columns) r (put id)
      × (are_typed p.key 0 p.columns (drop 1 (put id)) ≡ true) × (are_present p.key 0 p.columns (put id) ≡ true)

  was_stands : (db : Trees) (params t was : Row) (put : ℤ → Row) (rule : Constraint) → Obeys book_schema db → Fits params t put → HasRows ⊤ cells values (db p.tree)
      → filter (passes terms params) (db p.tree) ≡ was ∷ [] → cells was ≡ t → (rows : List Row) → IsListing p.tree terms project [] params (db p.tree) rows
      → ¬ IsRefusedWrite book_schema db (edit_of db (table_of p) (ids_of rows) Given 1 rows) rule
  was_stands db params t was put rule obeys fits has alone like rows listed h =
      let there = kept_is_there (passes terms params) (db p.tree) was alone in
      let id = id_in (rowid was) in
      let keyed : rowid was ≡ Int id = int_is (rowid was) (has_at (λ (r : Row). is_int (rowid r) ≡ true) (db p.tree) was (has.keyed tt).ints there) in
      let it = fits was id keyed like in
      let given : rows ≡ (Int id ∷ put id) ∷ [] = one_listed p.tree terms project params (db p.tree) rows listed was alone ∙ ap (λ (r : Row). r ∷ []) it.0 in
      let swapped : Row → Edit = λ (n : Row). record { table = table_of p; gone = id ∷ []; news = n ∷ [] } in
      let same : edit_of db (table_of p) (ids_of rows) Given 1 rows ≡ swapped (put id) = ap (λ (rs : List Row). edit_of db (table_of p) (ids_of rs) Given 1 rs) given ∙ ap swapped it.1 in
      swap_stands p columns keys db obeys id was (put id) keyed it.2 (has.keyed tt) there it.3 it.4 it.5 rule (subst (λ (e : Edit). IsRefusedWrite book_schema db e rule) same h)

  -- UPDATE of the one row that WHERE lets through
  pub update_stands : (old new : State) (params t : Row) (put : ℤ → Row) (rule : Constraint) → old.now.schema ≡ book_schema → Obeys book_schema old.now.trees → ((r : Row) → passes terms params r ≡ q (cells r))
      → Fits params t put → HasRows ⊤ cells values (old.now.trees p.tree) → filter q values ≡ t ∷ [] → ¬ ExecutesInside 0 sql params old new (Err (told rule))
  update_stands old new params t put rule has obeys alike fits rows one h =
      let db = old.now.trees in
      let u = update_refused book_schema sql at p terms project is plain placed plainly still old new params rule has h in
      let was = one_passing cells values (db p.tree) rows (passes terms params) q alike t one in
      was_stands db params t was.0 put rule obeys fits rows was.1 was.2 u.0 u.1 u.2

  -- UPDATE where WHERE lets nothing through
  pub update_none_stands : (old new : State) (params : Row) (rule : Constraint) → old.now.schema ≡ book_schema → Obeys book_schema old.now.trees → ((r : Row) → passes terms params r ≡ q (cells r))
      → HasRows ⊤ cells values (old.now.trees p.tree) → filter q values ≡ [] → ¬ ExecutesInside 0 sql params old new (Err (told rule))
  update_none_stands old new params rule has obeys alike rows none h =
      let db = old.now.trees in
      let u = update_refused book_schema sql at p terms project is plain placed plainly still old new params rule has h in
      let given : u.0 ≡ [] = none_listed p.tree terms project params (db p.tree) u.0 u.1 (none_passing cells values (db p.tree) rows (passes terms params) q alike none) in
      idle_stands p columns keys db obeys rule (subst (λ (rs : List Row). IsRefusedWrite book_schema db (edit_of db (table_of p) (ids_of rs) Given 1 rs) rule) given u.2)
