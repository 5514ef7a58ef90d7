-- A new row that is alike to none, and whose parents are there, enters its table.
use Rattle.std.proofs.Common.{◌≡◌, ℕ, ◌/◌, List, [], ◌∷◌, filter, length, slice_get, Bool, true, false, not, ◌&&◌, ◌==◌, Some, Err, inl, refl, sym, subst}
use Rattle.std.specs.List.{list_all, list_any}
use Rattle.std.proofs.lemmas.Bool.{and_parts, not-true, false_from_ne_true, eqb-false}
use Rattle.sqlite.specs.declared.types.Value.{Value}
use Rattle.sqlite.specs.Order.{Row}
use Rattle.sqlite.specs.Term.{Term}
use Rattle.sqlite.specs.Table.{Table}
use Rattle.sqlite.specs.Cast.{cast_row}
use Rattle.sqlite.specs.Edit.{with_rowid}
use Rattle.sqlite.specs.Rowids.TheVariants.{Chosen}
use Rattle.sqlite.specs.Source.TheVariants.{Values}
use Rattle.sqlite.specs.Command.TheVariants.{Insert}
use Rattle.sqlite.specs.Effect.{value_rows}
use Rattle.sqlite.specs.Listing.{understood}
use Rattle.sqlite.specs.State.{State, ExecutesInside}
use Rattle.sqlite.proofs.Callers.{IsPlain, command_of}
use Rattle.sqlite_trees.specs.Tree.{IsAscending}
use Rattle.sqlite_schema.specs.declared.schema.Constraint.{Constraint}
use Rattle.sqlite_schema.specs.declared.schema.Constraint.TheVariants.{PrimaryKey}
use Rattle.sqlite_schema.specs.declared.schema.Keys.TheVariants.{Enforced}
use Rattle.sqlite_schema.specs.Rules.{Obeys}
use Rattle.sqlite_rules.specs.Action.{works}
use Rattle.sqlite_rules.specs.Lists.{Has}
use Rattle.sqlite_rules.specs.Edit.{is_taken}
use Rattle.sqlite_rules.proofs.ListLemmas.{all_from, test_has, some_has, some_from, has_filtered, has_kept}
use Rattle.queue_tables.specs.Plain.{Plain, table_of}
use Rattle.queue_tables.specs.Tables.{book_schema}
use Rattle.queue_tables.specs.Kept.{HasRows, HasOne}
use Rattle.queue_tables.specs.Content.{Content, Holds}
use Rattle.queue_tables.proofs.Changing.{none_passing, one_passing}
use Rattle.queue_tables.proofs.Refused.{told, insert_refused, IsRefusedWrite}
use Rattle.queue_tables.proofs.Allowed.{CanEnter, never_refused}

-- ---- the tables stand apart

abbrev are_apart : List Table → Bool
are_apart [] = true
are_apart (t ∷ ts) = list_all (λ u. not (t.tree == u.tree)) ts && are_apart ts

apart_by : (ts : List Table) → are_apart ts ≡ true → IsAscending (λ (a b : Table). a.tree ≡ b.tree → ⊥) ts
apart_by [] all = tt
apart_by (t ∷ ts) all =
    let parts = and_parts _ _ all in
    (all_from (λ (u : Table). t.tree ≡ u.tree → ⊥) ts (λ u there. eqb-false t.tree u.tree (not-true _ (test_has (λ (u : Table). not (t.tree == u.tree)) ts u parts.0 there))), apart_by ts parts.1)

pub book_apart : IsAscending (λ (a b : Table). a.tree ≡ b.tree → ⊥) book_schema.tables
book_apart = apart_by book_schema.tables refl

-- ---- rows by what they show

module _ {K : Type 0} (cells : Row → Row) (values rows : List Row) (has : HasRows K cells values rows) (q test : Row → Bool) (alike : (r : Row) → test r ≡ q (cells r)) where
  -- no value passes, so no row does
  pub none_like : filter q values ≡ [] → list_any test rows ≡ false
  none_like none =
      let kept = none_passing cells values rows has test q alike none in
      false_from_ne_true _ (λ some. let it = some_has test rows some in subst (λ (rs : List Row). Has rs it.0) kept (has_kept test rows it.0 it.1 it.2))

  -- a value passes, so some row does
  pub one_like : HasOne q values → list_any test rows ≡ true
  one_like one =
      let it = one_passing cells values rows has test q alike one.0 one.1 in
      let there = has_filtered test rows it.0 (subst (λ (rs : List Row). Has rs it.0) (sym it.1) (inl refl)) in
      some_from test rows it.0 there.0 there.1

-- ---- an INSERT of a row that can enter is not refused

module _ (sql : List ℕ) (at : ℕ) (p : Plain) (terms : List Term) (width : ℕ)
    (is : command_of (understood book_schema sql) ≡ Insert at (Values terms width)) (plain : IsPlain (understood book_schema sql))
    (placed : slice_get book_schema.tables at ≡ Some (table_of p)) (still : (news : List Row) → works book_schema Enforced 0 p.tree [] news ≡ []) (listed : Has book_schema.tables (table_of p)) where
  pub enters : (old new : State) (params : Row) (id : Value) (vs : Row) (rule : Constraint) (c : Content) → Holds c old → value_rows params width (length terms / width) terms ≡ (id ∷ vs) ∷ []
      → cast_row (table_of p) (id ∷ vs) ≡ id ∷ vs → CanEnter book_schema old.now.trees (table_of p) (with_rowid Chosen (old.now.trees p.tree) (id ∷ vs))
      → (rule ≡ PrimaryKey → is_taken (old.now.trees p.tree) (with_rowid Chosen (old.now.trees p.tree) (id ∷ vs)) ≡ false) → ExecutesInside 0 sql params old new (Err (told rule)) → ⊥
  enters old new params id vs rule c has one fits can fresh h =
      let db = old.now.trees in
      let refused = insert_refused book_schema sql at p terms width is plain placed still old new params (id ∷ vs) rule has.schema one h in
      let obeys : Obeys book_schema db = subst (λ s. Obeys s db) has.schema has.sound.obeys in
      never_refused book_schema db (table_of p) (with_rowid Chosen (db p.tree) (id ∷ vs)) book_apart listed obeys can rule fresh
      (subst (λ (r : Row). IsRefusedWrite book_schema db (record { table = table_of p; gone = []; news = with_rowid Chosen (db p.tree) r ∷ [] }) rule) fits refused)
