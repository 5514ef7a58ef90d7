-- A new row that breaks no rule is refused by none.
use Rattle.std.proofs.Common.{◌≡◌, ◌≢◌, ◌⊎◌, inl, inr, ℕ, List, [], ◌∷◌, Bool, true, false, not, ◌&&◌, ◌||◌, Some, None, Option, Ordering, Equal, if◌then◌else◌, refl, sym, subst}
use Rattle.std.specs.List.{list_all, list_any}
use Rattle.std.specs.Cmp.{tied_itself}
use Rattle.std.proofs.lemmas.Bool.{and_parts, and_from, or_cases, or_left, or_right, both_ways, not-true, not_from_false, false_from_ne_true, cases_eq, ne_eqb, eq-eqb}
use Rattle.sqlite.specs.declared.types.Value.{Value}
use Rattle.sqlite.specs.declared.types.Value.TheVariants.{Null}
use Rattle.sqlite.specs.Order.{Row, value_cmp}
use Rattle.sqlite.specs.Ops.{binary}
use Rattle.sqlite.specs.Schema.{Schema}
use Rattle.sqlite.specs.Table.{Table}
use Rattle.sqlite.specs.Tree.{Trees, put_row, rowid}
use Rattle.sqlite.specs.Edit.{Edit}
use Rattle.sqlite_value.proofs.OrderLemmas.{value_cmp_total}
use Rattle.sqlite_trees.specs.Tree.{IsAscending, with_tree}
use Rattle.sqlite_sql.specs.Ops.{is_null, is_true, from_truth}
use Rattle.std.specs.Ordering.{is_ne}
use Rattle.sqlite_schema.specs.declared.schema.Constraint.{Constraint}
use Rattle.sqlite_schema.specs.declared.schema.Constraint.TheVariants.{Datatype, NotNull, Check, PrimaryKey, Unique, ForeignKey}
use Rattle.sqlite_schema.specs.declared.schema.Among.TheVariants.{All as EachKey}
use Rattle.sqlite_schema.specs.declared.schema.Reference.{Reference}
use Rattle.sqlite_schema.specs.declared.schema.Index.{Index}
use Rattle.sqlite_schema.specs.Rules.{ParentKey, parent_key, agree, differ, clashes, guards, passes, Keeps, is_held, has_parent, Refers, Obeys}
use Rattle.sqlite_rules.specs.Lists.{Has}
use Rattle.sqlite_rules.specs.Edit.{is_taken}
use Rattle.sqlite_rules.proofs.KeyLemmas.{agree_back}
use Rattle.sqlite_rules.proofs.ListLemmas.{test_has, test_from, some_has, some_from, all_has}
use Rattle.sqlite_rules.proofs.RuleLemmas.{same_table, parent_is_table, keeps_at, keeps_from, refers_at, refers_from}
use Rattle.sqlite_rules.proofs.TableLemmas.{put_has, put_all_keeps}
use Rattle.queue_tables.proofs.Refused.{IsRefusedWrite}

untied : (null : Bool) (o : Ordering) → o ≡ Equal → is_true (if null then Null else from_truth (Some (is_ne o))) ≡ false
untied true o same = refl
untied false o same = rw same refl

differ_itself : (v : Value) → differ v v ≡ false
unfolding binary
differ_itself v = untied (is_null v || is_null v) (value_cmp v v) (tied_itself value_cmp_total v)

-- no row has the key of the new one
abbrev pub has_twin : Schema → Trees → Table → Row → Index → Bool
has_twin schema db table n i = guards i table && list_any (λ r. agree i.order i.columns r i.columns n) (db table.tree)

abbrev pub is_alone : Schema → Trees → Table → Row → Bool
is_alone schema db table n = list_all (λ i. not (has_twin schema db table n i)) schema.indexes

module _ (schema : Schema) (db next : Trees) (table : Table) (n : Row) (apart : IsAscending (λ (a b : Table). a.tree ≡ b.tree → ⊥) schema.tables) (listed : Has schema.tables table)
    (put : next table.tree ≡ put_row n (db table.tree)) (others : (t : Table) → Has schema.tables t → t.tree ≢ table.tree → next t.tree ≡ db t.tree) where
  new_or_old : (r : Row) → Has (next table.tree) r → (r ≡ n) ⊎ Has (db table.tree) r
  new_or_old r there = put_has n (db table.tree) r (subst (λ (rows : List Row). Has rows r) put there)

  no_twin : (i : Index) → guards i table ≡ true → not (has_twin schema db table n i) ≡ true → (r : Row) → Has (db table.tree) r → agree i.order i.columns r i.columns n ≡ true → ⊥
  no_twin i on free r there same = both_ways _ (not-true _ free) (and_from _ _ on (some_from _ (db table.tree) r there same))

  never_clash : (i : Index) → Keeps Unique schema db → Has schema.indexes i → guards i table ≡ true → not (has_twin schema db table n i) ≡ true
      → (row : Row) → Has (next table.tree) row → clashes i.order i.columns (next table.tree) row ≡ true → ⊥
  never_clash i keeps known on free row there clash =
      let other = some_has _ _ clash in
      let parts = and_parts _ _ other.2 in
      elim (new_or_old row there) [
        | inl new ↦ elim (new_or_old other.0 other.1) [
          | inl also ↦ both_ways _ (differ_itself (rowid n)) (subst (λ (r : Row). differ (rowid r) (rowid n) ≡ true) also (subst (λ (r : Row). differ (rowid other.0) (rowid r) ≡ true) new parts.1))
          | inr old ↦ no_twin i on free other.0 old (subst (λ (r : Row). agree i.order i.columns other.0 i.columns r ≡ true) new parts.0)
        ]
        | inr old ↦ elim (new_or_old other.0 other.1) [
          | inl also ↦ no_twin i on free row old (agree_back _ _ _ _ _ (subst (λ (r : Row). agree i.order i.columns r i.columns row ≡ true) also parts.0))
          | inr there2 ↦ both_ways _ (not-true _ (test_has _ schema.indexes i (keeps_at Unique schema db table row keeps listed old) known)) (and_from _ _ on (some_from _ _ other.0 there2 other.2))
        ]
      ]

  unique_after : Keeps Unique schema db → is_alone schema db table n ≡ true → Keeps Unique schema next
  unique_after keeps free = keeps_from Unique schema next (λ t row known there. elim (cases_eq t.tree table.tree) [
    | inl same ↦
        let is = same_table schema.tables t table apart known listed same in
        let here : Has (next table.tree) row = subst (λ (x : Table). Has (next x.tree) row) is there in
        subst (λ (x : Table). passes Unique schema next x row ≡ true) (sym is) (test_from _ schema.indexes (λ i known. not_from_false _ (false_from_ne_true _ (λ both.
        let parts = and_parts _ _ both in never_clash i keeps known parts.0 (test_has _ schema.indexes i free known) row here parts.1))))
    | inr other ↦
        let as_it_was = others t known other in
        subst (λ (rows : List Row). list_all (λ i. not (guards i t && clashes i.order i.columns rows row)) schema.indexes ≡ true) (sym as_it_was)
        (keeps_at Unique schema db t row keeps known (subst (λ (rows : List Row). Has rows row) as_it_was there))
  ])

  module _ (grows : (r : Row) → Has (db table.tree) r → Has (next table.tree) r) where
    each_grows : (t : Table) → Has schema.tables t → (r : Row) → Has (db t.tree) r → Has (next t.tree) r
    each_grows t known r there = elim (cases_eq t.tree table.tree) [
      | inl same ↦ let is = same_table schema.tables t table apart known listed same in subst (λ (x : Table). Has (next x.tree) r) (sym is) (grows r (subst (λ (x : Table). Has (db x.tree) r) is there))
      | inr other ↦ subst (λ (rows : List Row). Has rows r) (sym (others t known other)) there
    ]

    still_held : (ref : Reference) (row : Row) (o : Option ParentKey) → parent_key schema.tables ref ≡ o → is_held db ref.columns row o ≡ true → is_held next ref.columns row o ≡ true
    still_held ref row None is held = held
    still_held ref row (Some key) is held =
        let t = parent_is_table schema.tables ref key is in
        let parent = some_has _ (db key.0) held in
        some_from _ (next key.0) parent.0 (subst (λ (k : ℕ). Has (next k) parent.0) t.2 (each_grows t.0 t.1 parent.0 (subst (λ (k : ℕ). Has (db k) parent.0) (sym t.2) parent.1))) parent.2

    still_parent : (ref : Reference) (row : Row) → has_parent schema.tables db row ref ≡ true → has_parent schema.tables next row ref ≡ true
    still_parent ref row h = elim (or_cases _ _ h) [ inl null ↦ or_left _ _ null | inr held ↦ or_right _ _ (still_held ref row (parent_key schema.tables ref) refl held) ]

    refers_after : Refers EachKey schema db → passes ForeignKey schema db table n ≡ true → Refers EachKey schema next
    refers_after refers has = refers_from EachKey schema next (λ t ref row known in_table among there. still_parent ref row (elim (cases_eq t.tree table.tree) [
      | inl same ↦
          let is = same_table schema.tables t table apart known listed same in
          elim (new_or_old row (subst (λ (x : Table). Has (next x.tree) row) is there)) [
            | inl new ↦ subst (λ (r : Row). has_parent schema.tables db r ref ≡ true) (sym new) (test_has _ table.references ref has (subst (λ (x : Table). Has x.references ref) is in_table))
            | inr old ↦ refers_at EachKey schema db t row ref refers known (subst (λ (x : Table). Has (db x.tree) row) (sym is) old) in_table among
          ]
      | inr other ↦ refers_at EachKey schema db t row ref refers known (subst (λ (rows : List Row). Has rows row) (others t known other) there) in_table among
    ]))

-- what is asked of the new row
pub record CanEnter (schema : Schema) (db : Trees) (table : Table) (n : Row) : Type 0 where
  pub typed : passes Datatype schema db table n ≡ true
  pub present : passes NotNull schema db table n ≡ true
  pub checked : passes Check schema db table n ≡ true
  pub alone : is_alone schema db table n ≡ true
  pub has_parents : passes ForeignKey schema db table n ≡ true

module _ (schema : Schema) (db : Trees) (table : Table) (n : Row) (apart : IsAscending (λ (a b : Table). a.tree ≡ b.tree → ⊥) schema.tables) (listed : Has schema.tables table)
    (obeys : Obeys schema db) (can : CanEnter schema db table n) where
  abbrev entering : Edit
  entering = record { table = table; gone = []; news = n ∷ [] }

  passed_one : (b : Bool) → b ≡ true → (b && true) ≡ false → ⊥
  passed_one true e fails = cc
  passed_one false e fails = cc

  -- none but a rowid that is taken refuses it
  pub never_refused : (rule : Constraint) → (rule ≡ PrimaryKey → is_taken (db table.tree) n ≡ false) → IsRefusedWrite schema db entering rule → ⊥
  never_refused Datatype fresh (inl fails) = passed_one _ can.typed fails
  never_refused NotNull fresh (inl fails) = passed_one _ can.present fails
  never_refused Check fresh (inl fails) = passed_one _ can.checked fails
  never_refused PrimaryKey fresh (inl fails) = passed_one _ (not_from_false _ (fresh refl)) fails
  never_refused Unique fresh (inl fails) = fails (unique_after schema db (with_tree db table.tree (put_row n (db table.tree))) table n apart listed
      (let same = eq-eqb table.tree table.tree refl in rw same refl) (λ t known other. let apart2 = ne_eqb t.tree table.tree other in rw apart2 refl) (obeys.rules Unique) can.alone)
  never_refused ForeignKey fresh (inl fails) = fails
  never_refused rule fresh (inr wrote) =
      wrote.2 (refers_after schema db wrote.0 table n apart listed wrote.1.rows (λ t known other. all_has _ schema.tables t wrote.1.tables known other)
      (λ r there. subst (λ (rows : List Row). Has rows r) (sym wrote.1.rows) (put_all_keeps (n ∷ []) (db table.tree) r wrote.1.fresh there)) (obeys.rules ForeignKey) can.has_parents)
