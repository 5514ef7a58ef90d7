-- A list of objects without views is that of one schema.
use Rattle.std.proofs.Common.{◌≡◌, ℕ, ◌+◌, pos, List, [], ◌∷◌, ◌++◌, Ok, Some, codes, decimal, true, false, filter, slice_get, refl, sym, ap, subst, ◌∙◌, arith}
use Rattle.std.specs.List.{AllZip}
use Rattle.std.proofs.lemmas.Fmt.{decimal_injective}
use Rattle.std.proofs.lemmas.List.{append_cancel_left}
use Rattle.sqlite.specs.Order.{Row, column}
use Rattle.sqlite.specs.declared.types.Value.{Value}
use Rattle.sqlite.specs.declared.types.Value.TheVariants.{Null, Int, Text}
use Rattle.sqlite_catalog.specs.Listing.{AreListed, IsDefined, IsIndexRow, IsSound, IsTableRow, automatic, is_index_row, is_table_row, is_view_row, IsViewRow}
use Rattle.sqlite_catalog.proofs.StepLemmas.{named_once, same_itself}
use Rattle.sqlite_resolve.specs.Compile.{table_defined_by}
use Rattle.sqlite_schema.specs.Names.{same_name}
use Rattle.sqlite_schema.specs.declared.schema.Index.{Index}
use Rattle.sqlite_schema.specs.declared.schema.Schema.{Schema}
use Rattle.sqlite_schema.specs.declared.schema.Table.{Table}
use Rattle.sqlite_trees.specs.Objects.{catalog_tree}
use Rattle.sqlite_trees.specs.Tree.{IsAscending, Trees}
use Rattle.queue_rows.specs.Versions.{Version, first_version, second_version, third_version}
use Rattle.queue_tables.specs.Tables.{schema_of}

-- ---- lists

zip_once : {A B : Type 0} (R : A → B → Type 0) → ((a : A) (b c : B) → R a b → R a c → b ≡ c) → (xs : List A) (ys zs : List B) → AllZip R xs ys → AllZip R xs zs → ys ≡ zs
zip_once R once [] [] [] p q = refl
zip_once R once [] [] (z ∷ zs) p q = absurd q
zip_once R once (x ∷ xs) (y ∷ ys) [] p q = absurd q
zip_once R once (x ∷ xs) (y ∷ ys) (z ∷ zs) p q =
    let first = once x y z p.0 q.0 in
    let more = zip_once R once xs ys zs p.1 q.1 in
    λ i. first i ∷ more i
zip_once R once _ _ zs p q = absurd p

zip_none : {A B : Type 0} (R : A → B → Type 0) (xs : List A) (ys : List B) → AllZip R xs [] → AllZip R xs ys → ys ≡ []
zip_none R [] [] p q = refl
zip_none R [] (y ∷ ys) p q = absurd q
zip_none R (x ∷ xs) ys p q = absurd p

-- ---- values

same_tree : (v : Value) (a b : ℕ) → v ≡ Int (pos (a + 1)) → v ≡ Int (pos (b + 1)) → a ≡ b
same_tree v a b p q = let e : a + 1 ≡ b + 1 = cc in omega arith

same_text : (v : Value) (s t : List ℕ) → v ≡ Text s → v ≡ Text t → s ≡ t
same_text v s t p q = cc

-- ---- rows

one_table : (row : Row) (a b : Table) → IsTableRow row a → IsTableRow row b → a ≡ b
one_table row a b p q =
    let tree = same_tree _ a.tree b.tree p.described.id q.described.id in
    let read : Ok p.defined.0 ≡ Ok q.defined.0 = sym p.defined.1 ∙ ap table_defined_by (same_text _ p.sql q.sql p.sql_is q.sql_is) ∙ q.defined.1 in
    let made : p.defined.0 ≡ q.defined.0 = cc in
    p.defined.2 ∙ (λ i. record (made i) { tree = tree i }) ∙ sym q.defined.2

one_index_by : (v : Value) (table : Table) (a b : Index) → a.tree ≡ b.tree → a.name ≡ b.name → IsDefined table a v → IsDefined table b v → a ≡ b
one_index_by Null table a b tree name p q =
    let names : codes "sqlite_autoindex_" ++ (table.name ++ (codes "_" ++ decimal (p.0 + 1))) ≡ codes "sqlite_autoindex_" ++ (table.name ++ (codes "_" ++ decimal (q.0 + 1))) =
    sym (ap (λ (i : Index). i.name) p.3) ∙ name ∙ ap (λ (i : Index). i.name) q.3 in
    let ends = append_cancel_left (codes "_") _ _ (append_cancel_left table.name _ _ (append_cancel_left (codes "sqlite_autoindex_") _ _ names)) in
    let next : p.0 + 1 ≡ q.0 + 1 = decimal_injective (p.0 + 1) (q.0 + 1) (omega (arith, p.4)) (omega (arith, q.4)) ends in
    let at : p.0 ≡ q.0 = omega arith in
    let keys : Some p.1 ≡ Some q.1 = sym p.2 ∙ ap (slice_get table.uniques) at ∙ q.2 in
    let key : p.1 ≡ q.1 = cc in
    p.3 ∙ (λ i. automatic table (at i) (key i) (tree i)) ∙ sym q.3
one_index_by (Text sql) table a b tree name p q =
    let read : Ok p.0 ≡ Ok q.0 = sym p.1 ∙ q.1 in
    let made : p.0 ≡ q.0 = cc in
    p.2 ∙ (λ i. record (made i) { tree = tree i; table = table.tree }) ∙ sym q.2
one_index_by _ table a b tree name p q = absurd p

one_index : (tables : List Table) → IsAscending (λ s t. same_name s.name t.name ≡ false) tables → (row : Row) (a b : Index) → IsIndexRow tables row a → IsIndexRow tables row b → a ≡ b
one_index tables apart row a b p q =
    let owner = same_text _ p.table.name q.table.name p.described.owner_is q.described.owner_is in
    let table : p.table ≡ q.table =
    named_once tables p.table q.table apart p.listed q.listed (subst (λ (name : List ℕ). same_name p.table.name name ≡ true) owner (same_itself p.table.name)) in
    one_index_by (column row 4) q.table a b (same_tree _ a.tree b.tree p.described.id q.described.id) (same_text _ a.name b.name p.described.name_is q.described.name_is)
    (subst (λ (t : Table). IsDefined t a (column row 4)) table p.defined) q.defined

-- ---- the list

module _ (objects : List Row) (s t : Schema) (first : AreListed objects s) (second : AreListed objects t) where
  tables_once : s.tables ≡ t.tables
  tables_once = zip_once IsTableRow one_table (filter is_table_row objects) s.tables t.tables first.tables second.tables

  indexes_once : s.indexes ≡ t.indexes
  indexes_once =
      zip_once (IsIndexRow t.tables) (one_index t.tables second.named) (filter is_index_row objects) s.indexes t.indexes
      (subst (λ (tables : List Table). AllZip (IsIndexRow tables) (filter is_index_row objects) s.indexes) tables_once first.indexes) second.indexes

  listed_once : s.views ≡ [] → s ≡ t
  listed_once none =
      let bare = subst (AllZip IsViewRow (filter is_view_row objects)) none first.views in
      let views : s.views ≡ t.views = none ∙ sym (zip_none IsViewRow (filter is_view_row objects) t.views bare second.views) in
      λ i. record { tables = tables_once i; indexes = indexes_once i; views = views i }

no_views : (n : Version) → (schema_of n).views ≡ []
no_views first_version = refl
no_views second_version = refl
no_views third_version = refl

-- trees with the tables of a book are listed as no other schema
pub one_schema : (n : Version) (schema : Schema) (db : Trees) → IsSound (schema_of n) db → IsSound schema db → schema ≡ schema_of n
one_schema n schema db book other = sym (listed_once (db catalog_tree) (schema_of n) schema book.lists.listed other.lists.listed (no_views n))
