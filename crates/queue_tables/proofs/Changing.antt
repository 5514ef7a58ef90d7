-- What one INSERT or UPDATE leaves of a table, whatever the table.
use Rattle.std.proofs.Common.{◌≡◌, ◌≢◌, ℕ, ℤ, ◌/◌, List, [], ◌∷◌, map, filter, length, slice_get, drop, Bool, true, false, not, ◌&&◌, Some, Ok, refl, sym, ap, subst, subst₂, ◌∙◌, arith}
use Rattle.std.specs.List.{AllByRecursion}
use Rattle.std.specs.Prelude.{⊤}
use Rattle.std.specs.List.Sorted.{IsPermutation}
use Rattle.std.proofs.lemmas.List.Sorted.{length_permutation}
use Rattle.std.proofs.lemmas.List.{length-map}
use Rattle.sqlite.specs.declared.types.Value.{Value}
use Rattle.sqlite.specs.declared.types.Value.TheVariants.{Int}
use Rattle.sqlite.specs.Order.{Row}
use Rattle.sqlite.specs.Term.{Term}
use Rattle.sqlite.specs.Query.{Output}
use Rattle.sqlite.specs.Program.{overlay}
use Rattle.sqlite.specs.Schema.{Schema}
use Rattle.sqlite.specs.Table.{Table}
use Rattle.sqlite.specs.Tree.{Trees, put_row, without_rowid, rowid}
use Rattle.sqlite.specs.Cast.{cast_row}
use Rattle.sqlite.specs.Edit.{edit_of, edited, with_rowid, numbered, without_all}
use Rattle.sqlite.specs.Rowids.TheVariants.{Chosen, Given}
use Rattle.sqlite.specs.Source.TheVariants.{Values}
use Rattle.sqlite.specs.Command.TheVariants.{Insert, Update}
use Rattle.sqlite.specs.Effect.{IsDatabase, value_rows}
use Rattle.sqlite.specs.Listing.{understood}
use Rattle.sqlite.specs.State.{State, Executes}
use Rattle.sqlite.proofs.Callers.{IsPlain, command_of, one_permutation}
use Rattle.sqlite_schema.specs.declared.schema.Keys.TheVariants.{Enforced}
use Rattle.sqlite_rules.specs.Action.{works}
use Rattle.sqlite_rules.specs.Edit.{is_taken, are_fresh, have_rowids, id_in, left_by}
use Rattle.sqlite_rules.specs.Calls.{ids_of}
use Rattle.sqlite_rules.proofs.TableLemmas.{int_is}
use Rattle.sqlite_trees.specs.View.{is_int}
use Rattle.queue_tables.specs.Plain.{Plain, table_of}
use Rattle.queue_tables.proofs.PlainQueries.{plain_query, passes, shown_of}
use Rattle.queue_tables.specs.Kept.{HasRows, replaced}
use Rattle.queue_tables.proofs.Writing.{IsListing, inserts, updates, kept_of, sorted_and_shown}
use Rattle.queue_tables.proofs.Permuting.{added, changed, passing, kept_is_there, replaced_none, has_at}

not_taken : (b : Bool) → (not b && true) ≡ true → b ≡ false
not_taken true e = absurd cc
not_taken false e = refl

pub none_permuted : {X : Type 0} (xs : List X) → IsPermutation [] xs → xs ≡ []
none_permuted [] h = refl
none_permuted (x ∷ xs) h = absurd (let e = length_permutation [] (x ∷ xs) h in omega (arith, e))

and_true : (b : Bool) → (b && true) ≡ true → b ≡ true
and_true true e = refl
and_true false e = absurd cc

-- ---- what WHERE lets through

none_mapped : (cells : Row → Row) (rs : List Row) → map cells rs ≡ [] → rs ≡ []
none_mapped cells [] e = refl
none_mapped cells (r ∷ rs) e = absurd cc

one_mapped : (cells : Row → Row) (t : Row) (rs : List Row) → map cells rs ≡ t ∷ [] → (r : Row) × (rs ≡ r ∷ []) × (cells r ≡ t)
one_mapped cells t (r ∷ []) e = (r, refl, cc)
one_mapped cells t _ e = absurd cc

module _ {K : Type 0} (cells : Row → Row) (values rows : List Row) (has : HasRows K cells values rows) (p q : Row → Bool) (alike : (r : Row) → p r ≡ q (cells r)) where
  -- where no value passes, no row does
  pub none_passing : filter q values ≡ [] → filter p rows ≡ []
  none_passing none =
      let found = filter p rows in
      none_mapped cells found (none_permuted (map cells found) (subst (λ (k : List Row). IsPermutation k (map cells found)) none (passing cells values rows has p q alike)))

  -- where one value passes, one row does, and shows it
  pub one_passing : (t : Row) → filter q values ≡ t ∷ [] → (r : Row) × (filter p rows ≡ r ∷ []) × (cells r ≡ t)
  one_passing t one =
      let found = filter p rows in
      one_mapped cells t found (one_permutation t (map cells found) (subst (λ (k : List Row). IsPermutation k (map cells found)) one (passing cells values rows has p q alike)))

module _ (tree : ℕ) (terms project : List Term) (params : Row) (rs rows : List Row) (listed : IsListing tree terms project [] params rs rows) where
  pub none_listed : filter (passes terms params) rs ≡ [] → rows ≡ []
  none_listed none =
      let only : kept_of tree terms project [] params rs ≡ [] = ap (map (sorted_and_shown [] project params)) none in
      listed.shown ∙ ap (map (λ (p : Output). p.1)) (none_permuted listed.ordered (subst (λ (k : List Output). IsPermutation k listed.ordered) only listed.same))

  pub one_listed : (was : Row) → filter (passes terms params) rs ≡ was ∷ [] → rows ≡ shown_of project params was ∷ []
  one_listed was one =
      let o : Output = ([], shown_of project params was) in
      let only : kept_of tree terms project [] params rs ≡ o ∷ [] = rw one refl in
      listed.shown ∙ ap (map (λ (p : Output). p.1)) (one_permutation o listed.ordered (subst (λ (k : List Output). IsPermutation k listed.ordered) only listed.same))

-- ---- one INSERT, one UPDATE

-- the table has these rows, and each other one is as it was
pub record Left (K : Type 0) (schema : Schema) (cells : Row → Row) (tree : ℕ) (values : List Row) (old new : State) : Type 0 where
  pub schema_is : new.now.schema ≡ schema
  pub sound : IsDatabase new.now
  pub rows : HasRows K cells values (new.now.trees tree)
  pub others : AllByRecursion (λ (t : Table). t.tree ≢ tree → new.now.trees t.tree ≡ old.now.trees t.tree) schema.tables

module _ (schema : Schema) (sql : List ℕ) (at : ℕ) (p : Plain) (terms : List Term) (width : ℕ)
    (is : command_of (understood schema sql) ≡ Insert at (Values terms width)) (plain : IsPlain (understood schema sql))
    (placed : slice_get schema.tables at ≡ Some (table_of p)) (still : (news : List Row) → works schema Enforced 0 p.tree [] news ≡ [])
    (cells : Row → Row) (values : List Row) where
  -- INSERT of one row
  pub inserts_row : {K : Type 0} (old new : State) (params : Row) (id : Value) (vs v : Row) (count : ℕ) → old.now.schema ≡ schema → value_rows params width (length terms / width) terms ≡ (id ∷ vs) ∷ []
      → cast_row (table_of p) (id ∷ vs) ≡ id ∷ vs → cells (with_rowid Chosen (old.now.trees p.tree) (id ∷ vs)) ≡ v → HasRows K cells values (old.now.trees p.tree)
      → Executes sql params old new (Ok count) → Left K schema cells p.tree (v ∷ values) old new
  inserts_row {K} old new params id vs v count has one fits shows rows h =
      let db = old.now.trees in
      let w = inserts schema sql at p terms width is plain placed still old new params (id ∷ vs) count has one h in
      let n = with_rowid Chosen (db p.tree) (id ∷ vs) in
      let same : with_rowid Chosen (db p.tree) (cast_row (table_of p) (id ∷ vs)) ≡ n = ap (with_rowid Chosen (db p.tree)) fits in
      let fresh : is_taken (db p.tree) n ≡ false = not_taken _ (subst (λ (r : Row). are_fresh (db p.tree) (r ∷ []) ≡ true) same w.applies.fresh) in
      let keyed : is_int (rowid n) ≡ true = and_true _ (subst (λ (r : Row). have_rowids (r ∷ []) ≡ true) same w.applies.keyed) in
      let after : new.now.trees p.tree ≡ put_row n (db p.tree) = w.applies.rows ∙ ap (λ (r : Row). put_row r (db p.tree)) same in
      let got : HasRows K cells (cells n ∷ values) (put_row n (db p.tree)) = added cells values (db p.tree) rows n keyed fresh in
      record {
        schema_is = w.schema_is;
        sound = w.sound;
        rows = subst (HasRows K cells (v ∷ values)) (sym after) (subst (λ (x : Row). HasRows K cells (x ∷ values) (put_row n (db p.tree))) shows got);
        others = w.applies.tables;
      }

module _ (schema : Schema) (sql : List ℕ) (at : ℕ) (p : Plain) (terms project : List Term)
    (is : command_of (understood schema sql) ≡ Update at (record { lets = []; body = plain_query p.tree terms project [] })) (plain : IsPlain (understood schema sql))
    (placed : slice_get schema.tables at ≡ Some (table_of p)) (plainly : (db : Trees) → overlay db [] p.tree ≡ db p.tree)
    (still : (olds news : List Row) → works schema Enforced 0 p.tree olds news ≡ [])
    (cells : Row → Row) (values : List Row) (q : Row → Bool) (f : Row → Row) where
  abbrev Puts : Row → Row → (ℤ → Row) → Type 0
  Puts params t put = (r : Row) (id : ℤ) → rowid r ≡ Int id → cells r ≡ t
      → (shown_of project params r ≡ Int id ∷ put id) × (cast_row (table_of p) (put id) ≡ put id) × (rowid (put id) ≡ Int id) × (cells (put id) ≡ f t)

  updates_was : (old new : State) (params t was : Row) (put : ℤ → Row) (count : ℕ) → old.now.schema ≡ schema
      → Puts params t put → HasRows ⊤ cells values (old.now.trees p.tree) → filter q values ≡ t ∷ [] → filter (passes terms params) (old.now.trees p.tree) ≡ was ∷ [] → cells was ≡ t
      → Executes sql params old new (Ok count) → Left ⊤ schema cells p.tree (replaced q f values) old new
  updates_was old new params t was put count has puts rows one alone like h =
      let db = old.now.trees in
      let u = updates schema sql at p terms project is plain placed plainly still old new params count has h in
      let there = kept_is_there (passes terms params) (db p.tree) was alone in
      let id = id_in (rowid was) in
      let keyed : rowid was ≡ Int id = int_is (rowid was) (has_at (λ (r : Row). is_int (rowid r) ≡ true) (db p.tree) was (rows.keyed tt).ints there) in
      let it = puts was id keyed like in
      let given : u.0 ≡ (Int id ∷ put id) ∷ [] = one_listed p.tree terms project params (db p.tree) u.0 u.1 was alone ∙ ap (λ (r : Row). r ∷ []) it.0 in
      let rest = without_rowid id (db p.tree) in
      let fresh0 : are_fresh rest (cast_row (table_of p) (put id) ∷ []) ≡ true
      = subst (λ (rs : List Row). are_fresh (left_by db (edit_of db (table_of p) (ids_of rs) Given 1 rs)) (edit_of db (table_of p) (ids_of rs) Given 1 rs).news ≡ true) given u.2.applies.fresh in
      let fresh : is_taken rest (put id) ≡ false = not_taken _ (subst (λ (r : Row). are_fresh rest (r ∷ []) ≡ true) it.1 fresh0) in
      let after : new.now.trees p.tree ≡ put_row (put id) rest
      = u.2.applies.rows ∙ ap (λ (rs : List Row). edited db (edit_of db (table_of p) (ids_of rs) Given 1 rs)) given ∙ ap (λ (r : Row). put_row r rest) it.1 in
      record {
        schema_is = u.2.schema_is;
        sound = u.2.sound;
        rows = subst (HasRows ⊤ cells (replaced q f values)) (sym after) (changed cells values (db p.tree) rows tt q f t was (put id) id one there like keyed it.2 fresh it.3);
        others = u.2.applies.tables;
      }

  -- UPDATE of the one row that WHERE lets through
  pub updates_row : (old new : State) (params t : Row) (put : ℤ → Row) (count : ℕ) → old.now.schema ≡ schema → ((r : Row) → passes terms params r ≡ q (cells r))
      → Puts params t put → HasRows ⊤ cells values (old.now.trees p.tree) → filter q values ≡ t ∷ [] → Executes sql params old new (Ok count) → Left ⊤ schema cells p.tree (replaced q f values) old new
  updates_row old new params t put count has alike puts rows one h =
      let was = one_passing cells values (old.now.trees p.tree) rows (passes terms params) q alike t one in
      updates_was old new params t was.0 put count has puts rows one was.1 was.2 h

  -- UPDATE where WHERE lets nothing through
  pub updates_none : (old new : State) (params : Row) (count : ℕ) → old.now.schema ≡ schema → ((r : Row) → passes terms params r ≡ q (cells r))
      → HasRows ⊤ cells values (old.now.trees p.tree) → filter q values ≡ [] → Executes sql params old new (Ok count) → Left ⊤ schema cells p.tree (replaced q f values) old new
  updates_none old new params count has alike rows none h =
      let db = old.now.trees in
      let u = updates schema sql at p terms project is plain placed plainly still old new params count has h in
      let given : u.0 ≡ [] = none_listed p.tree terms project params (db p.tree) u.0 u.1 (none_passing cells values (db p.tree) rows (passes terms params) q alike none) in
      let after : new.now.trees p.tree ≡ db p.tree = u.2.applies.rows ∙ ap (λ (rs : List Row). edited db (edit_of db (table_of p) (ids_of rs) Given 1 rs)) given in
      record {
        schema_is = u.2.schema_is;
        sound = u.2.sound;
        rows = subst₂ (HasRows ⊤ cells) (sym (replaced_none q f values none)) (sym after) rows;
        others = u.2.applies.tables;
      }

  length_numbered : (rows sources : List Row) → length (numbered Given rows sources) ≡ length sources
  length_numbered rows [] = refl
  length_numbered rows (r ∷ rs) = let more = length_numbered (put_row (with_rowid Given rows r) rows) rs in omega (arith, more)

  -- UPDATE tells how many rows WHERE let through
  pub updates_count : (old new : State) (params : Row) (count : ℕ) → old.now.schema ≡ schema → ((r : Row) → passes terms params r ≡ q (cells r)) → HasRows ⊤ cells values (old.now.trees p.tree)
      → Executes sql params old new (Ok count) → count ≡ length (filter q values)
  updates_count old new params count has alike rows h =
      let db = old.now.trees in
      let u = updates schema sql at p terms project is plain placed plainly still old new params count has h in
      let found = filter (passes terms params) (db p.tree) in
      let a = length_numbered (without_all (db p.tree) (ids_of u.0)) (map (λ (s : Row). cast_row (table_of p) (drop 1 s)) u.0) in
      let b = length-map u.0 (λ (s : Row). cast_row (table_of p) (drop 1 s)) in
      let c = ap (length {A = Row}) u.1.shown ∙ length-map u.1.ordered (λ (o : Output). o.1) in
      let d = length_permutation (kept_of p.tree terms project [] params (db p.tree)) u.1.ordered u.1.same in
      let e = length-map found (sorted_and_shown [] project params) in
      let f = length_permutation (filter q values) (map cells found) (passing cells values (db p.tree) rows (passes terms params) q alike) in
      let g = length-map found cells in
      u.3 ∙ a ∙ b ∙ c ∙ d ∙ e ∙ sym g ∙ f
