-- What an UPDATE of any number of rows leaves of a table whose rows their rowids tell apart.
use Rattle.std.proofs.Common.{◌≡◌, inl, inr, ℕ, ℤ, List, [], ◌∷◌, ◌++◌, map, filter, drop, length, slice_get, Bool, true, false, not, ◌&&◌, ◌||◌, ◌≤◌, Some, Ok, refl, sym, ap, ap₂, subst, subst₂, ◌∙◌, arith, is_eq}
use Rattle.std.specs.Prelude.{⊤}
use Rattle.std.specs.List.{list_any}
use Rattle.std.specs.Cmp.{tied_itself}
use Rattle.std.specs.List.Sorted.{IsPermutation}
use Rattle.std.proofs.lemmas.Bool.{cases_Bool}
use Rattle.std.proofs.lemmas.List.{map-append}
use Rattle.std.proofs.lemmas.List.Elements.{All-from_recursion, recursion_from_All}
use Rattle.std.proofs.lemmas.List.Sorted.{IsPermutation-append, IsPermutation-append_right, IsPermutation-filter_both, IsPermutation-map, IsPermutation-middle, IsPermutation-refl, IsPermutation-sym, IsPermutation-trans, list_any-IsPermutation}
use Rattle.sqlite.specs.Cast.{cast_row}
use Rattle.sqlite.specs.Command.TheVariants.{Update}
use Rattle.sqlite.specs.Edit.{Edit, edit_of, numbered, without_all}
use Rattle.sqlite.specs.Listing.{understood}
use Rattle.sqlite.specs.Order.{Row, value_cmp}
use Rattle.sqlite.specs.Program.{overlay}
use Rattle.sqlite.specs.Query.{Output}
use Rattle.sqlite.specs.Rowids.TheVariants.{Given}
use Rattle.sqlite.specs.Schema.{Schema}
use Rattle.sqlite.specs.State.{State, Executes}
use Rattle.sqlite.specs.Term.{Term}
use Rattle.sqlite.specs.Tree.{Trees, has_rowid, put_row, rowid, without_rowid}
use Rattle.sqlite.specs.declared.types.Value.{Value}
use Rattle.sqlite.specs.declared.types.Value.TheVariants.{Int}
use Rattle.sqlite.proofs.Callers.{IsPlain, command_of}
use Rattle.sqlite_rules.proofs.ListLemmas.{all_from, has_filtered, has_kept, some_from, some_has}
use Rattle.sqlite_rules.proofs.TableLemmas.{int_is}
use Rattle.sqlite_rules.specs.Action.{works}
use Rattle.sqlite_rules.specs.Calls.{ids_of}
use Rattle.sqlite_rules.specs.Edit.{are_fresh, have_rowids, id_in, is_taken, put_all}
use Rattle.sqlite_rules.specs.Lists.{Has}
use Rattle.sqlite_schema.specs.declared.schema.Keys.TheVariants.{Enforced}
use Rattle.sqlite_trees.proofs.ListLemmas.{all-filter, all_of, filter_all, filter_same, map-map}
use Rattle.sqlite_trees.specs.View.{is_int}
use Rattle.sqlite_value.proofs.OrderLemmas.{value_cmp_total}
use Rattle.queue_tables.proofs.Changing.{Left}
use Rattle.queue_tables.proofs.Permuting.{has_at, keyed_more, keyed_permuted, put_fresh}
use Rattle.queue_tables.proofs.PlainQueries.{passes, plain_query, shown_of}
use Rattle.queue_tables.proofs.Writing.{kept_of, sorted_and_shown, updates}
use Rattle.queue_tables.specs.Kept.{AreKeyed, HasRows}
use Rattle.queue_tables.specs.Plain.{Plain, table_of}

-- ---- lists

filter_twice : (p q s : Row → Bool) → ((r : Row) → s r ≡ (q r && p r)) → (rows : List Row) → filter p (filter q rows) ≡ filter s rows
filter_twice p q s both [] = refl
filter_twice p q s both (r ∷ rows) = elim (cases_Bool (q r)) [
  | inl passed ↦ elim (cases_Bool (p r)) [
    | inl also ↦ let here : s r ≡ true = both r ∙ rw (passed, also) refl in rw (passed, also, here) (ap (λ (k : List Row). r ∷ k) (filter_twice p q s both rows))
    | inr fails ↦ let here : s r ≡ false = both r ∙ rw (passed, fails) refl in rw (passed, fails, here) (filter_twice p q s both rows)
  ]
  | inr failed ↦ let here : s r ≡ false = both r ∙ rw failed refl in rw (failed, here) (filter_twice p q s both rows)
]

not_or : (a b : Bool) → not (a || b) ≡ (not a && not b)
not_or true b = refl
not_or false b = refl

same_member : {X : Type 0} (xs : List X) (x y : X) → length xs ≤ 1 → Has xs x → Has xs y → x ≡ y
same_member [] x y few hx hy = absurd hx
same_member (z ∷ []) x y few (inl a) (inl b) = a ∙ sym b
same_member (z ∷ []) x y few (inl a) (inr b) = absurd b
same_member (z ∷ []) x y few (inr a) hy = absurd a
same_member (z ∷ u ∷ xs) x y few hx hy = absurd (omega (arith, few))

pub has_map : {X Y : Type 0} (f : X → Y) (xs : List X) (x : X) → Has xs x → Has (map f xs) (f x)
has_map f [] x h = absurd h
has_map f (y ∷ ys) x (inl same) = inl (ap f same)
has_map f (y ∷ ys) x (inr more) = inr (has_map f ys x more)

mapped_has : {X Y : Type 0} (f : X → Y) (xs : List X) (y : Y) → Has (map f xs) y → (x : X) × Has xs x × (y ≡ f x)
mapped_has f [] y h = absurd h
mapped_has f (x ∷ xs) y (inl same) = (x, inl refl, same)
mapped_has f (x ∷ xs) y (inr more) = let it = mapped_has f xs y more in (it.0, inr it.1, it.2)

fewer : (f g : Row → Bool) (rows : List Row) → length (filter f (filter g rows)) ≤ length (filter f rows)
fewer f g [] = omega arith
fewer f g (r ∷ rows) =
    let less = fewer f g rows in
    elim (cases_Bool (g r)) [
      | inl passed ↦ elim (cases_Bool (f r)) [
        | inl also ↦ rw (passed, also) (omega (arith, less))
        | inr fails ↦ rw (passed, fails) less
      ]
      | inr failed ↦ elim (cases_Bool (f r)) [
        | inl also ↦ rw (failed, also) (omega (arith, less))
        | inr fails ↦ rw (failed, fails) less
      ]
    ]

-- ---- rows that are taken out by their rowids

without_is : (ids : List ℤ) (rows : List Row) → without_all rows ids ≡ filter (λ r. not (list_any (λ id. has_rowid id r) ids)) rows
without_is [] rows = sym (filter_all (λ (r : Row). true) rows (all_of (λ (r : Row). true ≡ true) (λ r. refl) rows))
without_is (id ∷ ids) rows =
    without_is ids (without_rowid id rows)
    ∙ filter_twice (λ r. not (list_any (λ id. has_rowid id r) ids)) (λ r. not (has_rowid id r)) (λ r. not (list_any (λ id. has_rowid id r) (id ∷ ids))) (λ r. not_or (has_rowid id r) (list_any (λ id. has_rowid id r) ids)) rows

own : (v : Value) (id : ℤ) → v ≡ Int id → is_eq (value_cmp v (Int id)) ≡ true
own v id is = rw is (ap is_eq (tied_itself value_cmp_total (Int id)))

has_own : (r : Row) → is_int (rowid r) ≡ true → has_rowid (id_in (rowid r)) r ≡ true
has_own r int = own (rowid r) (id_in (rowid r)) (int_is (rowid r) int)

module _ (rows : List Row) (keyed : AreKeyed rows) (p : Row → Bool) where
  int_of : (r : Row) → Has rows r → is_int (rowid r) ≡ true
  int_of r there = has_at (λ (r : Row). is_int (rowid r) ≡ true) rows r keyed.ints there

  found_same : (r : Row) → Has rows r → list_any (λ id. has_rowid id r) (ids_of (filter p rows)) ≡ p r
  found_same r there =
      let gone = ids_of (filter p rows) in
      elim (cases_Bool (p r)) [
        | inl passed ↦ some_from (λ id. has_rowid id r) gone (id_in (rowid r)) (has_map (λ (r : Row). id_in (rowid r)) (filter p rows) r (has_kept p rows r there passed)) (has_own r (int_of r there)) ∙ sym passed
        | inr failed ↦ elim (cases_Bool (list_any (λ id. has_rowid id r) gone)) [
          | inl some ↦
              let one = some_has (λ id. has_rowid id r) gone some in
              let from = mapped_has (λ (r : Row). id_in (rowid r)) (filter p rows) one.0 one.1 in
              let both = has_filtered p rows from.0 from.1 in
              let mine : has_rowid one.0 from.0 ≡ true = subst (λ id. has_rowid id from.0 ≡ true) (sym from.2) (has_own from.0 (int_of from.0 both.0)) in
              let same : r ≡ from.0 = same_member (filter (has_rowid one.0) rows) r from.0 (keyed.apart one.0) (has_kept (has_rowid one.0) rows r there one.2) (has_kept (has_rowid one.0) rows from.0 both.0 mine) in
              let passed : p r ≡ true = ap p same ∙ both.1 in
              absurd (let no = sym failed ∙ passed in cc)
          | inr none ↦ none ∙ sym failed
        ]
      ]

  pub taken_out : (ids : List ℤ) → IsPermutation (ids_of (filter p rows)) ids → without_all rows ids ≡ filter (λ r. not (p r)) rows
  taken_out ids same =
      without_is ids rows
      ∙ filter_same (λ r. not (list_any (λ id. has_rowid id r) ids)) (λ r. not (p r)) rows
      (all_from (λ r. not (list_any (λ id. has_rowid id r) ids) ≡ not (p r)) rows
      (λ r there. ap not (sym (list_any-IsPermutation (λ id. has_rowid id r) (ids_of (filter p rows)) ids same) ∙ found_same r there)))

  pub still_keyed : (q : Row → Bool) → AreKeyed (filter q rows)
  still_keyed q = record {
    ints = All-from_recursion (λ (r : Row). is_int (rowid r) ≡ true) (filter q rows) (all-filter (λ (r : Row). is_int (rowid r) ≡ true) q rows (recursion_from_All (λ (r : Row). is_int (rowid r) ≡ true) rows keyed.ints));
    apart = λ id. let less = fewer (has_rowid id) q rows in omega (arith, less, keyed.apart id);
  }

-- ---- rows that are put in one after another

both : (a b : Bool) → (a && b) ≡ true → (a ≡ true) × (b ≡ true)
both true b e = (refl, e)
both false b e = absurd cc

not_true : (b : Bool) → not b ≡ true → b ≡ false
not_true true e = absurd cc
not_true false e = refl

module _ (new : Row) (news rows : List Row) (fresh : are_fresh rows (new ∷ news) ≡ true) where
  first_fresh : is_taken rows new ≡ false
  first_fresh = not_true (is_taken rows new) (both (not (is_taken rows new)) (are_fresh (put_row new rows) news) fresh).0

  others_fresh : are_fresh (put_row new rows) news ≡ true
  others_fresh = (both (not (is_taken rows new)) (are_fresh (put_row new rows) news) fresh).1

all_put : (news rows : List Row) → are_fresh rows news ≡ true → IsPermutation (news ++ rows) (put_all rows news)
all_put [] rows fresh = IsPermutation-refl rows
all_put (n ∷ news) rows fresh =
    let first = IsPermutation-sym (news ++ n ∷ rows) (n ∷ (news ++ rows)) (IsPermutation-middle news n rows) in
    let second = IsPermutation-append_right news (n ∷ rows) (put_row n rows) (put_fresh n rows (first_fresh n news rows fresh)) in
    let last = all_put news (put_row n rows) (others_fresh n news rows fresh) in
    IsPermutation-trans (n ∷ (news ++ rows)) (news ++ n ∷ rows) (put_all (put_row n rows) news) first (IsPermutation-trans (news ++ n ∷ rows) (news ++ put_row n rows) (put_all (put_row n rows) news) second last)

all_keyed : (news rows : List Row) → have_rowids news ≡ true → are_fresh rows news ≡ true → AreKeyed rows → AreKeyed (put_all rows news)
all_keyed [] rows ints fresh keyed = keyed
all_keyed (n ∷ news) rows ints fresh keyed =
    let int = both (is_int (rowid n)) (have_rowids news) ints in
    let free = first_fresh n news rows fresh in
    all_keyed news (put_row n rows) int.1 (others_fresh n news rows fresh) (keyed_permuted (n ∷ rows) (put_row n rows) (put_fresh n rows free) (keyed_more n rows int.0 free keyed))

-- rows that bring their rowids keep them
numbered_given : (rows news : List Row) → numbered Given rows news ≡ news
numbered_given rows [] = refl
numbered_given rows (n ∷ news) = ap (λ (k : List Row). n ∷ k) (numbered_given (put_row n rows) news)

-- ---- what is put in the place of what was taken out

pub map_alike : {X Y : Type 0} (f g : X → Y) (xs : List X) → ((x : X) → Has xs x → f x ≡ g x) → map f xs ≡ map g xs
map_alike f g [] alike = refl
map_alike {X} {Y} f g (x ∷ xs) alike = ap₂ (λ (y : Y) (ys : List Y). y ∷ ys) (alike x (inl refl)) (map_alike f g xs (λ z there. alike z (inr there)))

module _ (view kept : Row → Row) (all : List Row) (p : Row → Bool) (anew : Row → Row) (put : (r : Row) → Has all r → p r ≡ true → view (anew r) ≡ kept r) (rest : (r : Row) → Has all r → p r ≡ false → view r ≡ kept r) where
  abbrev found : List Row
  found = filter p all

  abbrev others : List Row
  others = filter (λ r. not (p r)) all

  found_shown : map view (map anew found) ≡ map kept found
  found_shown =
      map-map view anew found
      ∙ map_alike (λ (r : Row). view (anew r)) kept found (λ r there. let it = has_filtered p all r there in put r it.0 it.1)

  others_shown : map view others ≡ map kept others
  others_shown = map_alike view kept others (λ r there. let it = has_filtered (λ r. not (p r)) all r there in rest r it.0 (not_true (p r) it.1))

  pub renewed : (values sources : List Row) → IsPermutation (map anew found) sources → have_rowids sources ≡ true → are_fresh others sources ≡ true → HasRows ⊤ kept values all → HasRows ⊤ view values (put_all others sources)
  renewed values sources same ints fresh has =
      let split : IsPermutation (map kept all) (map kept (found ++ others)) = IsPermutation-map kept all (found ++ others) (IsPermutation-filter_both p (λ r. not (p r)) (λ r. refl) all) in
      let parts : map kept (found ++ others) ≡ map view (map anew found) ++ map view others = map-append kept found others ∙ ap₂ (λ (a b : List Row). a ++ b) (sym found_shown) (sym others_shown) in
      let moved : IsPermutation (map view (map anew found) ++ map view others) (map view sources ++ map view others)
      = IsPermutation-append (map view (map anew found)) (map view sources) (map view others) (map view others) (IsPermutation-map view (map anew found) sources same) (IsPermutation-refl (map view others)) in
      let joined : IsPermutation (map view sources ++ map view others) (map view (put_all others sources))
      = subst (λ (k : List Row). IsPermutation k (map view (put_all others sources))) (map-append view sources others) (IsPermutation-map view (sources ++ others) (put_all others sources) (all_put sources others fresh)) in
      let begun : IsPermutation values (map view (map anew found) ++ map view others) = subst (IsPermutation values) parts (IsPermutation-trans values (map kept all) (map kept (found ++ others)) has.same split) in
      record {
        same = IsPermutation-trans values (map view (map anew found) ++ map view others) (map view (put_all others sources)) begun
            (IsPermutation-trans (map view (map anew found) ++ map view others) (map view sources ++ map view others) (map view (put_all others sources)) moved joined);
        keyed = λ k. all_keyed sources others ints fresh (still_keyed all (has.keyed k) p (λ r. not (p r)));
      }

-- ---- the UPDATE

module _ (schema : Schema) (sql : List ℕ) (at : ℕ) (p : Plain) (terms project : List Term)
    (is : command_of (understood schema sql) ≡ Update at (record { lets = []; body = plain_query p.tree terms project [] })) (plain : IsPlain (understood schema sql))
    (placed : slice_get schema.tables at ≡ Some (table_of p)) (plainly : (db : Trees) → overlay db [] p.tree ≡ db p.tree)
    (still : (olds news : List Row) → works schema Enforced 0 p.tree olds news ≡ [])
    (view kept : Row → Row) (params : Row) where
  -- a row as it is put anew
  abbrev pub anew : Row → Row
  anew r = cast_row (table_of p) (drop 1 (shown_of project params r))

  -- the row keeps its rowid, and once it is put, or left as it is, it shows what is wanted
  pub record Renews (r : Row) : Type 0 where
    pub id : rowid (shown_of project params r) ≡ rowid r
    pub put : passes terms params r ≡ true → view (anew r) ≡ kept r
    pub rest : passes terms params r ≡ false → view r ≡ kept r

  pub updates_each : (values : List Row) (old new : State) (count : ℕ) → old.now.schema ≡ schema → ((r : Row) → Has (old.now.trees p.tree) r → Renews r) → HasRows ⊤ kept values (old.now.trees p.tree)
      → Executes sql params old new (Ok count) → Left ⊤ schema view p.tree values old new
  updates_each values old new count has each rows h =
      let db = old.now.trees in
      let all = db p.tree in
      let f = passes terms params in
      let others = filter (λ r. not (f r)) all in
      let u = updates schema sql at p terms project is plain placed plainly still old new params count has h in
      let outputs = kept_of p.tree terms project [] params all in
      let id_of = λ (o : Output). id_in (rowid o.1) in
      let ids : IsPermutation (ids_of (filter f all)) (ids_of u.0)
      = subst₂ IsPermutation
      (map-map id_of (sorted_and_shown [] project params) (filter f all) ∙ map_alike (λ (r : Row). id_in (rowid (shown_of project params r))) (λ (r : Row). id_in (rowid r)) (filter f all) (λ r there. ap id_in (each r (has_filtered f all r there).0).id))
      (sym (ap ids_of u.1.shown ∙ map-map (λ (r : Row). id_in (rowid r)) (λ (o : Output). o.1) u.1.ordered))
      (IsPermutation-map id_of outputs u.1.ordered u.1.same) in
      let source = λ (s : Row). cast_row (table_of p) (drop 1 s) in
      let sources = map source u.0 in
      let same : IsPermutation (map anew (filter f all)) sources
      = subst₂ IsPermutation
      (map-map (λ (o : Output). source o.1) (sorted_and_shown [] project params) (filter f all))
      (sym (ap (map source) u.1.shown ∙ map-map source (λ (o : Output). o.1) u.1.ordered))
      (IsPermutation-map (λ (o : Output). source o.1) outputs u.1.ordered u.1.same) in
      let edit : Edit = edit_of db (table_of p) (ids_of u.0) Given 1 u.0 in
      let left : without_all all (ids_of u.0) ≡ others = taken_out all (rows.keyed tt) f (ids_of u.0) ids in
      let news : edit.news ≡ sources = numbered_given (without_all all (ids_of u.0)) sources in
      let fresh : are_fresh others sources ≡ true = subst₂ (λ (l n : List Row). are_fresh l n ≡ true) left news u.2.applies.fresh in
      let ints : have_rowids sources ≡ true = subst (λ (n : List Row). have_rowids n ≡ true) news u.2.applies.keyed in
      let after : new.now.trees p.tree ≡ put_all others sources = u.2.applies.rows ∙ ap₂ (λ (l n : List Row). put_all l n) left news in
      record {
        schema_is = u.2.schema_is;
        sound = u.2.sound;
        rows = subst (HasRows ⊤ view values) (sym after) (renewed view kept all f anew (λ r there. (each r there).put) (λ r there. (each r there).rest) values sources same ints fresh rows);
        others = u.2.applies.tables;
      }
