-- What a SELECT shows in the order that it asks for, where that order tells all rows apart.
use Rattle.std.proofs.Common.{◌≡◌, ℕ, pos, List, [], ◌∷◌, map, filter, take, Bool, sym, ap, subst, ◌∙◌, Less}
use Rattle.std.specs.List.Sorted.{IsPermutation, IsSorted}
use Rattle.std.proofs.lemmas.List.Sorted.{IsPermutation-trans, IsPermutation-sym, IsPermutation-map}
use Rattle.sqlite.specs.declared.types.Value.TheVariants.{Int, Null}
use Rattle.sqlite.specs.Order.{Row, column}
use Rattle.sqlite.specs.Term.{eval_all}
use Rattle.sqlite.specs.Query.{Output, output_cmp}
use Rattle.sqlite_sql.specs.Query.{key_cmp}
use Rattle.sqlite_sql.proofs.QueryLemmas.{output_cmp_total}
use Rattle.sqlite_trees.specs.Tree.{IsAscending}
use Rattle.sqlite_keyed.proofs.SortLemmas.{sorted_unique}
use Rattle.sqlite_keyed.proofs.ListLemmas.{ascending-map, map-map, map_same}
use Rattle.sqlite.specs.State.{State, Shown}
use Rattle.sqlite.proofs.Callers.{reads_as}
use Rattle.queue_tables.proofs.PlainQueries.{passes, shown_of}
use Rattle.queue_tables.specs.Kept.{HasRows}
use Rattle.queue_tables.specs.Tables.{book_schema}
use Rattle.queue_tables.proofs.Permuting.{passing}
use Rattle.queue_tables.proofs.Statements.{IsLimited, IsSelection, Selection, query_of}
use Rattle.queue_tables.proofs.Writing.{reads_rows, kept_of, sorted_and_shown, lists_first}

module _ (s : Selection) (params : Row) (cells : Row → Row) (q : Row → Bool) (out key : Row → Row) (alike : (r : Row) → passes s.filter params r ≡ q (cells r)) (shows : (r : Row) → shown_of s.terms params r ≡ out (cells r))
    (keys : (r : Row) → eval_all (map (λ k. k.0) s.order) (params ∷ r ∷ []) ≡ key (cells r)) where
  abbrev paired : Row → Output
  paired v = (key v, out v)

  abbrev kept : List Row → List Output
  kept rows = kept_of s.tree s.filter s.terms s.order params rows

  -- each before the next one, in the order of the query
  abbrev IsInOrder : List Row → Type 0
  IsInOrder xs = IsAscending (λ a b. key_cmp 0 (map (λ k. k.1) s.order) (key a) (key b) ≡ Less) xs

  pairs_of : (rs : List Row) → kept rs ≡ map paired (map cells (filter (passes s.filter params) rs))
  pairs_of rs =
      let found = filter (passes s.filter params) rs in
      map_same (sorted_and_shown s.order s.terms params) (λ r. paired (cells r)) (λ r i. (keys r i, shows r i)) found ∙ sym (map-map paired cells found)

  -- the values that WHERE lets through, in the one order that ORDER BY allows
  ordered_are : {K : Type 0} (values rows xs : List Row) (ordered : List Output) → HasRows K cells values rows → IsPermutation (filter q values) xs → IsInOrder xs → IsPermutation (kept rows) ordered
      → IsSorted (output_cmp (query_of s)) ordered → map (λ (o : Output). o.1) ordered ≡ map out xs
  ordered_are values rows xs ordered has listed rise same sorted =
      let query = query_of s in
      let found = map cells (filter (passes s.filter params) rows) in
      let a : IsPermutation xs found = IsPermutation-trans xs (filter q values) found (IsPermutation-sym (filter q values) xs listed) (passing cells values rows has (passes s.filter params) q alike) in
      let b : IsPermutation (map paired xs) (map paired found) = IsPermutation-map paired xs found a in
      let c : IsPermutation (map paired xs) ordered = IsPermutation-trans (map paired xs) (map paired found) ordered b (subst (λ (k : List Output). IsPermutation k ordered) (pairs_of rows) same) in
      let strict : IsAscending (λ a b. output_cmp query a b ≡ Less) (map paired xs) = ascending-map (λ a b. output_cmp query a b ≡ Less) paired xs rise in
      ap (map (λ (o : Output). o.1)) (sorted_unique (output_cmp query) (output_cmp_total query) (map paired xs) ordered strict c sorted) ∙ map-map (λ (o : Output). o.1) paired xs

  pub shows_in_order : IsSelection s → {K : Type 0} (old new : State) (values rows xs : List Row) → old.now.schema ≡ book_schema → HasRows K cells values (old.now.trees s.tree) → IsPermutation (filter q values) xs → IsInOrder xs
      → Shown s.text params old new rows → rows ≡ map out xs
  shows_in_order is old new values rows xs has_schema has listed rise h =
      let l = reads_rows s is old new params rows has_schema h in
      l.shown ∙ ordered_are values (old.now.trees s.tree) xs l.ordered has listed rise l.same l.sorted

  -- under LIMIT the first of them
  pub shows_first : (at n : ℕ) → IsLimited s at → column params at ≡ Int (pos n) → {K : Type 0} (old new : State) (values rows xs : List Row) → old.now.schema ≡ book_schema → HasRows K cells values (old.now.trees s.tree)
      → IsPermutation (filter q values) xs → IsInOrder xs → Shown s.text params old new rows → rows ≡ take n (map out xs)
  shows_first at n is limit old new values rows xs has_schema has listed rise h =
      let got = reads_as s.text params old new book_schema has_schema _ is.shows.command is.shows.plain is.shows.unlisted rows h in
      let l = lists_first s.tree s.filter s.terms s.order params at n old.now.trees rows (is.plainly old.now.trees) limit (got.answer Null) in
      l.3 ∙ ap (take n) (ordered_are values (old.now.trees s.tree) xs l.0 has listed rise l.1 l.2)
