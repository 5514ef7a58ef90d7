-- What a SELECT over one table shows, by what the table has.
use Rattle.std.proofs.Common.{◌≡◌, ℕ, List, [], ◌∷◌, map, filter, Bool, refl, sym, ap, subst, ◌∙◌}
use Rattle.std.specs.List.Sorted.{IsPermutation}
use Rattle.std.proofs.lemmas.List.Sorted.{IsPermutation-trans, IsPermutation-map}
use Rattle.sqlite.specs.Order.{Row}
use Rattle.sqlite.specs.Term.{Term}
use Rattle.sqlite.specs.Query.{Output}
use Rattle.sqlite.specs.Listing.{understood}
use Rattle.sqlite.specs.State.{State, Shown, IsUnchanged}
use Rattle.sqlite.proofs.Callers.{IsPlain}
use Rattle.sqlite_value.specs.declared.keys.Key.{Key}
use Rattle.queue_tables.proofs.PlainQueries.{passes, shown_of}
use Rattle.queue_tables.specs.Kept.{HasRows}
use Rattle.queue_tables.specs.Tables.{book_schema}
use Rattle.queue_tables.proofs.Writing.{reads_rows, kept_of, sorted_and_shown, IsListing}
use Rattle.queue_tables.proofs.Permuting.{passing}
use Rattle.queue_tables.proofs.Statements.{IsSelection, Selection}

map_twice : {A B C : Type 0} (f : A → B) (g : B → C) (h : A → C) → ((x : A) → h x ≡ g (f x)) → (xs : List A) → map h xs ≡ map g (map f xs)
map_twice f g h same [] = refl
map_twice {A} {B} {C} f g h same (x ∷ xs) = rw (same x, map_twice f g h same xs) refl

module _ (tree : ℕ) (terms project : List Term) (order : List (Term × Key)) (params : Row) (cells : Row → Row) (q : Row → Bool) (out : Row → Row)
    (alike : (r : Row) → passes terms params r ≡ q (cells r)) (shows : (r : Row) → shown_of project params r ≡ out (cells r)) where
  -- the rows that are shown are those of the values that WHERE lets through
  pub listed : {K : Type 0} (values rows shown_rows : List Row) → HasRows K cells values rows → IsListing tree terms project order params rows shown_rows → IsPermutation (map out (filter q values)) shown_rows
  listed values rows shown_rows has l =
      let found = filter (passes terms params) rows in
      let given : IsPermutation (map (λ (o : Output). o.1) (kept_of tree terms project order params rows)) (map (λ (o : Output). o.1) l.ordered) = IsPermutation-map (λ (o : Output). o.1) (kept_of tree terms project order params rows) l.ordered l.same in
      let plainly : map (λ (o : Output). o.1) (kept_of tree terms project order params rows) ≡ map out (map cells found)
      = sym (map_twice (sorted_and_shown order project params) (λ (o : Output). o.1) (shown_of project params) (λ r. refl) found) ∙ map_twice cells out (shown_of project params) shows found in
      let first : IsPermutation (map out (filter q values)) (map out (map cells found)) = IsPermutation-map out (filter q values) (map cells found) (passing cells values rows has (passes terms params) q alike) in
      let last : IsPermutation (map out (map cells found)) shown_rows = subst (IsPermutation (map out (map cells found))) (sym l.shown) (subst (λ (k : List Row). IsPermutation k (map (λ (o : Output). o.1) l.ordered)) plainly given) in
      IsPermutation-trans (map out (filter q values)) (map out (map cells found)) shown_rows first last

module _ (q : Selection) (is : IsSelection q) where
  -- what `query_all` gives
  pub shows_all : {K : Type 0} (old new : State) (params : Row) (cells : Row → Row) (let_through : Row → Bool) (out : Row → Row) (values rows : List Row) → old.now.schema ≡ book_schema
      → ((r : Row) → passes q.filter params r ≡ let_through (cells r)) → ((r : Row) → shown_of q.terms params r ≡ out (cells r)) → HasRows K cells values (old.now.trees q.tree)
      → Shown q.text params old new rows → IsPermutation (map out (filter let_through values)) rows
  shows_all old new params cells let_through out values rows has_schema alike shows has h =
      listed q.tree q.filter q.terms q.order params cells let_through out alike shows values (old.now.trees q.tree) rows has (reads_rows q is old new params rows has_schema h)

  -- a SELECT changes nothing
  pub rows_keep : (old new : State) (params : Row) (rows : List Row) → old.now.schema ≡ book_schema → Shown q.text params old new rows → IsUnchanged old new
  unfolding Shown
  rows_keep old new params rows has h =
      let known = sym h.1.is ∙ ap (λ s. understood s q.text) has in
      let bare = subst IsPlain (sym known) is.shows.plain in
      let it = rw (bare.0) at h.2 in
      it.3
