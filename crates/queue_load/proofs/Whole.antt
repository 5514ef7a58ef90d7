-- A whole table that was read.
use Rattle.std.proofs.Common.{◌≡◌, ◌≢◌, ℕ, List, [], ◌∷◌, ◌++◌, map, length, All, refl, sym, ap, subst, subst₂, ◌∙◌, arith, slice_index_or, Result, IfOk, IfErr, OnOk}
use Rattle.std.specs.List.Sorted.{IsPermutation, IsSorted}
use Rattle.std.proofs.lemmas.List.Elements.{All-cons, All-map, All-tail}
use Rattle.std.proofs.lemmas.List.Sorted.{All-permutation, IsPermutation-sym}
use Rattle.sqlite.specs.declared.types.Value.TheVariants.{Null}
use Rattle.sqlite.specs.Order.{Row}
use Rattle.sqlite.specs.Query.{output_cmp}
use Rattle.sqlite.specs.Effect.{Reads}
use Rattle.sqlite.specs.Listing.{understood, reads_listing, IsSourceOf}
use Rattle.sqlite.specs.State.{State, HasCleanDisk, IsUnchanged}
use Rattle.sqlite.proofs.Callers.{IsPlain, begins_as, command_of}
use Rattle.queue_tables.proofs.PlainQueries.{plain_query, shown_of}
use Rattle.sqlite.specs.Schema.{Schema}
use Rattle.queue_rows.specs.Versions.{Version}
use Rattle.queue_tables.specs.Tables.{schema_of}
use Rattle.queue_tables.proofs.Writing.{IsListing, lists}
use Rattle.queue_tables.specs.Leaving.{LeavesTables}
use Rattle.queue_tables.specs.declared.fault.Fault.{Fault}
use Rattle.queue_tables.specs.declared.fault.Fault.TheVariants.{Damaged}
use Rattle.queue_load.specs.Reads.{Answers, HasBook, IsUnderstood, Tell, HasRead, FindsFormless, ReadsTable}
use Rattle.queue_load.proofs.Telling.{reads_by}
use Rattle.queue_load.specs.Loaded.{AreFormedRows, IsTable, key_cmp}
use Rattle.queue_load.proofs.Listing.{sorted_by, listing_is, typed_sorted, given_is}
use Rattle.queue_load.proofs.Texts.{IsReading, IsWhole, WholeQuery}

-- the items that tell of rows of that width
pub told_rows : {T : Type 0} (tells : T → Row → Type 0) (values : T → Row) (n : ℕ) → ((t : T) (r : Row) → tells t r → length r ≡ n → r ≡ values t) → (ts : List T) (rs : List Row) → Tell tells ts rs → All (λ r. length r ≡ n) rs
    → rs ≡ map values ts
told_rows tells values n reads [] [] told wide = refl
told_rows tells values n reads (t ∷ ts) (r ∷ rs) told wide =
    let first : r ≡ values t = reads t r told.0 (wide 0 r (omega arith)) in
    let more : rs ≡ map values ts = told_rows tells values n reads ts rs told.1 (All-tail (λ r. length r ≡ n) r rs wide) in
    subst₂ (λ (a : Row) (as1 : List Row). r ∷ rs ≡ a ∷ as1) first more refl
told_rows tells values n reads _ _ told wide = absurd told

pub told_all : {T : Type 0} (tells : T → Row → Type 0) (P : T → Type 0) → ((t : T) (r : Row) → tells t r → P t) → (ts : List T) (rs : List Row) → Tell tells ts rs → All P ts
told_all tells P each [] rs told = λ i d low. absurd (omega (arith, low))
told_all tells P each (t ∷ ts) [] told = absurd told
told_all tells P each (t ∷ ts) (r ∷ rs) told = All-cons P t ts (each t r told.0) (told_all tells P each ts rs told.1)

module _ (q : WholeQuery) (is : IsWhole q) (schema : Schema) (reading : IsReading schema q) where
  pub listed : (s : State) (rows : List Row) → s.now.schema ≡ schema → Answers q.sql [] s rows → IsListing q.tree [] q.terms q.order [] (s.now.trees q.tree) rows
  listed s rows has h =
      let known = sym h.1.is ∙ ap (λ t. understood t q.sql) has in
      let bare = subst IsPlain (sym known) reading.plain in
      let db : h.3 ≡ s.now = subst (λ b. IsSourceOf b s.now h.3) (ap (λ t. reads_listing t q.sql) has ∙ reading.unlisted) h.4 in
      let read = subst₂ (λ k d. Reads k d [] rows) (ap command_of known ∙ reading.command) db (rw (bare.1) at h.5) in
      lists q.tree [] q.terms q.order [] s.now.trees rows (is.plainly s.now.trees) (read.answer Null)

  listing : (s : State) (rows : List Row) → s.now.schema ≡ schema → Answers q.sql [] s rows
      → IsPermutation rows (map (shown_of q.terms []) (s.now.trees q.tree)) × IsSorted (output_cmp (plain_query q.tree [] q.terms q.order)) (map (sorted_by q.keys) rows)
  listing s rows has h = listing_is q.tree q.terms q.order q.keys is.leads (s.now.trees q.tree) rows (listed s rows has h)

  pub wide_rows : (s : State) (rows : List Row) → s.now.schema ≡ schema → Answers q.sql [] s rows → All (λ r. length r ≡ q.width) rows
  wide_rows s rows has h =
      let Wide = λ (r : Row). length r ≡ q.width in
      let all = s.now.trees q.tree in
      All-permutation Wide _ _ (IsPermutation-sym _ _ (listing s rows has h).0) (All-map Wide (shown_of q.terms []) all (λ i d low. is.wide (slice_index_or all i d)))

  -- all rows that were shown are told of
  pub table_read : {T : Type 0} (tells : T → Row → Type 0) (values : T → Row) → ((t : T) (r : Row) → tells t r → length r ≡ q.width → r ≡ values t)
      → ((a b : T) → output_cmp (plain_query q.tree [] q.terms q.order) (sorted_by q.keys (values a)) (sorted_by q.keys (values b)) ≡ key_cmp q.keys (values a) (values b))
      → (s : State) (items : List T) → s.now.schema ≡ schema → HasRead tells q.sql s items → IsTable values (shown_of q.terms []) q.keys items (s.now.trees q.tree)
  table_read tells values reads ordered s items has h =
      let it = listing s h.rows has h.all in
      let are : h.rows ≡ map values items = told_rows tells values q.width reads items h.rows h.told (wide_rows s h.rows has h.all) in
      let order = output_cmp (plain_query q.tree [] q.terms q.order) in
      record {
        same = subst (λ (rs : List Row). IsPermutation rs (map (shown_of q.terms []) (s.now.trees q.tree))) are it.0;
        sorted = typed_sorted values (λ a b. key_cmp q.keys (values a) (values b)) (plain_query q.tree [] q.terms q.order) q.keys ordered items (subst (λ (rs : List Row). IsSorted order (map (sorted_by q.keys) rs)) are it.1);
      }

  -- a formless row was shown, so the table's rows are no formed items'
  pub table_formless : {T : Type 0} (values : T → Row) (IsFormed : T → Type 0) (is_formless : Row → Type 0) → ((r : Row) → is_formless r → (t : T) → IsFormed t → r ≢ values t)
      → (s : State) → s.now.schema ≡ schema → FindsFormless is_formless q.sql s → ¬ AreFormedRows IsFormed values (shown_of q.terms []) (s.now.trees q.tree)
  table_formless values IsFormed is_formless never s has h formed =
      let got = (begins_as q.sql [] s s schema has _ reading.command reading.plain reading.unlisted (h.before ++ h.row ∷ []) h.there).1 in
      let b : (rest : List Row) × IsListing q.tree [] q.terms q.order [] (s.now.trees q.tree) ((h.before ++ h.row ∷ []) ++ rest)
      = (got.0, lists q.tree [] q.terms q.order [] s.now.trees ((h.before ++ h.row ∷ []) ++ got.0) (is.plainly s.now.trees) (got.1 Null)) in
      let it = listing_is q.tree q.terms q.order q.keys is.leads (s.now.trees q.tree) ((h.before ++ h.row ∷ []) ++ b.0) b.1 in
      let one = given_is values IsFormed (shown_of q.terms []) (s.now.trees q.tree) h.before b.0 h.row formed.items it.0 formed.are formed.formed in
      never h.row h.formless one.0 one.1 one.2

module _ (q : WholeQuery) (is : IsWhole q) (reads : (n : Version) → IsReading (schema_of n) q) where
  pub knows : (s : State) → HasBook s → IsUnderstood q.sql s
  knows s fits clean = let it = fits clean in subst (λ (t : Schema). IsPlain (understood t q.sql)) (sym it.1) (reads it.0).plain

  -- so it is of what was read
  pub table_reads : {T V : Type 0} {items : V → List T} (tells : T → Row → Type 0) (values : T → Row) (IsFormed : T → Type 0) (is_formless : Row → Type 0) → ((t : T) (r : Row) → tells t r → length r ≡ q.width → r ≡ values t)
      → ((a b : T) → output_cmp (plain_query q.tree [] q.terms q.order) (sorted_by q.keys (values a)) (sorted_by q.keys (values b)) ≡ key_cmp q.keys (values a) (values b))
      → ((r : Row) → is_formless r → (t : T) → IsFormed t → r ≢ values t)
      → {old new : State} (r : Result V Fault) → LeavesTables old new → (HasCleanDisk new → OnOk r (IsUnchanged old new)) → (IsUnderstood q.sql old → HasCleanDisk new → IfOk r (λ v. HasRead tells q.sql old (items v)))
      → (IsUnderstood q.sql old → HasCleanDisk new → IfErr r (λ e. e ≡ Damaged → FindsFormless is_formless q.sql old))
      → ReadsTable old new r (λ d v. IsTable values (shown_of q.terms []) q.keys (items v) (d.trees q.tree)) (λ d. AreFormedRows IsFormed values (shown_of q.terms []) (d.trees q.tree))
  table_reads {T} {V} {items} tells values IsFormed is_formless told ordered never {old} r leaves same read formless =
      reads_by r leaves same (knows old) read formless (λ n schema v has. table_read q is (schema_of n) (reads n) tells values told ordered old (items v) schema has) (λ n schema found. table_formless q is (schema_of n) (reads n) values IsFormed is_formless never old schema found)
