-- The accounts with their free pages, and the next number.
use Rattle.std.proofs.Common.{◌≡◌, inl, inr, ℕ, ℤ, pos, ◌+◌, ◌<◌, List, [], ◌∷◌, ◌++◌, map, filter, length, fold, take, get_or, true, Option, Some, None, Ok, refl, sym, ap, subst, ◌∙◌}
use Rattle.std.specs.FinMap.{FinMap, entries, get, get-entries, insert, entries_sorted, find, is_sorted}
use Rattle.std.specs.FinMap.Entries.{below_all}
use Rattle.std.specs.Cmp.Lexicographic.{nat_list_cmp_total}
use Rattle.std.proofs.Common.{T, bytes_eq}
use Rattle.std.proofs.lemmas.Bool.{cases_Bool}
use Rattle.std.proofs.lemmas.Map.Text.{is_eq-slice_cmp}
use Rattle.std.proofs.lemmas.List.{nil_from_length}
use Rattle.std.proofs.lemmas.List.Sums.{fold_more}
use Rattle.std.specs.List.Sorted.{IsPermutation}
use Rattle.sqlite.specs.declared.types.Value.{Value}
use Rattle.sqlite.specs.declared.types.Value.TheVariants.{Null, Int, Text as Words}
use Rattle.sqlite.specs.Order.{Row, column}
use Rattle.sqlite.specs.Tree.{rowid}
use Rattle.sqlite.specs.Cast.{cast_row}
use Rattle.sqlite.specs.State.{State, ExecutesInside}
use Rattle.queue_types.specs.declared.event.FreeRow.{FreeRow}
use Rattle.queue_core.specs.World.{World, put_free, text_cmp}
use Rattle.queue_core.specs.Sound.{reserved, printed}
use Rattle.queue_rows.specs.Rows.{meta_row}
use Rattle.queue_rows.specs.Versions.{third_version}
use Rattle.queue_rows.specs.declared.rows.MetaRow.{MetaRow}
use Rattle.queue_tables.specs.Plain.{table_of}
use Rattle.queue_tables.proofs.PlainQueries.{shown_of}
use Rattle.queue_tables.specs.Tables.{book_schema, meta}
use Rattle.queue_tables.specs.Kept.{replaced}
use Rattle.queue_tables.specs.Values.{number, meta_values, meta_view, account_values}
use Rattle.queue_tables.specs.Content.{Holds, content_of}
use Rattle.queue_tables.specs.Steps.{AreCovered, HasAccount, is_named, is_numbered, with_account_row, with_free, with_frees, with_next}
use Rattle.queue_tables.proofs.Casts.{cast_null, cast_int}
use Rattle.queue_tables.proofs.Statements.{update_free_text, update_next_text, update_next_terms, update_next_where, update_next_is, meta_still}
use Rattle.queue_tables.proofs.Changing.{updates_row}
use Rattle.queue_tables.proofs.Permuting.{replaced_none}
use Rattle.queue_tables.proofs.Held.{holds_meta, like_holds, same_order}
use Rattle.queue_tables.proofs.Numbers.{numbered_meta, named_account}
use Rattle.queue_tables.proofs.NewEntries.{rows_with}
use Rattle.queue_tables.proofs.Sums.{free_put, free_params, counts_frees, puts_free_row, misses_free_row}
use Rattle.queue_tables.proofs.Accounts.{account_rows, free_put_of, none_below, same_text, T_first, T_second}
use Rattle.queue_tables.proofs.Puts.{turned}
use Rattle.queue_tables.proofs.Covered.{covered_more}

-- ---- the account of a name

abbrev pub found_account : List ℕ → (List ℕ → ℤ) → (List ℕ → ℤ) → Option ℤ → List Row
found_account name r p None = []
found_account name r p (Some free) = account_values name free (r name) (p name) ∷ []

pub account_at : (name : List ℕ) (r p : List ℕ → ℤ) (es : List (List ℕ × ℤ)) → T (is_sorted text_cmp es) → filter (is_named name) (account_rows r p es) ≡ found_account name r p (find text_cmp name es)
account_at name r p [] rise = refl
account_at name r p (a ∷ es) rise = elim (cases_Bool (bytes_eq a.0 name)) [
  | inl same ↦
      let is = same_text a.0 name same in
      let tied = is_eq-slice_cmp name a.0 ∙ turned name a.0 ∙ same in
      let others = none_below name r p es (subst (λ k. T (below_all text_cmp k es)) is (T_first _ _ rise)) in
      rw (named_account name a.0 a.1 (r a.0) (p a.0) ∙ same, tied, others, is) refl
  | inr apart ↦
      let tied = is_eq-slice_cmp name a.0 ∙ turned name a.0 ∙ apart in
      rw (named_account name a.0 a.1 (r a.0) (p a.0) ∙ apart, tied) (account_at name r p es (T_second _ _ rise))
]

abbrev pub reserved_in : World → List ℕ → ℤ
reserved_in w a = pos (reserved a w)

abbrev pub printed_in : World → List ℕ → ℤ
printed_in w a = pos (printed a w)

pub account_in : (w : World) (name : List ℕ) → filter (is_named name) (content_of w).accounts ≡ found_account name (reserved_in w) (printed_in w) (get w.free name)
account_in w name =
    account_at name (reserved_in w) (printed_in w) (entries w.free) (entries_sorted w.free) ∙ ap (found_account name (reserved_in w) (printed_in w)) (sym (get-entries w.free name))

lacks : (name : List ℕ) (r p : List ℕ → ℤ) (o : Option ℤ) → found_account name r p o ≡ [] → o ≡ None
lacks name r p None e = refl
lacks name r p (Some free) e = absurd cc

has_one : (name : List ℕ) (r p : List ℕ → ℤ) (o : Option ℤ) (vs : List Row) → vs ≡ found_account name r p o → (vs ≡ [] → ⊥) → (free : ℤ) × (vs ≡ account_values name free (r name) (p name) ∷ [])
has_one name r p None vs is some = absurd (some is)
has_one name r p (Some free) vs is some = (free, is)

-- the account's free pages are put anew, where the UPDATE changed a row
pub puts_free : (old new : State) (name : List ℕ) (free : ℤ) (count : ℕ) (w : World) → Holds (content_of w) old → (count ≡ 0 → ⊥)
    → ExecutesInside 0 update_free_text (free_params name free) old new (Ok count) → Holds (content_of (with_free (record { account = name; free = free }) w)) new
puts_free old new name free count w has some h =
    let c = content_of w in
    let there : filter (is_named name) c.accounts ≡ [] → ⊥ = λ none. some (counts_frees old new name free count c has h ∙ ap (length {A = Row}) none) in
    let one = has_one name (reserved_in w) (printed_in w) (get w.free name) (filter (is_named name) c.accounts) (account_in w name) there in
    let it : HasAccount name c = record { named = name; free = one.0; set_aside = reserved_in w name; done = printed_in w name; once = one.1 } in
    subst (λ (vs : List Row). Holds (record c { accounts = vs }) new) (free_put_of w.free name free (reserved_in w) (printed_in w) there) (puts_free_row old new name free count c has it h)

-- else it is not there
pub lacks_free : (old new : State) (name : List ℕ) (free : ℤ) (count : ℕ) (w : World) → Holds (content_of w) old → count ≡ 0
    → ExecutesInside 0 update_free_text (free_params name free) old new (Ok count) → (get w.free name ≡ None) × Holds (content_of w) new
lacks_free old new name free count w has zero h =
    let c = content_of w in
    let none : filter (is_named name) c.accounts ≡ [] = nil_from_length _ (sym (counts_frees old new name free count c has h) ∙ zero) in (
      lacks name (reserved_in w) (printed_in w) (get w.free name) (sym (account_in w name) ∙ none),
      subst (λ (vs : List Row). Holds (record c { accounts = vs }) new) (replaced_none (is_named name) (free_put free) c.accounts none) (misses_free_row old new name free count c has none h),
    )

-- a new account
pub adds_new : (a : FreeRow) (w : World) (s : State) → get w.free a.account ≡ None → AreCovered w → Holds (with_account_row (account_values a.account a.free (pos 0) (pos 0)) (content_of w)) s → Holds (content_of (with_free a w)) s
adds_new a w s none covered has =
    let zero = covered a.account none in
    let f : List ℕ × ℤ → Row = λ (b : List ℕ × ℤ). account_values b.0 b.1 (reserved_in w b.0) (printed_in w b.0) in
    let same : account_values a.account a.free (pos 0) (pos 0) ≡ f (a.account, a.free) = rw (zero.0, zero.1) refl in
    let c = content_of w in
    like_holds (with_account_row (account_values a.account a.free (pos 0) (pos 0)) c) (content_of (with_free a w)) s (record {
      meta = same_order refl;
      jobs = same_order refl;
      documents = same_order refl;
      pieces = same_order refl;
      accounts = subst (λ (v : Row). IsPermutation (c.accounts ++ v ∷ []) (map f (entries (insert w.free a.account a.free)))) (sym same) (rows_with nat_list_cmp_total f w.free a.account a.free none);
      grants = same_order refl;
      reports = same_order refl;
      policy = same_order refl;
      operators = same_order refl;
    }) has

-- ---- one account after another

frees_more : (rows : List FreeRow) (k : ℕ) (x : FreeRow) (w : World) → k < length rows → x ≡ get_or rows k x → with_frees (take (k + 1) rows) w ≡ with_free x (with_frees (take k rows) w)
frees_more rows k x w below is = ap (λ (m : FinMap text_cmp ℤ). record w { free = m }) (fold_more put_free w.free rows k x below ∙ ap (put_free (fold put_free w.free (take k rows))) (sym is))

pub free_more : (rows : List FreeRow) (k : ℕ) (x : FreeRow) (w : World) (s : State) → k < length rows → x ≡ get_or rows k x → Holds (content_of (with_free x (with_frees (take k rows) w))) s → Holds (content_of (with_frees (take (k + 1) rows) w)) s
free_more rows k x w s below is has = subst (λ (v : World). Holds (content_of v) s) (sym (frees_more rows k x w below is)) has

pub covered_yet : (rows : List FreeRow) (w : World) → AreCovered w → AreCovered (with_frees rows w)
covered_yet [] w covered = covered
covered_yet (x ∷ rows) w covered = covered_yet rows (with_free x w) (covered_more w x covered)

-- ---- the next number

next_put : ℕ → Row → Row
next_put n v = column v 0 ∷ column v 1 ∷ column v 2 ∷ column v 3 ∷ column v 4 ∷ column v 5 ∷ number n ∷ []

unfoldable pub next_stored : MetaRow → ℕ → ℤ → Row
next_stored m n id = Int id ∷ Null ∷ number m.schema ∷ Words m.uri ∷ Words m.name ∷ number m.estimate ∷ Int m.epoch ∷ number n ∷ []

pub cast_next : (m : MetaRow) (n : ℕ) (id : ℤ) → cast_row (table_of meta) (next_stored m n id) ≡ next_stored m n id
unfolding next_stored
cast_next m n id = rw (cast_null, cast_int id, cast_int (pos m.schema), cast_int (pos m.estimate), cast_int m.epoch, cast_int (pos n)) refl

pub next_shown : (m : MetaRow) (n : ℕ) (r : Row) (id : ℤ) → rowid r ≡ Int id → meta_view r ≡ meta_values m → shown_of update_next_terms (number n ∷ []) r ≡ Int id ∷ next_stored m n id
unfolding next_stored
next_shown m n r id keyed is =
    let b : column r 2 ≡ number m.schema = ap (λ (v : Row). column v 1) is in
    let c : column r 3 ≡ Words m.uri = ap (λ (v : Row). column v 2) is in
    let d : column r 4 ≡ Words m.name = ap (λ (v : Row). column v 3) is in
    let e : column r 5 ≡ number m.estimate = ap (λ (v : Row). column v 4) is in
    let f : column r 6 ≡ Int m.epoch = ap (λ (v : Row). column v 5) is in
    rw (keyed, b, c, d, e, f) refl

next_view : (m : MetaRow) (n : ℕ) (r : Row) (id : ℤ) → rowid r ≡ Int id → meta_view r ≡ meta_values m → meta_view (next_stored m n id) ≡ next_put n (meta_values m)
unfolding next_stored next_put
next_view m n r id keyed is =
    let first : Int id ≡ number m.one = sym keyed ∙ ap (λ (v : Row). column v 0) is in
    ap (λ (v : Value). v ∷ number m.schema ∷ Words m.uri ∷ Words m.name ∷ number m.estimate ∷ Int m.epoch ∷ number n ∷ []) first

pub next_id : (m : MetaRow) (n : ℕ) (id : ℤ) → rowid (next_stored m n id) ≡ Int id
unfolding next_stored
next_id m n id = refl

put_one : (m : MetaRow) (n : ℕ) → is_numbered 1 (meta_values m) ≡ true → replaced (is_numbered 1) (next_put n) (meta_values m ∷ []) ≡ meta_values (record m { next_number = n }) ∷ []
unfolding next_put
put_one m n is = rw is refl

pub puts_next : (old new : State) (n count : ℕ) (w : World) → Holds (content_of w) old → ExecutesInside 0 update_next_text (number n ∷ []) old new (Ok count) → Holds (content_of (with_next n w)) new
puts_next old new n count w has h =
    let m = meta_row third_version w in
    let is : is_numbered 1 (meta_values m) ≡ true = numbered_meta m refl in
    let l = updates_row book_schema update_next_text 0 meta update_next_where update_next_terms update_next_is.command update_next_is.plain refl (λ db. refl) meta_still
    meta_view (content_of w).meta (is_numbered 1) (next_put n)
    old new (number n ∷ []) (meta_values m) (next_stored m n) count has.schema
    (λ r. refl)
    (λ r id keyed like. (next_shown m n r id keyed like, cast_next m n id, next_id m n id, next_view m n r id keyed like))
    has.rows.meta (rw is refl) h.0 in
    subst (λ (vs : List Row). Holds (record (content_of w) { meta = vs }) new) (put_one m n is) (holds_meta (content_of w) _ old new has l h.1.is_open)
