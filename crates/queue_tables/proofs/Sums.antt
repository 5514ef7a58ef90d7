-- What the UPDATEs of an account do.
use Rattle.std.proofs.Common.{◌≡◌, inl, inr, ℕ, ℤ, pos, ◌+ℤ◌, List, [], ◌∷◌, filter, length, Bool, true, Ok, refl, sym, ap, subst, subst₂, arith}
use Rattle.std.proofs.lemmas.Bool.{cases_Bool}
use Rattle.std.proofs.lemmas.Int.{ints}
use Rattle.sqlite.specs.declared.types.Value.TheVariants.{Int, Text as Words}
use Rattle.sqlite.specs.Order.{Row, column}
use Rattle.sqlite.specs.Ops.{binary, fits_i64}
use Rattle.sqlite.specs.Cast.{cast_row}
use Rattle.sqlite_sql.specs.declared.ops.BinaryOp.TheVariants.{Arith}
use Rattle.sqlite_sql.specs.declared.ops.ArithOp.TheVariants.{Add}
use Rattle.sqlite.specs.Tree.{rowid}
use Rattle.sqlite.specs.State.{State, ExecutesInside}
use Rattle.queue_tables.specs.Plain.{table_of}
use Rattle.queue_tables.proofs.PlainQueries.{shown_of}
use Rattle.queue_tables.specs.Tables.{book_schema, accounts}
use Rattle.queue_tables.specs.Kept.{replaced}
use Rattle.queue_tables.specs.Values.{account_values, account_view}
use Rattle.queue_tables.specs.Content.{Content, Holds}
use Rattle.queue_tables.specs.Steps.{CanAdd, HasAccount, is_named, with_sums, plus}
use Rattle.queue_tables.proofs.Casts.{cast_int}
use Rattle.queue_tables.proofs.Statements.{update_sums_text, update_sums_terms, update_sums_where, update_sums_is, update_free_text, update_free_terms, update_free_where, update_free_is, accounts_still}
use Rattle.queue_tables.proofs.Changing.{updates_row, updates_none, updates_count}
use Rattle.queue_tables.proofs.Permuting.{replaced_none}
use Rattle.queue_tables.proofs.Held.{holds_accounts}

-- a sum that 64 bits hold
pub sum_is : (m n : ℤ) → fits_i64 (m +ℤ n) ≡ true → binary (Arith Add) (Int m) (Int n) ≡ Int (m +ℤ n)
unfolding binary
sum_is m n fits = rw fits refl

-- an account's row with its rowid
abbrev pub anew : List ℕ → ℤ → ℤ → ℤ → ℤ → Row
anew named free set_aside done id = Int id ∷ Words named ∷ Int free ∷ Int set_aside ∷ Int done ∷ []

pub cast_account : (named : List ℕ) (free set_aside done id : ℤ) → cast_row (table_of accounts) (anew named free set_aside done id) ≡ anew named free set_aside done id
cast_account named free set_aside done id = rw (cast_int id, cast_int free, cast_int set_aside, cast_int done) refl

-- ---- the sums

abbrev pub sums_params : List ℕ → ℤ → ℤ → Row
sums_params name set_aside done = Words name ∷ Int set_aside ∷ Int done ∷ []

pub sums_shown : (name named : List ℕ) (free was_set_aside was_done set_aside done : ℤ) (r : Row) (id : ℤ) → rowid r ≡ Int id → account_view r ≡ account_values named free was_set_aside was_done
    → fits_i64 (was_set_aside +ℤ set_aside) ≡ true → fits_i64 (was_done +ℤ done) ≡ true
    → shown_of update_sums_terms (sums_params name set_aside done) r ≡ Int id ∷ anew named free (was_set_aside +ℤ set_aside) (was_done +ℤ done) id
sums_shown name named free was_set_aside was_done set_aside done r id keyed is p q =
    let a : column r 1 ≡ Words named = ap (λ (v : Row). column v 0) is in
    let b : column r 2 ≡ Int free = ap (λ (v : Row). column v 1) is in
    let c : column r 3 ≡ Int was_set_aside = ap (λ (v : Row). column v 2) is in
    let d : column r 4 ≡ Int was_done = ap (λ (v : Row). column v 3) is in
    rw (keyed, a, b, c, d, sum_is was_set_aside set_aside p, sum_is was_done done q) refl

pub adds_sums : (old new : State) (name : List ℕ) (set_aside done : ℤ) (count : ℕ) (c : Content) → Holds c old → CanAdd name set_aside done c
    → ExecutesInside 0 update_sums_text (sums_params name set_aside done) old new (Ok count) → Holds (with_sums name set_aside done c) new
adds_sums old new name set_aside done count c has (inl none) h =
    holds_accounts c _ old new has (updates_none book_schema update_sums_text 4 accounts update_sums_where update_sums_terms update_sums_is.command update_sums_is.plain refl (λ db. refl) accounts_still
    account_view c.accounts (is_named name) (λ v. column v 0 ∷ column v 1 ∷ plus set_aside (column v 2) ∷ plus done (column v 3) ∷ [])
    old new (sums_params name set_aside done) count has.schema (λ r. refl) has.rows.accounts none h.0) h.1.is_open
adds_sums old new name set_aside done count c has (inr can) h =
    let it = can.0 in
    holds_accounts c _ old new has (updates_row book_schema update_sums_text 4 accounts update_sums_where update_sums_terms update_sums_is.command update_sums_is.plain refl (λ db. refl) accounts_still
    account_view c.accounts (is_named name) (λ v. column v 0 ∷ column v 1 ∷ plus set_aside (column v 2) ∷ plus done (column v 3) ∷ [])
    old new (sums_params name set_aside done) (account_values it.named it.free it.set_aside it.done) (anew it.named it.free (it.set_aside +ℤ set_aside) (it.done +ℤ done)) count has.schema (λ r. refl)
    (λ r id keyed is. (sums_shown name it.named it.free it.set_aside it.done set_aside done r id keyed is can.1 can.2, cast_account it.named it.free (it.set_aside +ℤ set_aside) (it.done +ℤ done) id, refl, refl))
    has.rows.accounts it.once h.0) h.1.is_open

-- ---- nothing is added

more_zero : (m : ℤ) → m +ℤ pos 0 ≡ m
more_zero m = omega (arith, ints)

-- the one row that is put anew is as it was
replaced_alike : (q : Row → Bool) (f : Row → Row) (t : Row) (vs : List Row) → f t ≡ t → filter q vs ≡ t ∷ [] → replaced q f vs ≡ vs
replaced_alike q f t [] alike one = refl
replaced_alike q f t (v ∷ vs) alike one = elim (cases_Bool (q v)) [
  | inl passed ↦
      let e : ◌≡◌ {A = List Row} (v ∷ filter q vs) (t ∷ []) = rw passed at one in
      let same : v ≡ t = cc in
      let none : filter q vs ≡ [] = cc in
      rw (passed, subst (λ (x : Row). f x ≡ x) (sym same) alike, replaced_none q f vs none) refl
  | inr failed ↦ rw failed (ap (λ (k : List Row). v ∷ k) (replaced_alike q f t vs alike (rw failed at one)))
]

zeros_added : (name : List ℕ) (c : Content) (s : State) → Holds c s → CanAdd name (pos 0) (pos 0) c → Holds (with_sums name (pos 0) (pos 0) c) s
zeros_added name c s has (inl none) =
    subst (λ (vs : List Row). Holds (record c { accounts = vs }) s) (sym (replaced_none (is_named name) (λ v. column v 0 ∷ column v 1 ∷ plus (pos 0) (column v 2) ∷ plus (pos 0) (column v 3) ∷ []) c.accounts none)) has
zeros_added name c s has (inr can) =
    let it = can.0 in
    let same = replaced_alike (is_named name) (λ v. column v 0 ∷ column v 1 ∷ plus (pos 0) (column v 2) ∷ plus (pos 0) (column v 3) ∷ []) (account_values it.named it.free it.set_aside it.done) c.accounts
    (rw (more_zero it.set_aside, more_zero it.done) refl) it.once in
    subst (λ (vs : List Row). Holds (record c { accounts = vs }) s) (sym same) has

pub adds_nothing : (name : List ℕ) (a b : ℤ) (c : Content) (s : State) → a ≡ pos 0 → b ≡ pos 0 → Holds c s → CanAdd name a b c → Holds (with_sums name a b c) s
adds_nothing name a b c s first second has can =
    subst₂ (λ (x y : ℤ). Holds (with_sums name x y c) s) (sym first) (sym second) (zeros_added name c s has (subst₂ (λ (x y : ℤ). CanAdd name x y c) first second can))

-- ---- the free pages

abbrev pub free_params : List ℕ → ℤ → Row
free_params name free = Words name ∷ Int free ∷ []

abbrev pub free_put : ℤ → Row → Row
free_put free v = column v 0 ∷ Int free ∷ column v 2 ∷ column v 3 ∷ []

pub free_shown : (name named : List ℕ) (free was_free set_aside done : ℤ) (r : Row) (id : ℤ) → rowid r ≡ Int id → account_view r ≡ account_values named was_free set_aside done
    → shown_of update_free_terms (free_params name free) r ≡ Int id ∷ anew named free set_aside done id
free_shown name named free was_free set_aside done r id keyed is =
    let a : column r 1 ≡ Words named = ap (λ (v : Row). column v 0) is in
    let c : column r 3 ≡ Int set_aside = ap (λ (v : Row). column v 2) is in
    let d : column r 4 ≡ Int done = ap (λ (v : Row). column v 3) is in
    rw (keyed, a, c, d) refl

-- how many rows the UPDATE of free pages has put anew
pub counts_frees : (old new : State) (name : List ℕ) (free : ℤ) (count : ℕ) (c : Content) → Holds c old → ExecutesInside 0 update_free_text (free_params name free) old new (Ok count)
    → count ≡ length (filter (is_named name) c.accounts)
counts_frees old new name free count c has h =
    updates_count book_schema update_free_text 4 accounts update_free_where update_free_terms update_free_is.command update_free_is.plain refl (λ db. refl) accounts_still
    account_view c.accounts (is_named name) (free_put free) old new (free_params name free) count has.schema (λ r. refl) has.rows.accounts h.0

pub puts_free_row : (old new : State) (name : List ℕ) (free : ℤ) (count : ℕ) (c : Content) → Holds c old → (it : HasAccount name c)
    → ExecutesInside 0 update_free_text (free_params name free) old new (Ok count) → Holds (record c { accounts = replaced (is_named name) (free_put free) c.accounts }) new
puts_free_row old new name free count c has it h =
    holds_accounts c _ old new has (updates_row book_schema update_free_text 4 accounts update_free_where update_free_terms update_free_is.command update_free_is.plain refl (λ db. refl) accounts_still
    account_view c.accounts (is_named name) (free_put free)
    old new (free_params name free) (account_values it.named it.free it.set_aside it.done) (anew it.named free it.set_aside it.done) count has.schema (λ r. refl)
    (λ r id keyed is. (free_shown name it.named free it.free it.set_aside it.done r id keyed is, cast_account it.named free it.set_aside it.done id, refl, refl))
    has.rows.accounts it.once h.0) h.1.is_open

pub misses_free_row : (old new : State) (name : List ℕ) (free : ℤ) (count : ℕ) (c : Content) → Holds c old → filter (is_named name) c.accounts ≡ []
    → ExecutesInside 0 update_free_text (free_params name free) old new (Ok count) → Holds (record c { accounts = replaced (is_named name) (free_put free) c.accounts }) new
misses_free_row old new name free count c has none h =
    holds_accounts c _ old new has (updates_none book_schema update_free_text 4 accounts update_free_where update_free_terms update_free_is.command update_free_is.plain refl (λ db. refl) accounts_still
    account_view c.accounts (is_named name) (free_put free)
    old new (free_params name free) count has.schema (λ r. refl) has.rows.accounts none h.0) h.1.is_open
