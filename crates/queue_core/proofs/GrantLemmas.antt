-- What is known of rows that were taken.
use Rattle.std.proofs.Common.{◌≡◌, ℕ, zero, suc, length, drop, ◌+◌, ◌≤◌, List, [], ◌∷◌, ◌++◌, Bool, true, false, cond, ◌&&◌, refl, ap, sym, ◌∙◌, arith, inl, inr}
use Rattle.std.specs.Prelude.{Option, Some, None, bytes_eq, find, is_some, min, nat_eq, option_map}
use Rattle.std.specs.Option.{option_map_or}
use Rattle.std.proofs.lemmas.Bool.{and_parts, cases_Bool, ltb-false}
use Rattle.std.proofs.lemmas.List.Sums.{sum_by_push}
use Rattle.queue_core.specs.Grants.{repeated, refused_row, new_row, all_taken, take_rows, row_of, row_under, pages_under, pages_to, is_too_many}
use Rattle.queue_core.specs.Tally.{is_key_of}
use Rattle.queue_types.specs.declared.event.GrantRefusal.TheVariants.{Conflict, TooMany}
use Rattle.queue_types.specs.declared.event.KnownGrant.{KnownGrant}
use Rattle.queue_types.specs.declared.event.FreeRow.{FreeRow}
use Rattle.queue_types.specs.declared.event.GrantRow.{GrantRow}
use Rattle.queue_core.specs.declared.grants.Key.{Key}
use Rattle.queue_core.proofs.Keep.{no_value, same_key}

-- two rows under one key are under the same batch and account
one_key : (g r : GrantRow) (q : Key) → is_key_of g q ≡ true → is_key_of r q ≡ true → (bytes_eq g.batch r.batch && bytes_eq g.account r.account) ≡ true
one_key g r q e f =
    let ge = and_parts (bytes_eq g.batch q.batch.now) (bytes_eq g.account q.account.now) e in
    let re = and_parts (bytes_eq r.batch q.batch.now) (bytes_eq r.account q.account.now) f in
    ap (λ t. bytes_eq g.batch t && bytes_eq g.account r.account) (same_key r.batch q.batch.now re.0)
    ∙ ap (λ t. bytes_eq g.batch q.batch.now && bytes_eq g.account t) (same_key r.account q.account.now re.1)
    ∙ e

-- one row more under a batch and an account that no row has
pub pages_push : (rows : List GrantRow) (r : GrantRow) (q : Key) → row_under r rows ≡ None
    → cond (is_key_of r q) (Some r.pages) (option_map (λ (g : GrantRow). g.pages) (find (λ (g : GrantRow). is_key_of g q) rows)) ≡ option_map (λ (g : GrantRow). g.pages) (find (λ (g : GrantRow). is_key_of g q) (rows ++ r ∷ []))
pages_push [] r q none = elim (is_key_of r q) as (λ b. cond b (Some r.pages) None ≡ option_map (λ (g : GrantRow). g.pages) (cond b (Some r) None)) [ true ↦ refl | false ↦ refl ]
pages_push (g ∷ rows) r q none =
    elim (is_key_of g q) as (λ b. is_key_of g q ≡ b → cond (is_key_of r q) (Some r.pages) (option_map (λ (x : GrantRow). x.pages) (cond b (Some g) (find (λ (x : GrantRow). is_key_of x q) rows))) ≡ option_map (λ (x : GrantRow). x.pages) (cond b (Some g) (find (λ (x : GrantRow). is_key_of x q) (rows ++ r ∷ [])))) [
      | true ↦ λ here.
          elim (is_key_of r q) as (λ b. is_key_of r q ≡ b → cond b (Some r.pages) (Some g.pages) ≡ Some g.pages) [
            | true ↦ λ is. let both = one_key g r q here is in absurd (cc)
            | false ↦ λ is. refl
          ] refl
      | false ↦ λ here. pages_push rows r q (no_value (bytes_eq g.batch r.batch && bytes_eq g.account r.account) g (row_under r rows) none).1
    ] refl

pub pages_to-push : (rows : List GrantRow) (r : GrantRow) (a : List ℕ) → pages_to a (rows ++ r ∷ []) ≡ pages_to a rows + cond (bytes_eq r.account a) r.pages 0
pages_to-push rows r a = sum_by_push (λ (g : GrantRow). cond (bytes_eq g.account a) g.pages 0) rows r

-- ---- a new row

only_new : (same too : Bool) (o : Option ℕ) → cond same repeated (cond (is_some o) (refused_row Conflict) (cond too (refused_row TooMany) new_row)) ≡ new_row → (o ≡ None) × (too ≡ false)
only_new true too o e = absurd (cc)
only_new false too (Some n) e = absurd (cc)
only_new false true None e = absurd (cc)
only_new false false None e = (refl, refl)

pub new_takes : (r : GrantRow) (k : KnownGrant) (rows : List GrantRow) → row_of r k rows ≡ new_row → (pages_under r k rows ≡ None) × (k.granted + pages_to r.account rows + r.pages ≤ 1000000000)
new_takes r k rows e =
    let is = only_new (option_map_or (λ n. nat_eq n r.pages) (pages_under r k rows) false) (is_too_many r k rows) (pages_under r k rows) e in
    (is.0, ltb-false 1000000000 (k.granted + pages_to r.account rows + r.pages) is.1)

-- behind the last row, or the last of which something is known, nothing is taken
pub ends_at : (rows : List GrantRow) (known : List KnownGrant) (i n : ℕ) (new : List GrantRow) (free : List FreeRow) (repeats : ℕ) → i ≡ min (length rows) (length known) → take_rows (drop i rows) (drop i known) n new free repeats ≡ all_taken new free repeats
ends_at [] known zero n new free repeats e = refl
ends_at [] known (suc i) n new free repeats e = refl
ends_at (r ∷ rows) [] zero n new free repeats e = refl
ends_at (r ∷ rows) [] (suc i) n new free repeats e = absurd (omega arith)
ends_at (r ∷ rows) (k ∷ known) zero n new free repeats e = absurd (omega arith)
ends_at (r ∷ rows) (k ∷ known) (suc i) n new free repeats e = ends_at rows known i n new free repeats (omega arith)

-- ---- the maps of the new rows

-- a key of the row's own batch and account finds what stands under them
own_key : (r : GrantRow) (q : Key) (rows : List GrantRow) → is_key_of r q ≡ true → find (λ (g : GrantRow). is_key_of g q) rows ≡ row_under r rows
own_key r q rows is =
    let same = and_parts (bytes_eq r.batch q.batch.now) (bytes_eq r.account q.account.now) is in
    ap (λ (b : List ℕ). find (λ (g : GrantRow). bytes_eq g.batch b && bytes_eq g.account q.account.now) rows) (sym (same_key r.batch q.batch.now same.0))
    ∙ ap (λ (a : List ℕ). find (λ (g : GrantRow). bytes_eq g.batch r.batch && bytes_eq g.account a) rows) (sym (same_key r.account q.account.now same.1))

pub no_pages : (o : Option GrantRow) → option_map (λ (g : GrantRow). g.pages) o ≡ None → o ≡ None
no_pages None e = refl
no_pages (Some g) e = absurd (cc)

-- the same pages under a key again
pub pages_again : (rows : List GrantRow) (r : GrantRow) (q : Key) → option_map (λ (g : GrantRow). g.pages) (row_under r rows) ≡ Some r.pages
    → cond (is_key_of r q) (Some r.pages) (option_map (λ (g : GrantRow). g.pages) (find (λ (g : GrantRow). is_key_of g q) rows)) ≡ option_map (λ (g : GrantRow). g.pages) (find (λ (g : GrantRow). is_key_of g q) rows)
pages_again rows r q there = elim (cases_Bool (is_key_of r q)) [
  | inl is ↦ rw (is, own_key r q rows is) (sym there)
  | inr apart ↦ rw apart refl
]
