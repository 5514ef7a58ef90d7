-- What a put row makes of a world's jobs.
use Rattle.std.proofs.Common.{◌≡◌, inl, inr, ℕ, ◌+◌, ◌*◌, ◌≤◌, ◌<◌, List, [], ◌∷◌, ◌++◌, map, filter, length, fold, false, ◌==◌, Option, Some, None, refl, sym, ap, subst, ◌∙◌, arith, sum_by}
use Rattle.std.specs.List.{AllByRecursion as Each}
use Rattle.std.specs.Option.{option_map_or}
use Rattle.std.proofs.lemmas.Bool.{cases_Bool, eqb-true, ne_eqb, eqb-false, or_parts}
use Rattle.std.proofs.lemmas.List.Sums.{sum_by-cons}
use Rattle.sqlite.specs.Order.{Row}
use Rattle.queue_types.specs.declared.job.Job.{Job}
use Rattle.queue_core.specs.World.{World, Entry, with_row, job_at, has_number}
use Rattle.queue_core.specs.Balance.{AreAmounts}
use Rattle.queue_core.specs.Sound.{Rise, IsSoundEntry, IsSound}
use Rattle.queue_tables.specs.Kept.{replaced}
use Rattle.queue_tables.specs.Values.{job_values}
use Rattle.queue_tables.specs.Steps.{is_numbered, AreDistinct, IsSummable}
use Rattle.queue_tables.proofs.Permuting.{replaced_none}
use Rattle.queue_tables.proofs.Numbers.{numbered_job}

abbrev pub job_rows : List Entry → List Row
job_rows es = map (λ (e : Entry). job_values e.row) es

abbrev pub rows_in : List Entry → List Job
rows_in es = map (λ (e : Entry). e.row) es

differ : (a b : ℕ) → (a == b) ≡ false → (b == a) ≡ false
differ a b e = ne_eqb b a (λ same. eqb-false a b e (sym same))

-- ---- numbers

pub number_above : (n first : ℕ) (es : List Entry) (next : ℕ) → n < first → Rise first es next → has_number n es ≡ false
number_above n first [] next low rise = refl
number_above n first (e ∷ es) next low rise =
    let other : (e.row.number == n) ≡ false = ne_eqb e.row.number n (λ same. omega (arith, low, rise.0, same)) in
    rw (other, number_above n (e.row.number + 1) es next (omega (arith, low, rise.0)) rise.1) refl

pub distinct_of : (first : ℕ) (es : List Entry) (next : ℕ) → Rise first es next → AreDistinct es
distinct_of first [] next rise = tt
distinct_of first (e ∷ es) next rise = (number_above e.row.number (e.row.number + 1) es next (omega arith) rise.1, distinct_of (e.row.number + 1) es next rise.1)

pub length_of : (first : ℕ) (es : List Entry) (next : ℕ) → Rise first es next → first + length es ≤ next
length_of first [] next rise = omega (arith, rise)
length_of first (e ∷ es) next rise = let more = length_of (e.row.number + 1) es next rise.1 in omega (arith, more, rise.0)

number-with_row : (n : ℕ) (j : Job) (es : List Entry) → (j.number == n) ≡ false → has_number n es ≡ false → has_number n (with_row es j) ≡ false
number-with_row n j [] other none = rw other refl
number-with_row n j (e ∷ es) other none =
    let parts = or_parts (e.row.number == n) (has_number n es) none in
    elim (cases_Bool (e.row.number == j.number)) [
      | inl same ↦ rw (same, other, parts.1) refl
      | inr apart ↦ rw (apart, parts.0, number-with_row n j es other parts.1) refl
    ]

pub distinct-with_row : (j : Job) (es : List Entry) → AreDistinct es → AreDistinct (with_row es j)
distinct-with_row j [] d = (refl, tt)
distinct-with_row j (e ∷ es) d = elim (cases_Bool (e.row.number == j.number)) [
  | inl same ↦ rw same (subst (λ n. has_number n es ≡ false) (eqb-true e.row.number j.number same) d.0, d.1)
  | inr apart ↦ rw apart (number-with_row e.row.number j es (differ e.row.number j.number apart) d.0, distinct-with_row j es d.1)
]

pub length-with_row : (j : Job) (es : List Entry) → length es ≤ length (with_row es j)
length-with_row j [] = omega arith
length-with_row j (e ∷ es) = elim (cases_Bool (e.row.number == j.number)) [
  | inl same ↦ rw same (omega arith)
  | inr apart ↦ let more = length-with_row j es in rw apart (omega (arith, more))
]

pub length-fold : (js : List Job) (es : List Entry) → length es ≤ length (fold with_row es js)
length-fold [] es = omega arith
length-fold (j ∷ js) es = let more = length-fold js (with_row es j) in let here = length-with_row j es in omega (arith, more, here)

-- ---- the row that is there

none_of : (n : ℕ) (es : List Entry) → has_number n es ≡ false → filter (is_numbered n) (job_rows es) ≡ []
none_of n [] none = refl
none_of n (e ∷ es) none =
    let parts = or_parts (e.row.number == n) (has_number n es) none in
    rw (numbered_job n e.row ∙ parts.0) (none_of n es parts.1)

abbrev pub found_rows : Option Job → List Row
found_rows None = []
found_rows (Some j) = job_values j ∷ []

-- WHERE number = ?1 lets the job of that number through, where it is there
pub row_at : (n : ℕ) (es : List Entry) → AreDistinct es → filter (is_numbered n) (job_rows es) ≡ found_rows (job_at n (rows_in es))
row_at n [] d = refl
row_at n (e ∷ es) d = elim (cases_Bool (e.row.number == n)) [
  | inl same ↦ rw (numbered_job n e.row ∙ same, same, none_of n es (subst (λ m. has_number m es ≡ false) (eqb-true e.row.number n same) d.0)) refl
  | inr apart ↦ rw (numbered_job n e.row ∙ apart, apart) (row_at n es d.1)
]

-- a job that is there is put in its place
pub put_in_place : (j old : Job) (es : List Entry) → AreDistinct es → job_at j.number (rows_in es) ≡ Some old → job_rows (with_row es j) ≡ replaced (is_numbered j.number) (λ v. job_values j) (job_rows es)
put_in_place j old [] d there = absurd cc
put_in_place j old (e ∷ es) d there = elim (cases_Bool (e.row.number == j.number)) [
  | inl same ↦
      let rest = replaced_none (is_numbered j.number) (λ v. job_values j) (job_rows es) (none_of j.number es (subst (λ m. has_number m es ≡ false) (eqb-true e.row.number j.number same) d.0)) in
      rw (same, numbered_job j.number e.row ∙ same, rest) refl
  | inr apart ↦ rw (apart, numbered_job j.number e.row ∙ apart) (ap (λ (rs : List Row). job_values e.row ∷ rs) (put_in_place j old es d.1 (rw apart at there)))
]

pub not_there : (n : ℕ) (es : List Entry) → job_at n (rows_in es) ≡ None → has_number n es ≡ false
not_there n [] none = refl
not_there n (e ∷ es) none = elim (cases_Bool (e.row.number == n)) [
  | inl same ↦ absurd (let e : Some e.row ≡ None = rw same at none in cc)
  | inr apart ↦ rw apart (not_there n es (rw apart at none))
]

-- a job that is not there stands last
pub put_new : (j : Job) (es : List Entry) → has_number j.number es ≡ false → job_rows (with_row es j) ≡ job_rows es ++ job_values j ∷ []
put_new j [] none = refl
put_new j (e ∷ es) none =
    let parts = or_parts (e.row.number == j.number) (has_number j.number es) none in
    rw (parts.0) (ap (λ (rs : List Row). job_values e.row ∷ rs) (put_new j es parts.1))

-- ---- sums

-- a sum over the rows loses the old row's part and gains the new one's
pub sum_put : (f : Job → ℕ) (j : Job) (es : List Entry) → sum_by f (rows_in (with_row es j)) + option_map_or f (job_at j.number (rows_in es)) 0 ≡ sum_by f (rows_in es) + f j
sum_put f j [] = omega arith
sum_put f j (e ∷ es) = elim (cases_Bool (e.row.number == j.number)) [
  | inl same ↦ rw same (let a = sum_by-cons f j (rows_in es) in let b = sum_by-cons f e.row (rows_in es) in omega (arith, a, b))
  | inr apart ↦ rw apart (let a = sum_by-cons f e.row (rows_in (with_row es j)) in let b = sum_by-cons f e.row (rows_in es) in let more = sum_put f j es in omega (arith, a, b, more))
]

pub sum_bound : (f : Job → ℕ) → ((j : Job) → AreAmounts j → f j ≤ 100000000) → (es : List Entry) → Each (λ e. AreAmounts e.row) es → sum_by f (rows_in es) ≤ length es * 100000000
sum_bound f small [] all = omega arith
sum_bound f small (e ∷ es) all =
    let a = sum_by-cons f e.row (rows_in es) in let here = small e.row all.0 in let more = sum_bound f small es all.1 in omega (arith, a, here, more)

-- what holds of each row and of the row that is put holds of each row then
pub each-with_row : (P : Job → Type 0) (j : Job) (es : List Entry) → P j → Each (λ e. P e.row) es → Each (λ e. P e.row) (with_row es j)
each-with_row P j [] it all = (it, tt)
each-with_row P j (e ∷ es) it all = elim (cases_Bool (e.row.number == j.number)) [
  | inl same ↦ rw same (it, all.1)
  | inr apart ↦ rw apart (all.0, each-with_row P j es it all.1)
]

pub each-fold : (P : Job → Type 0) (js : List Job) (es : List Entry) → Each P js → Each (λ e. P e.row) es → Each (λ e. P e.row) (fold with_row es js)
each-fold P [] es those all = all
each-fold P (j ∷ js) es those all = each-fold P js (with_row es j) those.1 (each-with_row P j es those.0 all)

pub distinct-fold : (js : List Job) (es : List Entry) → AreDistinct es → AreDistinct (fold with_row es js)
distinct-fold [] es d = d
distinct-fold (j ∷ js) es d = distinct-fold js (with_row es j) (distinct-with_row j es d)

amounts_of : (es : List Entry) → Each IsSoundEntry es → Each (λ e. AreAmounts e.row) es
amounts_of [] all = tt
amounts_of (e ∷ es) all = (record { impressions = all.0.row.impressions; copies = all.0.row.copies.1; count = all.0.row.count }, amounts_of es all.1)

pub sound_summable : (w : World) → IsSound w → IsSummable w.jobs
sound_summable w s = record { distinct = distinct_of 1 w.jobs w.next s.numbers; amounts = amounts_of w.jobs s.entries; few = (let a = length_of 1 w.jobs w.next s.numbers in let b = s.next in omega (arith, a, b)) }
