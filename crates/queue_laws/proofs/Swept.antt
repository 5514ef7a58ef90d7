-- What a sweep makes of the queue: each job that has expired is replaced in its place.
use Rattle.std.proofs.Common.{◌≡◌, ℕ, pos, ◌+ℤ◌, ◌+◌, ◌<◌, List, [], ◌∷◌, map, refl, ap, sym, ◌∙◌, arith, Bool, true, false, cond, ◌||◌}
use Rattle.std.specs.Prelude.{Some, None, nat_eq, bytes_eq, filter, fold, option_map}
use Rattle.std.specs.List.{AllByRecursion as Each}
use Rattle.std.specs.FinMap.{get}
use Rattle.std.proofs.lemmas.List.Sums.{sum_by-cons}
use Rattle.queue_types.specs.Event.{expire}
use Rattle.queue_types.specs.Job.{owed}
use Rattle.queue_core.specs.World.{World, Entry, rows, with_row, has_expired, has_number}
use Rattle.queue_core.specs.Machine.{step, expired}
use Rattle.queue_core.specs.Order.{AreRising}
use Rattle.queue_core.specs.Sound.{IsSound, reserved_for}
use Rattle.queue_types.specs.declared.job.Job.{Job}
use Rattle.queue_core.proofs.Expired.{accounts_move}
use Rattle.queue_core.proofs.Keep.{ne_from_lt}
use Rattle.queue_core.proofs.Many.{rising}
use Rattle.queue_laws.specs.Own.{Own, own, own_jobs}
use Rattle.queue_laws.proofs.Base.{at, itself, rows_of}

-- those that are chosen become this, and the others stay
module _ (c : Job → Bool) (f : Job → Job) where
  abbrev pub becomes : Job → Job
  becomes j = cond (c j) (f j) j

  abbrev pub replaced : Entry → Entry
  replaced e = cond (c e.row) (record e { row = f e.row }) e

  pub row_replaced : (e : Entry) → (replaced e).row ≡ becomes e.row
  row_replaced e = elim (c e.row) as (λ b. (cond b (record e { row = f e.row }) e).row ≡ cond b (f e.row) e.row) [ true ↦ refl | false ↦ refl ]

-- ---- one after the other, each in its place

passed_by : (now : ℕ) (e : Entry) (es : List Entry) (n : ℕ) (js : List Job) → e.row.number ≡ n → Each (λ k. n < k.number) js → fold with_row (e ∷ es) (map (expired now) js) ≡ e ∷ fold with_row es (map (expired now) js)
passed_by now e es n [] same above = refl
passed_by now e es n (j ∷ js) same above =
    ap (λ b. fold with_row (cond b (record e { row = expired now j } ∷ es) (e ∷ with_row es (expired now j))) (map (expired now) js)) (ap (λ m. nat_eq m j.number) same ∙ ne_from_lt n j.number above.0)
    ∙ passed_by now e (with_row es (expired now j)) n js same above.1

chosen_above : (c : Job → Bool) (n : ℕ) (js : List Job) → Each (λ k. n < k.number) js → Each (λ k. n < k.number) (filter c js)
chosen_above c n [] above = tt
chosen_above c n (j ∷ js) above = elim (c j) as (λ b. Each (λ k. n < k.number) (cond b (j ∷ filter c js) (filter c js))) [ true ↦ (above.0, chosen_above c n js above.1) | false ↦ chosen_above c n js above.1 ]

in_place : (now : ℕ) (c : Job → Bool) (es : List Entry) → AreRising (rows_of es) → fold with_row es (map (expired now) (filter c (rows_of es))) ≡ map (replaced c (expired now)) es
in_place now c [] rise = refl
in_place now c (e ∷ es) rise =
    let x : Job = expired now e.row in
    let rest : List Job = filter c (rows_of es) in
    let above : Each (λ k. e.row.number < k.number) rest = chosen_above c e.row.number (rows_of es) rise.0 in
    elim (c e.row) as (λ b. fold with_row (e ∷ es) (map (expired now) (cond b (e.row ∷ rest) rest)) ≡ cond b (record e { row = x }) e ∷ map (replaced c (expired now)) es) [
      | true ↦
          ap (λ b. fold with_row (cond b (record e { row = x } ∷ es) (e ∷ with_row es x)) (map (expired now) rest)) (itself e.row.number)
          ∙ passed_by now (record e { row = x }) es e.row.number rest refl above
          ∙ ap (λ t. record e { row = x } ∷ t) (in_place now c es rise.1)
      | false ↦ passed_by now e es e.row.number rest refl above ∙ ap (λ t. e ∷ t) (in_place now c es rise.1)
    ]

-- ---- a number, an owner

module _ (now : ℕ) (c : Job → Bool) where
  abbrev turned : Job → Job
  turned = becomes c (expired now)

  number_stays : (j : Job) → (turned j).number ≡ j.number
  number_stays j = elim (c j) as (λ b. (cond b (expired now j) j).number ≡ j.number) [ true ↦ refl | false ↦ refl ]

  owner_stays : (j : Job) → (turned j).owner ≡ j.owner
  owner_stays j = elim (c j) as (λ b. (cond b (expired now j) j).owner ≡ j.owner) [ true ↦ refl | false ↦ refl ]

  -- the job of a number
  pub at_replaced : (n : ℕ) (es : List Entry) → at n (map (replaced c (expired now)) es) ≡ option_map turned (at n es)
  at_replaced n [] = refl
  at_replaced n (e ∷ es) =
      (λ i. cond (nat_eq (row_replaced c (expired now) e i).number n) (Some (row_replaced c (expired now) e i)) (at_replaced n es i))
      ∙ ap (λ m. cond (nat_eq m n) (Some (turned e.row)) (option_map turned (at n es))) (number_stays e.row)
      ∙ elim (nat_eq e.row.number n) as (λ t. cond t (Some (turned e.row)) (option_map turned (at n es)) ≡ option_map turned (cond t (Some e.row) (at n es))) [ true ↦ refl | false ↦ refl ]

  has_replaced : (n : ℕ) (es : List Entry) → has_number n (map (replaced c (expired now)) es) ≡ has_number n es
  has_replaced n [] = refl
  has_replaced n (e ∷ es) = λ i. nat_eq ((ap (λ (j : Job). j.number) (row_replaced c (expired now) e) ∙ number_stays e.row) i) n || has_replaced n es i

  -- one caller's own
  own_replaced : (u : List ℕ) (es : List Entry) → own_jobs u (map (replaced c (expired now)) es) ≡ map (replaced c (expired now)) (own_jobs u es)
  own_replaced u [] = refl
  own_replaced u (e ∷ es) =
      let x : Entry = replaced c (expired now) e in
      ap (λ o. cond (bytes_eq o u) (x ∷ own_jobs u (map (replaced c (expired now)) es)) (own_jobs u (map (replaced c (expired now)) es))) (ap (λ (j : Job). j.owner) (row_replaced c (expired now) e) ∙ owner_stays e.row)
      ∙ elim (bytes_eq e.row.owner u) as (λ t. cond t (x ∷ own_jobs u (map (replaced c (expired now)) es)) (own_jobs u (map (replaced c (expired now)) es)) ≡ map (replaced c (expired now)) (cond t (e ∷ own_jobs u es) (own_jobs u es))) [
        | true ↦ ap (λ t. x ∷ t) (own_replaced u es)
        | false ↦ own_replaced u es
      ]

-- what is set aside for them is set aside for those of the caller's own
one_more : (q : List ℕ) (j : Job) (js : List Job) → reserved_for q (j ∷ js) ≡ cond (bytes_eq j.owner q) (owed j) 0 + reserved_for q js
one_more q j js = sum_by-cons (λ (k : Job). cond (bytes_eq k.owner q) (owed k) 0) j js

reserved_own : (u : List ℕ) (c : Job → Bool) (es : List Entry) → reserved_for u (filter c (rows_of es)) ≡ reserved_for u (filter c (rows_of (own_jobs u es)))
reserved_own u c [] = refl
reserved_own u c (e ∷ es) =
    let all : List Job = filter c (rows_of es) in
    let mine : List Job = filter c (rows_of (own_jobs u es)) in
    let rest : reserved_for u all ≡ reserved_for u mine = reserved_own u c es in
    elim (bytes_eq e.row.owner u) as (λ t. bytes_eq e.row.owner u ≡ t → reserved_for u (cond (c e.row) (e.row ∷ all) all) ≡ reserved_for u (filter c (rows_of (cond t (e ∷ own_jobs u es) (own_jobs u es))))) [
      | true ↦ λ is. elim (c e.row) as (λ b. reserved_for u (cond b (e.row ∷ all) all) ≡ reserved_for u (cond b (e.row ∷ mine) mine)) [
        | true ↦ one_more u e.row all ∙ ap (λ n. cond (bytes_eq e.row.owner u) (owed e.row) 0 + n) rest ∙ sym (one_more u e.row mine)
        | false ↦ rest
      ]
      | false ↦ λ other. elim (c e.row) as (λ b. reserved_for u (cond b (e.row ∷ all) all) ≡ reserved_for u mine) [
        | true ↦
            let step : reserved_for u (e.row ∷ all) ≡ cond false (owed e.row) 0 + reserved_for u all = one_more u e.row all ∙ ap (λ t. cond t (owed e.row) 0 + reserved_for u all) other in
            omega arith
        | false ↦ rest
      ]
    ] refl

-- ---- the event

abbrev pub own_swept : List ℕ → ℕ → ℕ → Own → Own
own_swept u keep now o = record o {
  jobs = map (replaced (has_expired keep now) (expired now)) o.jobs;
  free = option_map (λ f. f +ℤ pos (reserved_for u (filter (has_expired keep now) (rows_of o.jobs)))) o.free;
}

module _ (w : World) (now : ℕ) where
  abbrev late : Job → Bool
  late = has_expired w.settings.keep now

  pub jobs_swept : IsSound w → (step w now expire).world.jobs ≡ map (replaced late (expired now)) w.jobs
  jobs_swept sound = in_place now late w.jobs (rising 1 w.next w.jobs sound.numbers)

  pub free_swept : (a : List ℕ) → get (step w now expire).world.free a ≡ option_map (λ f. f +ℤ pos (reserved_for a (filter late (rows w)))) (get w.free a)
  free_swept a = accounts_move w.free (filter late (rows w)) a

  pub own_after_sweep : (u : List ℕ) → IsSound w → own u (step w now expire).world ≡ own_swept u w.settings.keep now (own u w)
  own_after_sweep u sound =
      let jobs : own_jobs u (step w now expire).world.jobs ≡ map (replaced late (expired now)) (own_jobs u w.jobs) = ap (own_jobs u) (jobs_swept sound) ∙ own_replaced now late u w.jobs in
      let has : (n : ℕ) → has_number n (own_jobs u (step w now expire).world.jobs) ≡ has_number n (own_jobs u w.jobs) = λ n. ap (has_number n) jobs ∙ has_replaced now late n (own_jobs u w.jobs) in
      let free = free_swept u ∙ ap (λ n. option_map (λ f. f +ℤ pos n) (get w.free u)) (reserved_own u late w.jobs) in
      λ i. record { jobs = jobs i; free = free i; grants = w.grants; reports = λ n seq. cond (has n i) (get w.reports (n, seq)) None; next = w.next }
