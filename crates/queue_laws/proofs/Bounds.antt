-- How large the sums of an account are.
use Rattle.std.proofs.Common.{ℕ, ◌+◌, ◌-◌, ◌*◌, ◌^◌, ◌≤◌, ◌<◌, List, [], ◌∷◌, length, map, arith, Bool, true, false, cond}
use Rattle.std.specs.Prelude.{bytes_eq, sum_by}
use Rattle.std.specs.List.{AllByRecursion as Each}
use Rattle.std.proofs.lemmas.List.Sums.{sum_by-cons}
use Rattle.std.proofs.lemmas.Nat.{mul-le}
use Rattle.queue_types.specs.Job.{owed, is_live}
use Rattle.queue_core.specs.Limits.{IsSoundJob}
use Rattle.queue_core.specs.Sound.{IsSound, IsSoundEntry, reserved, printed}
use Rattle.queue_core.specs.World.{World, Entry, granted}
use Rattle.queue_types.specs.declared.job.Job.{Job}
use Rattle.queue_core.proofs.Fair.{rise_length}

-- ---- one job

-- a job has at most 100,000,000 pages
abbrev IsFew : (Job → ℕ) → Type 0
IsFew pages = (j : Job) → IsSoundJob j → pages j ≤ 100000000

part : (b : Bool) (n : ℕ) → n ≤ 100000000 → cond b n 0 ≤ 100000000
part true n h = h
part false n h = omega arith

asked_few : (impressions copies : ℕ) → impressions ≤ 100000 → copies ≤ 999 → impressions * copies ≤ 100000000
asked_few impressions copies h k = omega (arith, mul-le impressions copies 100000 999 h k)

rest_few : (live hold : Bool) (asked count : ℕ) → asked ≤ 100000000 → cond live (cond hold 0 (asked - count)) 0 ≤ 100000000
rest_few true true asked count h = omega arith
rest_few true false asked count h = omega arith
rest_few false hold asked count h = omega arith

owed_few : IsFew owed
owed_few j sound = rest_few (is_live j) j.hold (j.impressions * j.copies) j.count (asked_few j.impressions j.copies sound.impressions sound.copies.1)

count_few : IsFew (λ j. j.count)
count_few j sound = sound.count

-- ---- all jobs

sum_few : (a : List ℕ) (pages : Job → ℕ) → IsFew pages → (es : List Entry) → Each IsSoundEntry es → sum_by (λ (j : Job). cond (bytes_eq j.owner a) (pages j) 0) (map (λ e. e.row) es) ≤ 100000000 * length es
sum_few a pages few [] each = omega arith
sum_few a pages few (e ∷ es) each =
    let more = sum_few a pages few es each.1 in
    let here = part (bytes_eq e.row.owner a) (pages e.row) (few e.row each.0.row) in
    omega (arith, sum_by-cons (λ (j : Job). cond (bytes_eq j.owner a) (pages j) 0) e.row (map (λ e. e.row) es))

within : (n jobs next : ℕ) → n ≤ 100000000 * jobs → 1 + jobs ≤ next → next ≤ 2 ^ 31 → n < 2 ^ 58
within n jobs next most few last = omega arith

sum_below : (w : World) (a : List ℕ) (pages : Job → ℕ) → IsFew pages → IsSound w → sum_by (λ (j : Job). cond (bytes_eq j.owner a) (pages j) 0) (map (λ e. e.row) w.jobs) < 2 ^ 58
sum_below w a pages few sound = within _ (length w.jobs) w.next (sum_few a pages few w.jobs sound.entries) (rise_length 1 w.next w.jobs sound.numbers) sound.next

-- ---- the sums of an account

grants_below : (n : ℕ) → n ≤ 1000000000 → n < 2 ^ 58
grants_below n h = omega arith

pub granted_below : (w : World) (a : List ℕ) → IsSound w → granted a w < 2 ^ 58
granted_below w a sound = grants_below (granted a w) (sound.most a)

pub reserved_below : (w : World) (a : List ℕ) → IsSound w → reserved a w < 2 ^ 58
reserved_below w a sound = sum_below w a owed owed_few sound

pub printed_below : (w : World) (a : List ℕ) → IsSound w → printed a w < 2 ^ 58
printed_below w a sound = sum_below w a (λ j. j.count) count_few sound
