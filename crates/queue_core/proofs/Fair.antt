-- The scene of each sound world is fair.
use Rattle.std.proofs.Common.{◌≡◌, ℕ, suc, ℤ, pos, ◌+ℤ◌, ◌+◌, ◌-◌, ◌*◌, ◌^◌, ◌≤◌, ◌<◌, List, [], ◌∷◌, ◌++◌, length, map, arith, subst, Bool, true, false, cond}
use Rattle.std.specs.Prelude.{Option, Some, None, All, IfSome, bytes_eq, filter, sum_by, ◌==◌, ◌&&◌, ◌||◌}
use Rattle.std.specs.List.{AllByRecursion as Each}
use Rattle.std.specs.FinMap.{get}
use Rattle.std.proofs.lemmas.Int.{ints}
use Rattle.std.proofs.lemmas.List.Sums.{sum_by-cons}
use Rattle.std.proofs.lemmas.Nat.{mul-le}
use Rattle.queue_types.specs.Job.{owed, is_live}
use Rattle.queue_types.specs.Event.{Event, Call, ask, tell, grant, expire, print_job, validate_job, create_job, send_document, cancel_job, cancel_my_jobs, hold_job, release_job, get_job_attributes, get_jobs, get_printer_attributes}
use Rattle.queue_core.specs.World.{World, Entry, rows, cut, found_row, owner_row, known_grant, numbered, jobs_for, has_expired, owners, rows_of_accounts, free_for, next_for, shows_all, counts_for, granted}
use Rattle.queue_core.specs.Limits.{IsFair, IsKnown, IsSoundJob, IsAmount}
use Rattle.queue_core.specs.Sound.{IsSound, IsSoundEntry, IsKept, Rise, reserved, printed}
use Rattle.queue_types.specs.declared.event.FreeRow.{FreeRow}
use Rattle.queue_types.specs.declared.event.GrantRow.{GrantRow}
use Rattle.queue_types.specs.declared.event.KeptReport.{KeptReport}
use Rattle.queue_types.specs.declared.job.Job.{Job}
use Rattle.queue_core.specs.Visible.{is_among}
use Rattle.queue_core.proofs.Enter.{first_below}
use Rattle.queue_core.proofs.Ordered.{all_of, each-visible, few_visible}

each_named : (p : Job → Bool) (es : List Entry) → Each IsSoundEntry es → Each IsSoundJob (filter p (map (λ e. e.row) es))
each_named p [] each = tt
each_named p (e ∷ es) each = elim (p e.row) as (λ b. Each IsSoundJob (cond b (e.row ∷ filter p (map (λ e. e.row) es)) (filter p (map (λ e. e.row) es)))) [
  | true ↦ (each.0.row, each_named p es each.1)
  | false ↦ each_named p es each.1
]

named_few : (p : Job → Bool) (es : List Entry) → length (filter p (map (λ e. e.row) es)) ≤ length es
named_few p [] = omega arith
named_few p (e ∷ es) = let more = named_few p es in elim (p e.row) as (λ b. length (cond b (e.row ∷ filter p (map (λ e. e.row) es)) (filter p (map (λ e. e.row) es))) ≤ suc (length es)) [
  | true ↦ omega arith
  | false ↦ omega arith
]

-- no more jobs than numbers
pub rise_length : (first next : ℕ) (es : List Entry) → Rise first es next → first + length es ≤ next
rise_length first next [] rise = omega arith
rise_length first next (e ∷ es) rise = let more = rise_length (e.row.number + 1) next es rise.1 in omega arith

-- a sum of parts that are each at most 2^28
sum_bound : (f : Job → ℕ) (es : List Entry) → ((e : Entry) → IsSoundEntry e → f e.row ≤ 2 ^ 28) → Each IsSoundEntry es → sum_by f (map (λ e. e.row) es) ≤ 2 ^ 28 * length es
sum_bound f [] each all = omega arith
sum_bound f (e ∷ es) each all =
    let more = sum_bound f es each all.1 in
    let here = each e all.0 in
    omega (arith, sum_by-cons f e.row (map (λ e. e.row) es))

part : (b : Bool) (n : ℕ) → n ≤ 2 ^ 28 → cond b n 0 ≤ 2 ^ 28
part true n h = h
part false n h = omega arith

product : (a b : ℕ) → a ≤ 100000 → b ≤ 999 → a * b ≤ 2 ^ 28
product a b h k = omega (arith, mul-le a b 100000 999 h k)

owed_least : (live hold : Bool) (n c : ℕ) → n ≤ 2 ^ 28 → cond live (cond hold 0 (n - c)) 0 ≤ 2 ^ 28
owed_least true true n c h = omega arith
owed_least true false n c h = omega arith
owed_least false hold n c h = omega arith

owed_bound : (j : Job) → IsSoundJob j → owed j ≤ 2 ^ 28
owed_bound j s = owed_least (is_live j) j.hold (j.impressions * j.copies) j.count (product j.impressions j.copies s.impressions s.copies.1)

at_most_one : (b : Bool) → cond b 1 0 ≤ 1
at_most_one true = omega arith
at_most_one false = omega arith

found : (a : List ℕ) (o : Option ℤ) → IfSome o IsAmount → Each (λ (r : FreeRow). IsAmount r.free) (found_row a o)
found a None h = tt
found a (Some f) h = (h, tt)

found_more : (a : List ℕ) (o : Option ℤ) (more : List FreeRow) → IfSome o IsAmount → Each (λ (r : FreeRow). IsAmount r.free) more → Each (λ (r : FreeRow). IsAmount r.free) (found_row a o ++ more)
found_more a None more h each = each
found_more a (Some f) more h each = (h, each)

amount : (o : Option ℤ) (g r p : ℕ) → g ≤ 1000000000 → r ≤ 2 ^ 59 → p ≤ 2 ^ 59 → IfSome o (λ f. pos g ≡ f +ℤ pos (r + p)) → IfSome o IsAmount
amount None g r p hg hr hp is = tt
amount (Some f) g r p hg hr hp is = (omega (arith, ints), omega (arith, ints))

amounts_of : (w : World) → IsSound w → (a : List ℕ) → IfSome (get w.free a) IsAmount
amounts_of w sound a =
    let few = rise_length 1 w.next w.jobs sound.numbers in
    let next = sound.next in
    let reserve = sum_bound (λ j. cond (bytes_eq j.owner a) (owed j) 0) w.jobs (λ e s. part (bytes_eq e.row.owner a) (owed e.row) (owed_bound e.row s.row)) sound.entries in
    let print = sum_bound (λ j. cond (bytes_eq j.owner a) j.count 0) w.jobs (λ e s. let c = s.row.count in part (bytes_eq e.row.owner a) e.row.count (omega arith)) sound.entries in
    amount (get w.free a) (granted a w) (reserved a w) (printed a w) (sound.most a) (omega arith) (omega arith) (sound.balances a)

live_few : (es : List Entry) → sum_by (λ (j : Job). cond (is_live j) 1 0) (map (λ e. e.row) es) ≤ length es
live_few [] = omega arith
live_few (e ∷ es) =
    let more = live_few es in
    let here = at_most_one (is_live e.row) in
    omega (arith, sum_by-cons (λ (j : Job). cond (is_live j) 1 0) e.row (map (λ e. e.row) es))

queued_few : (w : World) (call : Call) → length w.jobs < 2 ^ 31 → (counts_for call (rows w)).queued < 2 ^ 31
queued_few w get_printer_attributes few = let all = live_few w.jobs in omega arith
queued_few w _ few = omega arith

each_numbered : (n : ℕ) (w : World) → IsSound w → Each IsSoundJob (numbered n (rows w))
each_numbered n w sound = each_named (λ j. j.number == n) w.jobs sound.entries

few_numbered : (n : ℕ) (w : World) → length (numbered n (rows w)) ≤ length w.jobs
few_numbered n w = named_few (λ j. j.number == n) w.jobs

jobs_sound : (w : World) (caller : List ℕ) (call : Call) → IsSound w → Each IsSoundJob (jobs_for w.settings.operators caller call (rows w))
jobs_sound w caller (send_document n format payload last) sound = each_numbered n w sound
jobs_sound w caller (cancel_my_jobs None) sound = each_named _ w.jobs sound.entries
jobs_sound w caller (cancel_my_jobs (Some numbers)) sound = each_named _ w.jobs sound.entries
jobs_sound w caller (hold_job n) sound = each_numbered n w sound
jobs_sound w caller (release_job n) sound = each_numbered n w sound
jobs_sound w caller (cancel_job n) sound = each_numbered n w sound
jobs_sound w caller (get_job_attributes n) sound = each_numbered n w sound
jobs_sound w caller (get_jobs which limit mine) sound = each-visible IsSoundJob limit which _ (each_named _ w.jobs sound.entries)
jobs_sound w caller _ sound = tt

jobs_few : (w : World) (caller : List ℕ) (call : Call) → length (jobs_for w.settings.operators caller call (rows w)) ≤ length w.jobs
jobs_few w caller (send_document n format payload last) = few_numbered n w
jobs_few w caller (cancel_my_jobs None) = named_few _ w.jobs
jobs_few w caller (cancel_my_jobs (Some numbers)) = named_few _ w.jobs
jobs_few w caller (hold_job n) = few_numbered n w
jobs_few w caller (release_job n) = few_numbered n w
jobs_few w caller (cancel_job n) = few_numbered n w
jobs_few w caller (get_job_attributes n) = few_numbered n w
jobs_few w caller (get_jobs which limit mine) =
    let p : Job → Bool = λ j. (shows_all w.settings.operators caller mine || bytes_eq j.owner caller) && is_among which j in
    let shown = few_visible limit which (filter p (rows w)) in
    let own = named_few p w.jobs in
    omega arith
jobs_few w caller _ = omega arith

owner_amounts : (w : World) → IsSound w → (js : List Job) → Each (λ (r : FreeRow). IsAmount r.free) (owner_row w.free js)
owner_amounts w sound [] = tt
owner_amounts w sound (j ∷ js) = found j.owner (get w.free j.owner) (amounts_of w sound j.owner)

call_amounts : (w : World) → IsSound w → (caller : List ℕ) (call : Call) → Each (λ (r : FreeRow). IsAmount r.free) (free_for caller call (jobs_for w.settings.operators caller call (rows w)) w.free)
call_amounts w sound caller (cancel_job n) = owner_amounts w sound (numbered n (rows w))
call_amounts w sound caller (cancel_my_jobs numbers) = found caller (get w.free caller) (amounts_of w sound caller)
call_amounts w sound caller (hold_job n) = found caller (get w.free caller) (amounts_of w sound caller)
call_amounts w sound caller (release_job n) = found caller (get w.free caller) (amounts_of w sound caller)
call_amounts w sound caller _ = tt

next_least : (call : Call) (next : ℕ) → 1 ≤ next → 1 ≤ next_for call next
next_least (print_job new format payload) next least = least
next_least (validate_job new) next least = least
next_least (create_job new) next least = least
next_least get_printer_attributes next least = least
next_least _ next least = omega arith

kept_within : (w : World) (n s : ℕ) (o : Option KeptReport) → IfSome o (IsKept w n s) → IfSome o (λ k. k.total ≤ 100000000)
kept_within w n s None kept = tt
kept_within w n s (Some k) kept = kept.total

each_known : (w : World) → IsSound w → (rows : List GrantRow) → Each IsKnown (map (known_grant w) rows)
each_known w sound [] = tt
each_known w sound (g ∷ rows) = (record { granted = sound.most g.account; free = amounts_of w sound g.account }, each_known w sound rows)

accounts_within : (w : World) → IsSound w → (names : List (List ℕ)) → Each (λ (r : FreeRow). IsAmount r.free) (rows_of_accounts w.free names)
accounts_within w sound [] = tt
accounts_within w sound (a ∷ names) = found_more a (get w.free a) (rows_of_accounts w.free names) (amounts_of w sound a) (accounts_within w sound names)

pub fair_of : (w : World) (now : ℕ) (e : Event) → IsSound w → IsFair (cut w now e)
fair_of w now (ask caller call) sound =
    let numbers = rise_length 1 w.next w.jobs sound.numbers in
    let next = sound.next in
    let named = jobs_few w caller call in
    record {
      settings = sound.settings;
      jobs = all_of IsSoundJob _ (jobs_sound w caller call sound);
      few = omega arith;
      free = all_of (λ (r : FreeRow). IsAmount r.free) _ (call_amounts w sound caller call);
      next = next_least call w.next (first_below 1 w.next w.jobs sound.numbers);
      queued = queued_few w call (omega arith);
      report = tt;
      known = all_of IsKnown [] tt;
    }
fair_of w now (tell r) sound =
    let numbers = rise_length 1 w.next w.jobs sound.numbers in
    let next = sound.next in
    let named = few_numbered r.job w in
    record {
      settings = sound.settings;
      jobs = all_of IsSoundJob _ (each_numbered r.job w sound);
      few = omega arith;
      free = all_of (λ (r : FreeRow). IsAmount r.free) _ (owner_amounts w sound (numbered r.job (rows w)));
      next = omega arith;
      queued = omega arith;
      report = kept_within w r.job r.seq (get w.reports (r.job, r.seq)) (sound.reports r.job r.seq);
      known = all_of IsKnown [] tt;
    }
fair_of w now (grant new) sound = record {
  settings = sound.settings;
  jobs = all_of IsSoundJob [] tt;
  few = omega arith;
  free = all_of (λ (r : FreeRow). IsAmount r.free) [] tt;
  next = first_below 1 w.next w.jobs sound.numbers;
  queued = omega arith;
  report = tt;
  known = all_of IsKnown _ (each_known w sound new);
}
fair_of w now expire sound =
    let numbers = rise_length 1 w.next w.jobs sound.numbers in
    let next = sound.next in
    let named = named_few (has_expired w.settings.keep now) w.jobs in
    record {
      settings = sound.settings;
      jobs = all_of IsSoundJob _ (each_named (has_expired w.settings.keep now) w.jobs sound.entries);
      few = omega arith;
      free = all_of (λ (r : FreeRow). IsAmount r.free) _ (accounts_within w sound (owners (filter (has_expired w.settings.keep now) (rows w))));
      next = omega arith;
      queued = omega arith;
      report = tt;
      known = all_of IsKnown [] tt;
    }

-- the first job that an event needs is within its limits
pub first_sound : (w : World) (now : ℕ) (e : Event) → IsSound w → (j : Job) (rest : List Job) → (cut w now e).jobs ≡ j ∷ rest → IsSoundJob j
first_sound w now e sound j rest is = subst (All IsSoundJob) is (fair_of w now e sound).jobs 0 j (omega arith)
