-- What is read of a sound queue is within its bounds.
use Rattle.std.proofs.Common.{◌≡◌, ◌||◌, ◌&&◌, bytes_eq, All, Bool, filter, inl, inr, ℕ, ℤ, pos, ◌+ℤ◌, ◌+◌, Option, None, Some, option_map, IsSomeAnd, ◌<◌, ◌≤◌, ◌^◌, ◌==◌, List, [], ◌∷◌, IfSome, length, sym, subst, arith}
use Rattle.std.specs.FinMap.{get}
use Rattle.std.specs.List.{AllByRecursion as Each}
use Rattle.std.proofs.lemmas.Bool.{cases_Bool, eqb-true}
use Rattle.std.proofs.lemmas.List.{length-map}
use Rattle.queue_types.specs.Settings.{AreSettings, SettingValues}
use Rattle.queue_types.specs.Event.{Call, ask, get_printer_attributes, grant}
use Rattle.queue_types.specs.declared.event.FreeRow.{FreeRow}
use Rattle.queue_types.specs.declared.event.GrantRow.{GrantRow}
use Rattle.queue_types.specs.declared.event.WhichJobs.{WhichJobs}
use Rattle.queue_types.specs.declared.job.Job.{Job}
use Rattle.queue_core.specs.Limits.{IsAmount, IsFair, IsGrant, IsKnown, IsSoundJob}
use Rattle.queue_core.specs.Sound.{IsKept, IsSound, Rise, printed, reserved}
use Rattle.queue_core.specs.World.{Entry, World, granted, has_expired, jobs_for, jobs_scene, known_grant, numbered, queue_counts, rows}
use Rattle.queue_core.specs.Visible.{is_among, visible}
use Rattle.queue_core.proofs.Fair.{fair_of}
use Rattle.queue_core.proofs.Ordered.{few_visible}
use Rattle.queue_tables.specs.Accounts.{pages_of}
use Rattle.queue_tables.specs.declared.account_pages.AccountPages.{AccountPages}
use Rattle.queue_tables.proofs.Formed.{sums_fit}
use Rattle.queue_types.specs.declared.event.KeptReport.{KeptReport}
use Rattle.queue_scenes.specs.Accounts.{FitAccount}
use Rattle.queue_scenes.specs.Reports.{IsFormedReport}
use Rattle.queue_scenes.proofs.Lists.{world_rising}
use Rattle.queue_scenes.proofs.Numbers.{AreRising}
use Rattle.queue_scenes.proofs.Picked.{none_numbered}

-- ---- numbers of jobs

risen : (first : ℕ) (es : List Entry) (next : ℕ) → Rise first es next → length es + first ≤ next
risen first [] next rise = omega (arith, rise)
risen first (e ∷ es) next rise = omega (arith, rise.0, risen (e.row.number + 1) es next rise.1)

pub jobs_are_few : (w : World) → IsSound w → length (rows w) < 2 ^ 31
jobs_are_few w sound = omega (arith, length-map w.jobs (λ (e : Entry). e.row), risen 1 w.jobs w.next sound.numbers, sound.next)

pub queued_fit : (w : World) → IsSound w → (queue_counts (rows w)).queued < 2 ^ 31
queued_fit w sound = (fair_of w 0 (ask [] get_printer_attributes) sound).queued

pub jobs_fit : (w : World) (caller : List ℕ) (call : Call) → IsSound w → length (jobs_for w.settings.operators caller call (rows w)) < 2 ^ 31
jobs_fit w caller call sound = (fair_of w 0 (ask caller call) sound).few

few_filtered : (p : Job → Bool) (js : List Job) → length (filter p js) ≤ length js
few_filtered p [] = omega arith
few_filtered p (j ∷ js) = elim (cases_Bool (p j)) [
  | inl passed ↦ rw passed (omega (arith, few_filtered p js))
  | inr failed ↦ rw failed (omega (arith, few_filtered p js))
]

pub visible_fit : (all : Bool) (name : List ℕ) (which : WhichJobs) (limit : Option ℕ) (w : World) → IsSound w → length (visible all name which limit (rows w)) < 2 ^ 31
visible_fit all name which limit w sound =
    let p : Job → Bool = λ j. (all || bytes_eq j.owner name) && is_among which j in
    omega (arith, few_visible limit which (filter p (rows w)), few_filtered p (rows w), jobs_are_few w sound)

pub expired_fit : (w : World) (keep now : ℕ) → IsSound w → length (filter (has_expired keep now) (rows w)) < 2 ^ 31
expired_fit w keep now sound = omega (arith, few_filtered (has_expired keep now) (rows w), jobs_are_few w sound)

one_numbered : (n : ℕ) (js : List Job) → AreRising js → length (numbered n js) ≤ 1
one_numbered n [] rise = omega arith
one_numbered n (j ∷ js) rise = elim (cases_Bool (j.number == n)) [
  | inl same ↦ rw (same, none_numbered n js (subst (λ m. Each (λ (x : Job). m < x.number) js) (eqb-true j.number n same) rise.0)) (omega arith)
  | inr apart ↦ rw apart (one_numbered n js rise.1)
]

pub number_is_one : (w : World) (n : ℕ) → IsSound w → length (numbered n (rows w)) ≤ 1
number_is_one w n sound = one_numbered n (rows w) (world_rising w sound)

-- ---- accounts

row_is_known : (w : World) (g : GrantRow) → IsSound w → IsKnown (known_grant w g)
row_is_known w g sound = (fair_of w 0 (grant (g ∷ [])) sound).known 0 (known_grant w g) (omega arith)

pub free_fits : (w : World) (a : List ℕ) → IsSound w → IfSome (get w.free a) IsAmount
free_fits w a sound = (row_is_known w (record { batch = []; account = a; pages = 0 }) sound).free

module _ (w : World) (a : List ℕ) (sound : IsSound w) where
  fits_at : (o : Option ℤ) (p : AccountPages) → IfSome o IsAmount → IfSome o (λ free. pos (granted a w) ≡ free +ℤ pos (reserved a w + printed a w)) → Some p ≡ option_map (pages_of w a) o → FitAccount p
  fits_at None p amount balance is = absurd cc
  fits_at (Some free) p amount balance is =
      let same : p ≡ pages_of w a free = cc in
      let sums = sums_fit a w sound in
      subst FitAccount (sym same) (granted a w, sound.most a, amount, omega (arith, sums.0, sums.1), balance)

  pub account_fits : (p : AccountPages) → Some p ≡ option_map (pages_of w a) (get w.free a) → FitAccount p
  account_fits p is = fits_at (get w.free a) p (free_fits w a sound) (sound.balances a) is

  pub found_fits : (found : Option AccountPages) → found ≡ option_map (pages_of w a) (get w.free a) → IsSomeAnd found (λ p. FitAccount p → ⊥) → ⊥
  found_fits None is misfits = misfits
  found_fits (Some p) is misfits = misfits (account_fits p is)

pub grant_fits : (w : World) (batch account : List ℕ) (n : ℕ) → IsSound w → get w.grants (batch, account) ≡ Some n → n < 2 ^ 32
grant_fits w batch account n sound there =
    let it : IsGrant batch account n = subst (λ o. IfSome o (IsGrant batch account)) there (sound.grants batch account) in
    omega (arith, it.3)

-- ---- the next number, and a kept report

pub next_fits : (w : World) → IsSound w → (1 ≤ w.next) × (w.next < 2 ^ 32)
next_fits w sound = ((fair_of w 0 (ask [] get_printer_attributes) sound).next, omega (arith, sound.next))

pub report_fits : (w : World) (job seq : ℕ) (k : KeptReport) → IsSound w → get w.reports (job, seq) ≡ Some k → IsFormedReport k
report_fits w job seq k sound there =
    let it : IsKept w job seq k = subst (λ o. IfSome o (IsKept w job seq)) there (sound.reports job seq) in
    record { count = omega (arith, it.count); total = it.total }

-- ---- a scene

-- one of jobs and accounts alone, which are within their limits
pub jobs_scene_fair : (settings : SettingValues) (jobs : List Job) (free : List FreeRow) → AreSettings settings → All IsSoundJob jobs → length jobs < 2 ^ 31 → All (λ (a : FreeRow). IsAmount a.free) free → IsFair (jobs_scene settings jobs free)
jobs_scene_fair settings jobs free limits sound few within = record {
  settings = limits;
  jobs = sound;
  few = few;
  free = within;
  next = omega arith;
  queued = omega arith;
  report = tt;
  known = λ k d low. absurd (omega (arith, low));
}
