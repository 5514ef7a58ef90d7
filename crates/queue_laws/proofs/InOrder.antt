-- What Get-Jobs shows, job by job.
use Rattle.std.proofs.Common.{◌≡◌, ◌⊎◌, ℕ, zero, suc, ◌≤◌, ◌+◌, List, [], ◌∷◌, refl, ap, sym, ◌∙◌, subst, arith, inl, inr, Bool, true, false, cond}
use Rattle.std.specs.Prelude.{Option, Some, None, bytes_eq, filter, take, count_by, not, nat_eq, nat_le, nat_lt, ◌&&◌, ◌||◌}
use Rattle.std.specs.List.{AllByRecursion as Each}
use Rattle.std.proofs.lemmas.Bool.Decides.{nat_tests}
use Rattle.std.proofs.lemmas.List.Sums.{sum_by-cons}
use Rattle.std.proofs.lemmas.Bool.{and_parts}
use Rattle.std.proofs.Math.Bool.{and-false}
use Rattle.queue_types.specs.Event.{ask, get_jobs}
use Rattle.queue_types.specs.Job.{is_live_in, state_in}
use Rattle.queue_core.specs.Machine.{step}
use Rattle.queue_core.specs.Order.{IsLive, AreNewestFirst, AreByRank, AreRising, is_before}
use Rattle.queue_core.specs.Sound.{IsSound}
use Rattle.queue_core.specs.Visible.{in_order, is_among, is_newer, within_limit}
use Rattle.queue_types.specs.Operators.{is_operator}
use Rattle.queue_core.specs.World.{World, rows, shows_all}
use Rattle.queue_types.specs.declared.event.Reply.TheVariants.{Jobs}
use Rattle.queue_types.specs.declared.event.WhichJobs.{WhichJobs}
use Rattle.queue_types.specs.declared.event.WhichJobs.TheVariants.{NotCompleted, Completed as CompletedJobs}
use Rattle.queue_types.specs.declared.job.Job.{Job}
use Rattle.queue_types.specs.declared.job.Phase.{Phase}
use Rattle.queue_types.specs.declared.job.Phase.TheVariants.{Waiting}
use Rattle.queue_laws.specs.Jobs.{is_owned_by, is_of_kind, own_of_kind, up_to}
use Rattle.queue_laws.specs.Operating.{all_of_kind}
use Rattle.queue_laws.specs.Turn.{EndInTurn, IsNoNewer, ended_at}
use Rattle.queue_laws.proofs.Base.{each_map, passed}
use Rattle.queue_laws.proofs.Standing.{chosen_rise}

-- ---- kinds are states

live_is : (p : Phase) (hold incoming : Bool) → is_live_in p ≡ (nat_le 3 (state_in p hold incoming) && nat_le (state_in p hold incoming) 6)
live_is Waiting true incoming = refl
live_is Waiting false true = refl
live_is Waiting false false = refl
live_is _ hold incoming = refl

ended_is : (p : Phase) (hold incoming : Bool) → not (is_live_in p) ≡ (nat_le 7 (state_in p hold incoming) && nat_le (state_in p hold incoming) 9)
ended_is Waiting true incoming = refl
ended_is Waiting false true = refl
ended_is Waiting false false = refl
ended_is _ hold incoming = refl

pub kind_is : (which : WhichJobs) (j : Job) → is_among which j ≡ is_of_kind which j
kind_is NotCompleted j = live_is j.phase j.hold j.incoming
kind_is CompletedJobs j = ended_is j.phase j.hold j.incoming

-- ---- counts

pub count_filter : (p q : Job → Bool) (js : List Job) → count_by p (filter q js) ≡ count_by (λ j. q j && p j) js
count_filter p q [] = refl
count_filter p q (j ∷ js) =
    let more : count_by p (filter q js) ≡ count_by (λ j. q j && p j) js = count_filter p q js in
    elim (q j) as (λ b. count_by p (cond b (j ∷ filter q js) (filter q js)) ≡ cond (b && p j) 1 0 + count_by (λ j. q j && p j) js) [
      | true ↦ sum_by-cons (λ j. cond (p j) 1 0) j (filter q js) ∙ ap (λ n. cond (p j) 1 0 + n) more
      | false ↦ omega arith
    ]
    ∙ sym (sum_by-cons (λ j. cond (q j && p j) 1 0) j js)

-- ---- orders

each_take : (P : Job → Type 0) (n : ℕ) (js : List Job) → Each P js → Each P (take n js)
each_take P zero js each = tt
each_take P (suc n) [] each = tt
each_take P (suc n) (j ∷ js) each = (each.0, each_take P n js each.1)

newest_take : (n : ℕ) (js : List Job) → AreNewestFirst js → AreNewestFirst (take n js)
newest_take zero js newest = tt
newest_take (suc n) [] newest = tt
newest_take (suc n) (j ∷ js) newest = (each_take (λ k. is_newer k j ≡ false) n js newest.0, newest_take n js newest.1)

rank_take : (n : ℕ) (js : List Job) → AreByRank js → AreByRank (take n js)
rank_take zero js ranked = tt
rank_take (suc n) [] ranked = tt
rank_take (suc n) (j ∷ js) ranked = (each_take (λ k. is_before j k ≡ true) n js ranked.0, rank_take n js ranked.1)

newest_within : (limit : Option ℕ) (js : List Job) → AreNewestFirst js → AreNewestFirst (within_limit limit js)
newest_within None js newest = newest
newest_within (Some n) js newest = newest_take n js newest

rank_within : (limit : Option ℕ) (js : List Job) → AreByRank js → AreByRank (within_limit limit js)
rank_within None js ranked = ranked
rank_within (Some n) js ranked = rank_take n js ranked

-- a job that ended at the moment x with the number m is not newer than one at y with n
no_newer : (x m y n : ℕ) → (nat_lt y x || (nat_eq x y && nat_lt n m)) ≡ false → (x ≤ y) × (x ≡ y → m ≤ n)
no_newer x m y n e =
    let at_most : x ≤ y = grind (arith, nat_tests) in
    (at_most, λ same. grind (arith, nat_tests))

in_turn : (js : List Job) → AreNewestFirst js → EndInTurn js
in_turn [] newest = tt
in_turn (j ∷ js) newest = (each_map (λ k. is_newer k j ≡ false) (λ k. IsNoNewer k j) js (λ k e. no_newer (ended_at k) k.number (ended_at j) j.number e) newest.0, in_turn js newest.1)

-- ---- the reply

shown_same : (js ks : List Job) → Jobs js ≡ Jobs ks → js ≡ ks
shown_same js ks e = cc

-- the caller's jobs of that kind, or those of all
abbrev pub chosen : Bool → World → List ℕ → WhichJobs → List Job
chosen all w caller which = filter (λ j. (all || bytes_eq j.owner caller) && is_among which j) (rows w)

all_live : (all : Bool) (w : World) (caller : List ℕ) → Each IsLive (chosen all w caller NotCompleted)
all_live all w caller =
    each_map (λ j. ((all || bytes_eq j.owner caller) && is_among NotCompleted j) ≡ true) IsLive (chosen all w caller NotCompleted)
    (λ j is. (and_parts (all || bytes_eq j.owner caller) (is_among NotCompleted j) is).1)
    (passed (λ (j : Job). (all || bytes_eq j.owner caller) && is_among NotCompleted j) (rows w))

abbrev pub CompletedAll : Type 0
CompletedAll = (p : Job → Bool) (js : List Job) → count_by p (in_order CompletedJobs js) ≡ count_by p js

abbrev pub LiveAll : Type 0
LiveAll = (p : Job → Bool) (js : List Job) → Each IsLive js → count_by p (in_order NotCompleted js) ≡ count_by p js

count_ordered : CompletedAll → LiveAll → (all : Bool) (w : World) (caller : List ℕ) (which : WhichJobs) (p : Job → Bool) → count_by p (in_order which (chosen all w caller which)) ≡ count_by p (chosen all w caller which)
count_ordered completed live all w caller NotCompleted p = live p (chosen all w caller NotCompleted) (all_live all w caller)
count_ordered completed live all w caller CompletedJobs p = completed p (chosen all w caller CompletedJobs)

-- ---- whose jobs are shown

abbrev shows : World → List ℕ → Bool → Bool
shows w caller mine = shows_all w.settings.operators caller mine

pub shows_own : (w : World) (caller : List ℕ) (mine : Bool) → (is_operator w.settings.operators caller ≡ false) ⊎ (mine ≡ true) → shows w caller mine ≡ false
shows_own w caller mine (inl plain) = ap (λ b. b && not mine) plain
shows_own w caller mine (inr asked) = ap (λ b. is_operator w.settings.operators caller && not b) asked ∙ and-false (is_operator w.settings.operators caller)

pub shows_any : (w : World) (caller : List ℕ) → is_operator w.settings.operators caller ≡ true → shows w caller false ≡ true
shows_any w caller operator = ap (λ b. b && true) operator

limited : (limit : Option ℕ) (js : List Job) → within_limit limit js ≡ up_to limit js
limited None js = refl
limited (Some n) js = refl

-- the step of Get-Jobs
shown_step : (w : World) (now : ℕ) (caller : List ℕ) (which : WhichJobs) (limit : Option ℕ) (mine all : Bool) → shows w caller mine ≡ all
    → step w now (ask caller (get_jobs which limit mine)) ≡ record { world = w; reply = Jobs (up_to limit (in_order which (filter (λ j. (all || bytes_eq j.owner caller) && is_of_kind which j) (rows w)))) }
shown_step w now caller which limit mine all is =
    (λ i. record { world = w; reply = Jobs (within_limit limit (in_order which (filter (λ j. (is i || bytes_eq j.owner caller) && kind_is which j i) (rows w)))) })
    ∙ ap (λ js. record { world = w; reply = Jobs js }) (limited limit (in_order which (filter (λ j. (all || bytes_eq j.owner caller) && is_of_kind which j) (rows w))))

pub own_shown : (w : World) (now : ℕ) (caller : List ℕ) (which : WhichJobs) (limit : Option ℕ) (mine : Bool) → (is_operator w.settings.operators caller ≡ false) ⊎ (mine ≡ true)
    → step w now (ask caller (get_jobs which limit mine)) ≡ record { world = w; reply = Jobs (up_to limit (in_order which (own_of_kind caller which (rows w)))) }
own_shown w now caller which limit mine own = shown_step w now caller which limit mine false (shows_own w caller mine own)

pub all_shown : (w : World) (now : ℕ) (caller : List ℕ) (which : WhichJobs) (limit : Option ℕ) → is_operator w.settings.operators caller ≡ true
    → step w now (ask caller (get_jobs which limit false)) ≡ record { world = w; reply = Jobs (up_to limit (in_order which (all_of_kind which (rows w)))) }
all_shown w now caller which limit operator = shown_step w now caller which limit false true (shows_any w caller operator)

-- ---- each of them once, in order

shown_each : CompletedAll → LiveAll → (w : World) (now : ℕ) (caller : List ℕ) (which : WhichJobs) (mine all : Bool) (p : Job → Bool) (js : List Job) → shows w caller mine ≡ all
    → (step w now (ask caller (get_jobs which None mine))).reply ≡ Jobs js → count_by p js ≡ count_by (λ j. ((all || bytes_eq j.owner caller) && is_of_kind which j) && p j) (rows w)
shown_each completed live w now caller which mine all p js shown e =
    let some : List Job = chosen (shows w caller mine) w caller which in
    let is : in_order which some ≡ js = shown_same (in_order which some) js e in
    sym (ap (count_by p) is)
    ∙ count_ordered completed live (shows w caller mine) w caller which p
    ∙ count_filter p (λ j. (shows w caller mine || bytes_eq j.owner caller) && is_among which j) (rows w)
    ∙ (λ i. count_by (λ j. ((shown i || bytes_eq j.owner caller) && kind_is which j i) && p j) (rows w))

pub each_shown : CompletedAll → LiveAll → (w : World) (now : ℕ) (caller : List ℕ) (which : WhichJobs) (mine : Bool) (p : Job → Bool) (js : List Job) → (is_operator w.settings.operators caller ≡ false) ⊎ (mine ≡ true)
    → (step w now (ask caller (get_jobs which None mine))).reply ≡ Jobs js → count_by p js ≡ count_by (λ j. is_owned_by caller j && is_of_kind which j && p j) (rows w)
each_shown completed live w now caller which mine p js own e = shown_each completed live w now caller which mine false p js (shows_own w caller mine own) e

pub each_of_all : CompletedAll → LiveAll → (w : World) (now : ℕ) (caller : List ℕ) (which : WhichJobs) (p : Job → Bool) (js : List Job) → is_operator w.settings.operators caller ≡ true
    → (step w now (ask caller (get_jobs which None false))).reply ≡ Jobs js → count_by p js ≡ count_by (λ j. is_of_kind which j && p j) (rows w)
each_of_all completed live w now caller which p js operator e = shown_each completed live w now caller which false true p js (shows_any w caller operator) e

pub completed_shown : ((js : List Job) → AreNewestFirst (in_order CompletedJobs js)) → (w : World) (now : ℕ) (caller : List ℕ) (limit : Option ℕ) (mine : Bool) (js : List Job) → (step w now (ask caller (get_jobs CompletedJobs limit mine))).reply ≡ Jobs js → EndInTurn js
completed_shown newest w now caller limit mine js e =
    let some : List Job = chosen (shows w caller mine) w caller CompletedJobs in
    let ordered : List Job = in_order CompletedJobs some in
    subst EndInTurn (shown_same (within_limit limit ordered) js e) (in_turn (within_limit limit ordered) (newest_within limit ordered (newest some)))

pub live_shown : ((js : List Job) → AreRising js → AreByRank (in_order NotCompleted js)) → (w : World) (now : ℕ) (caller : List ℕ) (limit : Option ℕ) (mine : Bool) (js : List Job) → IsSound w → (step w now (ask caller (get_jobs NotCompleted limit mine))).reply ≡ Jobs js → AreByRank js
live_shown ranked w now caller limit mine js sound e =
    let some : List Job = chosen (shows w caller mine) w caller NotCompleted in
    let ordered : List Job = in_order NotCompleted some in
    subst AreByRank (shown_same (within_limit limit ordered) js e) (rank_within limit ordered (ranked some (chosen_rise w sound (λ j. (shows w caller mine || bytes_eq j.owner caller) && is_among NotCompleted j))))
