-- A job is held until its owner releases it.
use Rattle.std.proofs.Common.{◌≡◌, ℕ, ◌≤◌, List, refl, ap, sym, ◌∙◌, subst, arith, Bool, true, false, cond}
use Rattle.std.specs.Prelude.{Some, nat_eq, option_map}
use Rattle.std.proofs.lemmas.Option.{same_Some}
use Rattle.std.proofs.lemmas.Bool.{both_ways}
use Rattle.queue_types.specs.Event.{Event, Call, Decision, ask, tell, grant, expire, release_job}
use Rattle.queue_types.specs.Job.{state, state_in}
use Rattle.queue_core.specs.World.{World, rows, cut, made_on, has_expired}
use Rattle.queue_core.specs.Machine.{decision, step, sent, canceled_in, expired}
use Rattle.queue_core.specs.Sound.{IsSound}
use Rattle.queue_types.specs.declared.event.Report.{Report}
use Rattle.queue_types.specs.declared.job.Job.{Job}
use Rattle.queue_types.specs.declared.job.Why.{Why}
use Rattle.queue_types.specs.declared.job.Phase.{Phase}
use Rattle.queue_types.specs.declared.job.Phase.TheVariants.{Waiting}
use Rattle.queue_core.proofs.Moves.{at-with_row}
use Rattle.queue_laws.proofs.Base.{at, equal, same_key, first_named, named}
use Rattle.queue_laws.proofs.Filed.{jobs_left}
use Rattle.queue_laws.proofs.Swept.{becomes, at_replaced, jobs_swept}
use Rattle.queue_laws.proofs.Telling.{declined, known, taken, telling, named_before}
use Rattle.queue_laws.proofs.Work.{Holds, held_on}

-- it is held no more, and did not end
abbrev IsFreed : Job → Job → Type 0
IsFreed x j = (j.hold ≡ true) × (x.hold ≡ false) × (state x ≤ 6)

still_held : (A : Type 0) (x j : Job) → x.hold ≡ j.hold → IsFreed x j → A
still_held A x j same freed = absurd (both_ways x.hold freed.1 (same ∙ freed.0))

number_of : (n : ℕ) (w : World) (j : Job) → at n w.jobs ≡ Some j → j.number ≡ n
number_of n w j there = let found = named n (rows w) j there in (first_named n (rows w) j found.rest found.is).1

-- ---- a request

abbrev IsReleased : List ℕ → Call → Job → Job → Type 0
IsReleased caller call x j = IsFreed x j → ask caller call ≡ ask j.owner (release_job j.number)

canceled_freed : (A : Type 0) (why : Why) (now : ℕ) (j : Job) (p : Phase) → IsFreed (canceled_in why p now j) j → A
canceled_freed A why now j Waiting freed = let low = freed.2 in absurd (omega arith)
canceled_freed A why now j p freed = still_held A (canceled_in why p now j) j refl freed

release_holds : (caller : List ℕ) (call : Call) → Holds caller call (IsReleased caller call)
release_holds caller call = record {
  same = λ j. still_held _ j j refl;
  sent = λ j payload last sound incoming. still_held _ (sent j payload last) j refl;
  canceled = λ why now j asks can. canceled_freed _ why now j j.phase;
  held = λ j is freed. absurd (both_ways true freed.1 refl);
  released = λ j by own is freed. (λ i. ask (sym (same_key j.owner caller own) i) (by i));
}

-- ---- a report

told_held : (w : World) (now n : ℕ) (r : Report) (j k : Job) → at n w.jobs ≡ Some j → at n (step w now (tell r)).world.jobs ≡ Some k → k.hold ≡ j.hold
told_held w now n r j k old then =
    let by : Decision → World = λ d. made_on d.change w in
    let d : Decision = decision (cut w now (tell r)) now (tell r) in
    let stays : at n w.jobs ≡ Some k → k.hold ≡ j.hold = λ e. ap (λ (x : Job). x.hold) (same_Some k j (sym e ∙ old)) in
    elim (telling w now r) as (λ _. k.hold ≡ j.hold) [
      | declined cause e ↦ stays (sym (ap (λ d. at n (by d).jobs) e) ∙ then)
      | known l kept same e ↦ stays (sym (ap (λ d. at n (by d).jobs) e) ∙ then)
      | taken a ↦
          elim (nat_eq a.after.number n) as (λ t. nat_eq a.after.number n ≡ t → cond t (Some a.after) (at n w.jobs) ≡ Some k → k.hold ≡ j.hold) [
            | true ↦ λ is e.
                let found = named_before w now r d a in
                let here : r.job ≡ n = sym found.1 ∙ sym (ap (λ (x : Job). x.number) a.moved.0) ∙ equal a.after.number n is in
                let was : a.before ≡ j = same_Some a.before j (sym found.0 ∙ ap (λ m. at m w.jobs) here ∙ old) in
                ap (λ (x : Job). x.hold) (sym (same_Some a.after k e)) ∙ ap (λ (x : Job). x.hold) a.moved.0 ∙ ap (λ (x : Job). x.hold) was
            | false ↦ λ is e. stays e
          ] refl (sym (at-with_row n a.after w.jobs) ∙ sym (ap (λ d. at n (by d).jobs) a.is) ∙ then)
    ]

-- ---- a sweep

swept_freed : (A : Type 0) (w : World) (now n : ℕ) (j k : Job) → IsSound w → at n w.jobs ≡ Some j → at n (step w now expire).world.jobs ≡ Some k → IsFreed k j → A
swept_freed A w now n j k sound old then freed =
    let late : Job → Bool = has_expired w.settings.keep now in
    let is : k ≡ becomes late (expired now) j =
    same_Some k (becomes late (expired now) j) (sym then ∙ ap (at n) (jobs_swept w now sound) ∙ at_replaced now late n w.jobs ∙ ap (option_map (becomes late (expired now))) old) in
    elim (late j) as (λ b. k ≡ cond b (expired now j) j → A) [
      | true ↦ λ e. let low : 8 ≤ 6 = subst (λ x. state x ≤ 6) e freed.2 in absurd (omega arith)
      | false ↦ λ e. still_held A k j (ap (λ (x : Job). x.hold) e) freed
    ] is

-- ---- any event

freed_by : (w : World) (now n : ℕ) (e : Event) (j k : Job) → IsSound w → at n w.jobs ≡ Some j → at n (step w now e).world.jobs ≡ Some k → IsFreed k j → e ≡ ask j.owner (release_job n)
freed_by w now n (ask caller call) j k sound old then freed = held_on (IsReleased caller call) caller call (release_holds caller call) w now n j k sound old then freed ∙ ap (λ m. ask j.owner (release_job m)) (number_of n w j old)
freed_by w now n (tell r) j k sound old then freed = still_held _ k j (told_held w now n r j k old then) freed
freed_by w now n (grant file) j k sound old then freed = still_held _ k j (ap (λ (x : Job). x.hold) (same_Some k j (sym then ∙ ap (at n) (jobs_left w now file) ∙ old))) freed
freed_by w now n expire j k sound old then freed = swept_freed _ w now n j k sound old then freed

pub held_until_released : (w : World) (now n : ℕ) (e : Event) (j k : Job) → IsSound w → at n w.jobs ≡ Some j → j.hold ≡ true → at n (step w now e).world.jobs ≡ Some k → k.hold ≡ false → state k ≤ 6 → e ≡ ask j.owner (release_job n)
held_until_released w now n e j k sound old held then free low = freed_by w now n e j k sound old then (held, free, low)

free_in : (p : Phase) (hold incoming : Bool) → state_in p hold incoming ≡ 3 → hold ≡ false
free_in Waiting true incoming is = absurd (omega arith)
free_in Waiting false incoming is = refl
free_in _ hold incoming is = absurd (omega arith)

pub held_until_startable : (w : World) (now n : ℕ) (e : Event) (j k : Job) → IsSound w → at n w.jobs ≡ Some j → j.hold ≡ true → at n (step w now e).world.jobs ≡ Some k → state k ≡ 3 → e ≡ ask j.owner (release_job n)
held_until_startable w now n e j k sound old held then is = held_until_released w now n e j k sound old held then (free_in k.phase k.hold k.incoming is) (omega arith)
