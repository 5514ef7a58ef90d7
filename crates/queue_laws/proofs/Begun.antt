-- What a request leaves of the jobs that the device has, and of those that it has not.
use Rattle.std.proofs.Common.{◌≡◌, ℕ, ◌≤◌, ◌⊎◌, List, refl, ap, subst, sym, ◌∙◌, arith, inl, inr, Bool, true, false}
use Rattle.std.specs.Prelude.{Option, Some, None, is_none}
use Rattle.std.proofs.lemmas.Bool.{both_ways}
use Rattle.std.proofs.lemmas.Option.{none-some}
use Rattle.queue_types.specs.Event.{Call, ask}
use Rattle.queue_types.specs.Job.{state, state_in}
use Rattle.queue_core.specs.World.{World}
use Rattle.queue_core.specs.Limits.{FitsPhase}
use Rattle.queue_core.specs.Machine.{step, sent, canceled_in, cause, is_cancelable_in}
use Rattle.queue_core.specs.Sound.{IsSound}
use Rattle.queue_types.specs.declared.job.Job.{Job}
use Rattle.queue_types.specs.declared.job.Phase.{Phase}
use Rattle.queue_types.specs.declared.job.Phase.TheVariants.{Waiting, Running, Stopped, Canceled}
use Rattle.queue_types.specs.declared.job.Why.{Why}
use Rattle.queue_laws.specs.Jobs.{IsSameButStopping}
use Rattle.queue_laws.proofs.Base.{at}
use Rattle.queue_laws.proofs.Work.{Holds, held_on}
use Rattle.queue_laws.proofs.OneDone.{few_waiting}

abbrev WaitsOrEnds : List ℕ → Job → Job → Type 0
WaitsOrEnds caller x j = (state x ≤ 4) ⊎ (x.phase ≡ Canceled (cause caller j))

-- who asked for its cancel stays the one who asked
abbrev KeepsMark : Job → Job → Type 0
KeepsMark x j = (why : Why) → j.stopping ≡ Some why → x.stopping ≡ Some why

-- what a request leaves of it
abbrev IsLeft : List ℕ → Job → Job → Type 0
IsLeft caller x j = (5 ≤ state j → IsSameButStopping x j) × (state j ≤ 4 → WaitsOrEnds caller x j) × (7 ≤ state j → x ≡ j) × KeepsMark x j

waits : (j : Job) → j.phase ≡ Waiting → state j ≤ 4
waits j is = subst (λ p. state_in p j.hold j.incoming ≤ 4) (sym is) (few_waiting j.hold j.incoming)

-- it has not begun
not_begun : (caller : List ℕ) (j x : Job) → state j ≤ 4 → WaitsOrEnds caller x j → KeepsMark x j → IsLeft caller x j
not_begun caller j x low then mark = (λ high. absurd (omega arith), λ low. then, λ high. absurd (omega arith), mark)

no_mark : (o : Option Why) → is_none o ≡ true → o ≡ None
no_mark None is = refl
no_mark (Some why) is = absurd (cc)

-- it is asked to stop
asked_to_stop : (caller : List ℕ) (why : Why) (j : Job) (n : ℕ) → state j ≡ n → n ≤ 6 → j.stopping ≡ None → IsLeft caller (record j { stopping = Some why }) j
asked_to_stop caller why j n is few none = (λ high. refl, λ low. inl low, λ high. absurd (omega arith), λ before marked. absurd (none-some before (sym none ∙ marked)))

nothing_done : (caller : List ℕ) (j : Job) → IsLeft caller j j
nothing_done caller j = (λ high. refl, λ low. inl low, λ high. refl, λ why marked. marked)

sent_left : (caller : List ℕ) (j : Job) (payload : List ℕ) (last : Bool) (p : Phase) → j.phase ≡ p → FitsPhase p j → j.incoming ≡ true → IsLeft caller (sent j payload last) j
sent_left caller j payload last Waiting is fits incoming = not_begun caller j (sent j payload last) (waits j is) (inl (waits (sent j payload last) is)) (λ why marked. marked)
sent_left caller j payload last _ is fits incoming = absurd (both_ways j.incoming fits.1 incoming)

canceled_left : (caller : List ℕ) (why : Why) (now : ℕ) (j : Job) (p : Phase) → j.phase ≡ p → why ≡ cause caller j → is_cancelable_in p j ≡ true → IsLeft caller (canceled_in why p now j) j
canceled_left caller why now j Waiting is asks can = not_begun caller j (canceled_in why Waiting now j) (waits j is) (inr (ap Canceled asks)) (λ before marked. marked)
canceled_left caller why now j Running is asks can = asked_to_stop caller why j 5 (ap (λ p. state_in p j.hold j.incoming) is) (omega arith) (no_mark j.stopping can)
canceled_left caller why now j Stopped is asks can = asked_to_stop caller why j 6 (ap (λ p. state_in p j.hold j.incoming) is) (omega arith) (no_mark j.stopping can)
canceled_left caller why now j _ is asks can = absurd (cc)

left_holds : (caller : List ℕ) (call : Call) → Holds caller call (IsLeft caller)
left_holds caller call = record {
  same = nothing_done caller;
  sent = λ j payload last sound incoming. sent_left caller j payload last j.phase refl sound.phase incoming;
  canceled = λ why now j asks can. canceled_left caller why now j j.phase refl asks can;
  held = λ j is. not_begun caller j (record j { hold = true }) (waits j is) (inl (waits (record j { hold = true }) is)) (λ why marked. marked);
  released = λ j by own is. not_begun caller j (record j { hold = false }) (waits j is) (inl (waits (record j { hold = false }) is)) (λ why marked. marked);
}

module _ (w : World) (now n : ℕ) (caller : List ℕ) (call : Call) (j k : Job) (sound : IsSound w) (old : at n w.jobs ≡ Some j) where
  left : at n (step w now (ask caller call)).world.jobs ≡ Some k → IsLeft caller k j
  left then = held_on (IsLeft caller) caller call (left_holds caller call) w now n j k sound old then

  pub begun_left : 5 ≤ state j → at n (step w now (ask caller call)).world.jobs ≡ Some k → IsSameButStopping k j
  begun_left high then = (left then).0 high

  pub waiting_left : state j ≤ 4 → at n (step w now (ask caller call)).world.jobs ≡ Some k → (state k ≤ 4) ⊎ (k.phase ≡ Canceled (cause caller j))
  waiting_left low then = (left then).1 low

  pub ended_left : 7 ≤ state j → at n (step w now (ask caller call)).world.jobs ≡ Some k → k ≡ j
  ended_left high then = (left then).2 high

  pub marked_left : (why : Why) → j.stopping ≡ Some why → at n (step w now (ask caller call)).world.jobs ≡ Some k → k.stopping ≡ Some why
  marked_left why marked then = (left then).3 why marked
