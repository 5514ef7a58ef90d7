-- What others ask changes nothing of a caller's own but the next number, and nothing that the caller is told.
use Rattle.std.proofs.Common.{◌≡◌, ℕ, ◌+◌, ◌⊎◌, List, [], ◌∷◌, refl, ap, sym, ◌∙◌, arith, subst, inl, inr, Bool, true, false, cond}
use Rattle.std.specs.Prelude.{Option, Some, None, IsTrue, is_none, nat_eq, bytes_eq, not, ◌&&◌, ◌||◌}
use Rattle.std.specs.List.{AllByRecursion as Each}
use Rattle.std.proofs.lemmas.Bool.{and_parts, both_ways, or_parts, ne_eqb, not-true, or_left}
use Rattle.queue_types.specs.Settings.{SettingValues}
use Rattle.queue_types.specs.Event.{Call, Event, ask, tell, grant, expire, cancel_job}
use Rattle.queue_types.specs.Operators.{is_operator}
use Rattle.queue_core.specs.World.{World, cut, has_number}
use Rattle.queue_core.specs.Machine.{decision, step}
use Rattle.queue_core.specs.Runs.{Place, IsPlace, after}
use Rattle.queue_core.specs.Sound.{IsSound}
use Rattle.queue_types.specs.declared.event.GrantRow.{GrantRow}
use Rattle.queue_types.specs.declared.event.Report.{Report}
use Rattle.queue_types.specs.declared.event.Reply.{Reply}
use Rattle.queue_laws.specs.Alike.{own_along, told, told_along, counts_all, is_others, may_differ, draws, IsAlikePlace, IsAlike}
use Rattle.queue_laws.specs.Operating.{CancelsOwn}
use Rattle.queue_laws.specs.Own.{Own, own, own_jobs}
use Rattle.queue_laws.proofs.Again.{KeepsSound}
use Rattle.queue_laws.proofs.Asked.{asked_by}
use Rattle.queue_laws.proofs.Canceling.{canceled_others, canceled_own, own_canceled_on}
use Rattle.queue_laws.proofs.Base.{same_key, itself}
use Rattle.queue_laws.proofs.Callers.{others_made, own_made, own_made_on}
use Rattle.queue_laws.proofs.Filed.{next_left as next_filed}
use Rattle.queue_laws.proofs.LeftAlone.{next_drawn}
use Rattle.queue_laws.proofs.Heard.{heard_others, heard_own, heard_reply, own_heard_on, seen_report}
use Rattle.queue_laws.proofs.Seen.{seen, decided}
use Rattle.queue_laws.proofs.Shared.{files_alike}
use Rattle.queue_laws.proofs.Swept.{own_swept, own_after_sweep}
use Rattle.queue_laws.proofs.Telling.{next_left as next_told}

-- ---- what is drawn

same_next : (m n : ℕ) → m ≡ n → m ≡ cond (not (nat_eq m n)) (n + 1) n
same_next m n is = is ∙ sym (ap (λ b. cond (not b) (n + 1) n) (ap (λ t. nat_eq t n) is ∙ itself n))

-- a place draws one number or none
drawn_by : (m n : ℕ) → (m ≡ n) ⊎ (m ≡ n + 1) → m ≡ cond (not (nat_eq m n)) (n + 1) n
drawn_by m n (inl is) = same_next m n is
drawn_by m n (inr is) = is ∙ sym (ap (λ b. cond (not b) (n + 1) n) (ap (λ t. nat_eq t n) is ∙ ne_eqb (n + 1) n (λ same. omega arith)))

next_after : (w : World) (p : Place) → IsSound w → (after w p.now p.event).next ≡ cond (draws w p) (w.next + 1) w.next
next_after w p sound =
    elim p.event as (λ o. (after w p.now o).next ≡ cond (not (nat_eq (after w p.now o).next w.next)) (w.next + 1) w.next) [
      | None ↦ sym (ap (λ b. cond (not b) (w.next + 1) w.next) (itself w.next))
      | Some e ↦ elim e as (λ e. (after w p.now (Some e)).next ≡ cond (not (nat_eq (after w p.now (Some e)).next w.next)) (w.next + 1) w.next) [
        | ask caller call ↦ drawn_by (step w p.now (ask caller call)).world.next w.next (next_drawn w p.now caller call sound)
        | tell r ↦ same_next (step w p.now (tell r)).world.next w.next (next_told w p.now r)
        | grant file ↦ same_next (step w p.now (grant file)).world.next w.next (next_filed w p.now file)
        | expire ↦ same_next (step w p.now expire).world.next w.next refl
      ]
    ]

-- ---- a place of others

abbrev with_next : Own → ℕ → Own
with_next o n = record o { next = n }

-- what is u's own changes by no more than the next number, and u is told nothing
record IsOthers (u : List ℕ) (w : World) (now : ℕ) (o : Option Event) : Type 0 where
  own : own u (after w now o) ≡ with_next (own u w) (after w now o).next
  told : told u w now o ≡ None

-- where another asks for anything but an operator's Cancel-Job
asked_others : (u caller : List ℕ) (w : World) (now : ℕ) (call : Call) → IsSound w → bytes_eq caller u ≡ false → CancelsOwn caller call w → IsOthers u w now (Some (ask caller call))
asked_others u caller w now call sound not_u may = record {
  own = others_made u caller w (decision (cut w now (ask caller call)) now (ask caller call)).change not_u (asked_by w now caller call sound may);
  told = ap (λ b. cond (b && not (counts_all call)) (Some (step w now (ask caller call)).reply) None) not_u;
}

-- of a place where one asks that is neither u nor an operator, or nothing is asked
others_after : (u : List ℕ) (w : World) (now : ℕ) (o : Option Event) → IsSound w → IsTrue (is_none o || may_differ w.settings.operators u o) → IsOthers u w now o
others_after u w now None sound other = record { own = refl; told = refl }
others_after u w now (Some (ask caller call)) sound other =
    let both = and_parts (not (bytes_eq caller u)) (not (is_operator w.settings.operators caller)) other in
    asked_others u caller w now call sound (not-true (bytes_eq caller u) both.0) (inl (not-true (is_operator w.settings.operators caller) both.1))
others_after u w now _ sound other = absurd (cc)

-- ---- a place of the caller's own

abbrev own_step : List ℕ → SettingValues → ℕ → Call → Own → Own
own_step u s now call o = own_made_on u (decision (seen s o u call) now (ask u call)).change o

own_after : (u : List ℕ) (w : World) (now : ℕ) (call : Call) → IsSound w → is_operator w.settings.operators u ≡ false → own u (after w now (Some (ask u call))) ≡ own_step u w.settings now call (own u w)
own_after u w now call sound plain =
    own_made u w (decision (cut w now (ask u call)) now (ask u call)).change sound (asked_by w now u call sound (inl plain))
    ∙ ap (λ c. own_made_on u c (own u w)) (decided u w now call sound plain).0

own_told : (u : List ℕ) (w : World) (now : ℕ) (call : Call) → IsSound w → is_operator w.settings.operators u ≡ false → counts_all call ≡ false → (step w now (ask u call)).reply ≡ (decision (seen w.settings (own u w) u call) now (ask u call)).reply
own_told u w now call sound plain own = (decided u w now call sound plain).1 own

none : (b : Bool) (r s : Reply) → cond (b && false) (Some r) None ≡ cond (b && false) (Some s) None
none true r s = refl
none false r s = refl

-- one that is neither u nor an operator is another than u
no_event : (operators : List (List ℕ)) (u : List ℕ) (o : Option Event) → (is_none o || may_differ operators u o) ≡ true → is_others u o ≡ false → o ≡ None
no_event operators u None e f = refl
no_event operators u (Some (ask caller call)) e f = let both = and_parts (not (bytes_eq caller u)) (not (is_operator operators caller)) e in absurd (both_ways (not (bytes_eq caller u)) f both.0)
no_event operators u (Some x) e f = absurd (cc)

draws_none : (w : World) (p : Place) → p.event ≡ None → draws w p ≡ false
draws_none w p is = ap (λ o. not (nat_eq (after w p.now o).next w.next)) is ∙ ap not (itself w.next)

-- ---- two runs

-- what u can see is the same
record SameFor (u : List ℕ) (w v : World) : Type 0 where
  own : own u w ≡ own u v
  settings : w.settings ≡ v.settings
  plain : is_operator w.settings.operators u ≡ false
  left : IsSound w
  right : IsSound v

record Goes (u : List ℕ) (w v : World) (p q : Place) : Type 0 where
  own : own u (after w p.now p.event) ≡ own u (after v q.now q.event)
  told : told u w p.now p.event ≡ told u v q.now q.event

-- each place leaves the settings
settings_after : (w : World) (now : ℕ) (o : Option Event) → (after w now o).settings ≡ w.settings
settings_after w now None = refl
settings_after w now (Some e) = refl

module _ (u : List ℕ) (w v : World) (same : SameFor u w v) where
  next_same : w.next ≡ v.next
  next_same = ap (λ (o : Own). o.next) same.own

  plain_too : is_operator v.settings.operators u ≡ false
  plain_too = ap (λ (s : SettingValues). is_operator s.operators u) (sym same.settings) ∙ same.plain

  -- others on both sides
  others_go : (p q : Place) → IsOthers u w p.now p.event → IsOthers u v q.now q.event → draws w p ≡ draws v q → Goes u w v p q
  others_go p q left right draw =
      let next : (after w p.now p.event).next ≡ (after v q.now q.event).next =
      next_after w p same.left ∙ (λ i. cond (draw i) (next_same i + 1) (next_same i)) ∙ sym (next_after v q same.right) in
      record { own = left.own ∙ (λ i. with_next (same.own i) (next i)) ∙ sym right.own; told = left.told ∙ sym right.told }

  -- the caller on both sides
  own_go : (now : ℕ) (call : Call) → Goes u w v (record { now = now; event = Some (ask u call) }) (record { now = now; event = Some (ask u call) })
  own_go now call = record {
    own = own_after u w now call same.left same.plain ∙ (λ i. own_step u (same.settings i) now call (same.own i)) ∙ sym (own_after u v now call same.right plain_too);
    told = elim (counts_all call) as (λ b. counts_all call ≡ b → cond (bytes_eq u u && not b) (Some (step w now (ask u call)).reply) None ≡ cond (bytes_eq u u && not b) (Some (step v now (ask u call)).reply) None) [
      | true ↦ λ is. none (bytes_eq u u) (step w now (ask u call)).reply (step v now (ask u call)).reply
      | false ↦ λ is. ap (λ r. cond (bytes_eq u u && true) (Some r) None) (own_told u w now call same.left same.plain is ∙ (λ i. (decision (seen (same.settings i) (same.own i) u call) now (ask u call)).reply) ∙ sym (own_told u v now call same.right plain_too is))
    ] refl;
  }

  jobs_same : own_jobs u w.jobs ≡ own_jobs u v.jobs
  jobs_same = ap (λ (o : Own). o.jobs) same.own

  -- a report on both sides
  report_goes : (now : ℕ) (r : Report) (b : Bool) → has_number r.job (own_jobs u w.jobs) ≡ b → Goes u w v (record { now = now; event = Some (tell r) }) (record { now = now; event = Some (tell r) })
  report_goes now r false apart = record {
    own = heard_others u w now r same.left apart ∙ same.own ∙ sym (heard_others u v now r same.right (ap (has_number r.job) (sym jobs_same) ∙ apart));
    told = ap (λ b. cond b (Some (step w now (tell r)).reply) None) apart ∙ sym (ap (λ b. cond b (Some (step v now (tell r)).reply) None) (ap (has_number r.job) (sym jobs_same) ∙ apart));
  }
  report_goes now r true mine =
      let also : has_number r.job (own_jobs u v.jobs) ≡ true = ap (has_number r.job) (sym jobs_same) ∙ mine in
      let reply : (step w now (tell r)).reply ≡ (step v now (tell r)).reply =
      heard_reply u w now r same.left mine ∙ (λ i. (decision (seen_report u (same.settings i) (same.own i) r) now (tell r)).reply) ∙ sym (heard_reply u v now r same.right also) in
      record {
        own = heard_own u w now r same.left mine ∙ (λ i. own_heard_on u (same.settings i) now r (same.own i)) ∙ sym (heard_own u v now r same.right also);
        told = λ i. cond (has_number r.job (jobs_same i)) (Some (reply i)) None;
      }

  -- an account file on both sides
  file_goes : (now : ℕ) (file : List GrantRow) → Goes u w v (record { now = now; event = Some (grant file) }) (record { now = now; event = Some (grant file) })
  file_goes now file = let both = files_alike u w v now file same.own in record { own = both.0; told = ap Some both.1 }

  -- a sweep on both sides
  sweep_goes : (now : ℕ) → Goes u w v (record { now = now; event = Some expire }) (record { now = now; event = Some expire })
  sweep_goes now = record {
    own = own_after_sweep w now u same.left ∙ (λ i. own_swept u (same.settings i).keep now (same.own i)) ∙ sym (own_after_sweep v now u same.right);
    told = refl;
  }

  -- an operator's Cancel-Job on both sides
  cancel_goes : (now n : ℕ) (caller : List ℕ) → bytes_eq caller u ≡ false → (b : Bool) → has_number n (own_jobs u w.jobs) ≡ b → Goes u w v (record { now = now; event = Some (ask caller (cancel_job n)) }) (record { now = now; event = Some (ask caller (cancel_job n)) })
  cancel_goes now n caller not_u false apart = record {
    own = canceled_others u caller w now n same.left apart ∙ same.own ∙ sym (canceled_others u caller v now n same.right (ap (has_number n) (sym jobs_same) ∙ apart));
    told = ap (λ b. cond (b && true) (Some (step w now (ask caller (cancel_job n))).reply) None) not_u ∙ sym (ap (λ b. cond (b && true) (Some (step v now (ask caller (cancel_job n))).reply) None) not_u);
  }
  cancel_goes now n caller not_u true mine = record {
    own = canceled_own u caller w now n same.left mine ∙ (λ i. own_canceled_on u caller (same.settings i) now n (same.own i)) ∙ sym (canceled_own u caller v now n same.right (ap (has_number n) (sym jobs_same) ∙ mine));
    told = ap (λ b. cond (b && true) (Some (step w now (ask caller (cancel_job n))).reply) None) not_u ∙ sym (ap (λ b. cond (b && true) (Some (step v now (ask caller (cancel_job n))).reply) None) not_u);
  }

  -- another call of another caller on both sides
  other_goes : (now : ℕ) (caller : List ℕ) (call : Call) → bytes_eq caller u ≡ false → ((n : ℕ) → call ≡ cancel_job n → ⊥) → draws w (record { now = now; event = Some (ask caller call) }) ≡ draws v (record { now = now; event = Some (ask caller call) })
      → Goes u w v (record { now = now; event = Some (ask caller call) }) (record { now = now; event = Some (ask caller call) })
  other_goes now caller call not_u not_cancel draw =
      others_go (record { now = now; event = Some (ask caller call) }) (record { now = now; event = Some (ask caller call) })
      (asked_others u caller w now call same.left not_u (inr not_cancel)) (asked_others u caller v now call same.right not_u (inr not_cancel)) draw

  another_goes : (now : ℕ) (caller : List ℕ) (call : Call) → bytes_eq caller u ≡ false → draws w (record { now = now; event = Some (ask caller call) }) ≡ draws v (record { now = now; event = Some (ask caller call) })
      → Goes u w v (record { now = now; event = Some (ask caller call) }) (record { now = now; event = Some (ask caller call) })
  another_goes now caller (cancel_job n) not_u draw = cancel_goes now n caller not_u (has_number n (own_jobs u w.jobs)) refl
  another_goes now caller call not_u draw = other_goes now caller call not_u (λ n e. absurd (cc)) draw

  -- one event on both sides
  event_goes : (now : ℕ) (o : Option Event) → (IsTrue (is_others u o) → draws w (record { now = now; event = o }) ≡ draws v (record { now = now; event = o })) → Goes u w v (record { now = now; event = o }) (record { now = now; event = o })
  event_goes now None draw = others_go (record { now = now; event = None }) (record { now = now; event = None }) (record { own = refl; told = refl }) (record { own = refl; told = refl }) (ap not (itself w.next ∙ sym (itself v.next)))
  event_goes now (Some (ask caller call)) draw =
      elim (bytes_eq caller u) as (λ b. bytes_eq caller u ≡ b → Goes u w v (record { now = now; event = Some (ask caller call) }) (record { now = now; event = Some (ask caller call) })) [
        | true ↦ λ is. subst (λ a. Goes u w v (record { now = now; event = Some (ask a call) }) (record { now = now; event = Some (ask a call) })) (sym (same_key caller u is)) (own_go now call)
        | false ↦ λ is. another_goes now caller call is (draw (ap not is))
      ] refl
  event_goes now (Some (tell r)) draw = report_goes now r (has_number r.job (own_jobs u w.jobs)) refl
  event_goes now (Some (grant file)) draw = file_goes now file
  event_goes now (Some expire) draw = sweep_goes now

  -- nothing on both sides draws nothing
  drawn_alike : (p q : Place) → IsTrue (is_none p.event || may_differ w.settings.operators u p.event) → IsTrue (is_none q.event || may_differ v.settings.operators u q.event) → (IsTrue (is_others u p.event || is_others u q.event) → draws w p ≡ draws v q) → draws w p ≡ draws v q
  drawn_alike p q p_others q_others draw =
      elim (is_others u p.event || is_others u q.event) as (λ b. (is_others u p.event || is_others u q.event) ≡ b → draws w p ≡ draws v q) [
        | true ↦ λ is. draw is
        | false ↦ λ is.
            draws_none w p (no_event w.settings.operators u p.event p_others (or_parts (is_others u p.event) (is_others u q.event) is).0)
            ∙ sym (draws_none v q (no_event v.settings.operators u q.event q_others (or_parts (is_others u p.event) (is_others u q.event) is).1))
      ] refl

  place_goes : (p q : Place) → IsAlikePlace u w v p q → Goes u w v p q
  place_goes p q alike =
      elim alike.event as (λ r. Goes u w v p q) [
        | inl is ↦
            let one : p ≡ q = λ i. record { now = alike.now i; event = is i } in
            subst (λ r. Goes u w v p r) one (event_goes p.now p.event (λ other. alike.draw (or_left (is_others u p.event) (is_others u q.event) other) ∙ ap (draws v) (sym one)))
        | inr others ↦ others_go p q (others_after u w p.now p.event same.left others.0) (others_after u v q.now q.event same.right others.1) (drawn_alike p q others.0 others.1 alike.draw)
      ]

  place_same : KeepsSound → (p q : Place) → IsPlace p → IsPlace q → Goes u w v p q → SameFor u (after w p.now p.event) (after v q.now q.event)
  place_same keeps p q p_place q_place goes = record {
    own = goes.own;
    settings = settings_after w p.now p.event ∙ same.settings ∙ sym (settings_after v q.now q.event);
    plain = ap (λ (s : SettingValues). is_operator s.operators u) (settings_after w p.now p.event) ∙ same.plain;
    left = keeps w (p ∷ []) same.left (p_place, tt);
    right = keeps v (q ∷ []) same.right (q_place, tt);
  }

runs_alike : KeepsSound → (u : List ℕ) (ps qs : List Place) (w v : World) → SameFor u w v → Each IsPlace ps → Each IsPlace qs → IsAlike u w v ps qs → (own_along u w ps ≡ own_along u v qs) × (told_along u w ps ≡ told_along u v qs)
runs_alike keeps u [] [] w v same ps_places qs_places alike = (refl, refl)
runs_alike keeps u [] (q ∷ qs) w v same ps_places qs_places alike = absurd alike
runs_alike keeps u (p ∷ ps) [] w v same ps_places qs_places alike = absurd alike
runs_alike keeps u (p ∷ ps) (q ∷ qs) w v same ps_places qs_places alike =
    let goes = place_goes u w v same p q alike.0 in
    let rest = runs_alike keeps u ps qs (after w p.now p.event) (after v q.now q.event) (place_same u w v same keeps p q ps_places.0 qs_places.0 goes) ps_places.1 qs_places.1 alike.1 in
    (λ i. goes.own i ∷ rest.0 i, λ i. goes.told i ∷ rest.1 i)

-- two runs from one world
pub two_runs : KeepsSound → (u : List ℕ) (ps qs : List Place) (w : World) → IsSound w → is_operator w.settings.operators u ≡ false → Each IsPlace ps → Each IsPlace qs → IsAlike u w w ps qs → (own_along u w ps ≡ own_along u w qs) × (told_along u w ps ≡ told_along u w qs)
two_runs keeps u ps qs w sound plain = runs_alike keeps u ps qs w w (record { own = refl; settings = refl; plain = plain; left = sound; right = sound })
