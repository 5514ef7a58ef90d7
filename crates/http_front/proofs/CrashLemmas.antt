-- What a crash leaves, from one request to the next.
use Rattle.std.proofs.Common.{◌≡◌, ◌≤◌, ◌∙◌, true, ℕ, List, [], ◌∷◌, ◌++◌, Option, Some, IfSome, length, inl, inr, refl, ap, subst, sym, arith}
use Rattle.std.specs.List.{AllByRecursion as Each}
use Rattle.queue_types.specs.Event.{Event}
use Rattle.queue_core.specs.Crash.{Carries, Leaves, broken_off, taken, untaken}
use Rattle.queue_core.specs.Limits.{IsEvent, IsMoment}
use Rattle.queue_core.specs.Machine.{step}
use Rattle.queue_core.specs.Runs.{Place, IsPlace, after, run}
use Rattle.queue_core.specs.World.{World}
use Rattle.ipp_ops.specs.Answer.{Asks, calls, refuses}
use Rattle.device_lines.specs.Reports.{Tells, reports, unread}
use Rattle.http_head.specs.declared.target.Target.{Target}
use Rattle.http_head.specs.declared.target.Target.TheVariants.{Ipp, Report, Queue, Document}
use Rattle.http_front.specs.Connections.{AreTurns, world_after}
use Rattle.http_front.specs.Crash.{AsksIn, CarriesAll, IsAskedIn, IsAtMostOneMore, IsLeft}
use Rattle.http_front.specs.Turns.{IsTurn, Turn, plan}
use Rattle.http_front.specs.Places.{AsksFor}
use Rattle.http_front.proofs.GrantLemmas.{asked, told}
use Rattle.http_front.proofs.PlaceLemmas.{AreEvents, turn_fits}

-- where nothing is done, all stays
pub carries_none : {failed : Type 0} (before : World → World → Type 0) (asks : Event → Type 0) (now : ℕ) (w : World) → Carries before before asks failed now w w
carries_none before asks now w = λ v left. (v, left, untaken refl refl)

pub carries_no_turn : (before : World → World → Type 0) (now : ℕ) (w : World) → CarriesAll before before now [] w w
carries_no_turn before now w = λ v left. (v, left, inl (refl, refl))

-- ---- one request, or none

left_idle : (now : ℕ) (w v u x : World) → Leaves (λ e. ⊥) ⊥ now w v u x → IsLeft now [] w v u x
left_idle now w v u x (untaken p q) = inl (p, q)
left_idle now w v u x (taken e asks p q) = absurd asks
left_idle now w v u x (broken_off e asks failed p q) = absurd asks

-- what was declined asked for nothing
pub carries_idle : (before after : World → World → Type 0) (now : ℕ) (w u : World) → Carries before after (λ e. ⊥) ⊥ now w u → CarriesAll before after now [] w u
carries_idle before after now w u c = λ v left. let l = c v left in (l.0, l.1, left_idle now w v u l.0 l.2)

left_by : (now : ℕ) (t : Turn) (w v u x : World) → Leaves (AsksIn t) (t.is_fault ≡ true) now w v u x → IsLeft now (t ∷ []) w v u x
left_by now t w v u x (untaken p q) = inl (p, q)
left_by now t w v u x (taken e asks p q) = inr (inl q)
left_by now t w v u x (broken_off e asks failed p q) = inr (inr (e, inl (asks, failed, p), subst (λ (z : World). x ≡ (step z now e).world) (sym p) q))

pub carries_one : (before after : World → World → Type 0) (now : ℕ) (t : Turn) (w u : World) → Carries before after (AsksIn t) (t.is_fault ≡ true) now w u → CarriesAll before after now (t ∷ []) w u
carries_one before after now t w u c = λ v left. let l = c v left in (l.0, l.1, left_by now t w v u l.0 l.2)

-- ---- requests one after another

asked_first : (w : World) (ts us : List Turn) (u : World) (e : Event) → IsAskedIn w ts u e → IsAskedIn w (ts ++ us) u e
asked_first w [] us u e a = absurd a
asked_first w (t ∷ ts) us u e (inl a) = inl a
asked_first w (t ∷ ts) us u e (inr a) = inr (asked_first t.after ts us u e a)

asked_later : (w : World) (ts us : List Turn) (u : World) (e : Event) → IsAskedIn (world_after w ts) us u e → IsAskedIn w (ts ++ us) u e
asked_later w [] us u e a = a
asked_later w (t ∷ ts) us u e a = inr (asked_later t.after ts us u e a)

left_longer : (now : ℕ) (ts us : List Turn) (w v u x : World) → IsLeft now ts w v u x → IsLeft now (ts ++ us) w v u x
left_longer now ts us w v u x (inl e) = inl e
left_longer now ts us w v u x (inr (inl e)) = inr (inl e)
left_longer now ts us w v u x (inr (inr h)) = inr (inr (h.0, asked_first w ts us u h.0 h.1, h.2))

left_more : (now : ℕ) (ts us : List Turn) (w v u x p y : World) → u ≡ world_after w ts → IsLeft now ts w v u x → IsLeft now us u x p y → IsLeft now (ts ++ us) w v p y
left_more now ts us w v u x p y is h (inl e) =
    left_longer now ts us w v p y (subst (λ (z : World). IsLeft now ts w v z y) (sym e.0) (subst (λ (z : World). IsLeft now ts w v u z) (sym e.1) h))
left_more now ts us w v u x p y is h (inr (inl e)) = inr (inl e)
left_more now ts us w v u x p y is h (inr (inr m)) = inr (inr (m.0, asked_later w ts us p m.0 (subst (λ (z : World). IsAskedIn z us p m.0) is m.1), m.2))

pub carries_more : (before between after : World → World → Type 0) (now : ℕ) (ts us : List Turn) (w u p : World) → u ≡ world_after w ts → CarriesAll before between now ts w u
    → CarriesAll between after now us u p → CarriesAll before after now (ts ++ us) w p
carries_more before between after now ts us w u p is h c = λ v left.
    let r = h v left in
    let l = c r.0 r.1 in
    (l.0, l.1, left_more now ts us w v u r.0 p l.0 is r.2 l.2)

-- where a crash left just the queue
pub left_one : (now : ℕ) (turns : List Turn) (w u x : World) → IsLeft now turns w w u x → IsAtMostOneMore now w turns u x
left_one now turns w u x (inl e) = inl (e.1 ∙ sym e.0)
left_one now turns w u x (inr h) = h

-- ---- what is left, as a run of the machine

target_event : AreEvents → (target : Target) (content : List ℕ) (o : Option Event) → length content ≤ 16777216 → AsksFor target content o → IfSome o IsEvent
target_event are Ipp content o fits asks = are.0 content o fits asks
target_event are Report content o fits asks = are.1 content o asks
target_event are Queue content o fits asks = subst (λ (z : Option Event). IfSome z IsEvent) (sym asks) tt
target_event are (Document n) content o fits asks = subst (λ (z : Option Event). IfSome z IsEvent) (sym asks) tt

pub turn_event : AreEvents → (now : ℕ) (w : World) (t : Turn) (e : Event) → IsTurn now w t → AsksIn t e → IsEvent e
turn_event are now w t e is asks = target_event are (plan t).target t.content (Some e) (turn_fits now w t is) asks

pub turns_event : AreEvents → (now : ℕ) (w u : World) (ts : List Turn) (e : Event) → AreTurns now w ts → IsAskedIn w ts u e → IsEvent e
turns_event are now w u [] e a asks = absurd asks
turns_event are now w u (t ∷ ts) e a (inl asks) = turn_event are now w t e a.0 asks.0
turns_event are now w u (t ∷ ts) e a (inr asks) = turns_event are now t.after u ts e a.1 asks

pub left_places : AreEvents → (now : ℕ) (w u x : World) (ts : List Turn) → IsMoment now → AreTurns now w ts → IsAtMostOneMore now w ts u x
    → (ps : List Place) × Each IsPlace ps × (length ps ≤ 1) × (x ≡ run u ps)
left_places are now w u x ts moment a (inl e) = ([], tt, omega arith, e)
left_places are now w u x ts moment a (inr h) =
    (record { now = now; event = Some h.0 } ∷ [], ((moment, turns_event are now w u ts h.0 a h.1), tt), omega arith, h.2)

-- ---- and it grants nothing

call_grants : (u : World) (now : ℕ) (content : List ℕ) (o : Option Event) → Asks content o → (after u now o).grants ≡ u.grants
call_grants u now content _ (refuses code list on) = refl
call_grants u now content _ (calls caller call rows list on) = asked u now caller call

line_grants : (u : World) (now : ℕ) (line : List ℕ) (o : Option Event) → Tells line o → (after u now o).grants ≡ u.grants
line_grants u now line _ (reports r reads) = told u now r
line_grants u now line _ (unread f reads) = refl

target_grants : (u : World) (now : ℕ) (target : Target) (content : List ℕ) (o : Option Event) → AsksFor target content o → (after u now o).grants ≡ u.grants
target_grants u now Ipp content o asks = call_grants u now content o asks
target_grants u now Report content o asks = line_grants u now content o asks
target_grants u now Queue content o asks = ap (λ (z : Option Event). (after u now z).grants) asks
target_grants u now (Document n) content o asks = ap (λ (z : Option Event). (after u now z).grants) asks

turns_grants : (w u : World) (now : ℕ) (ts : List Turn) (e : Event) → IsAskedIn w ts u e → (step u now e).world.grants ≡ u.grants
turns_grants w u now [] e asks = absurd asks
turns_grants w u now (t ∷ ts) e (inl asks) = target_grants u now (plan t).target t.content (Some e) asks.0
turns_grants w u now (t ∷ ts) e (inr asks) = turns_grants t.after u now ts e asks

pub left_grants : (now : ℕ) (w : World) (ts : List Turn) (u x : World) → IsAtMostOneMore now w ts u x → x.grants ≡ u.grants
left_grants now w ts u x (inl e) = ap (λ (z : World). z.grants) e
left_grants now w ts u x (inr h) = ap (λ (z : World). z.grants) h.2 ∙ turns_grants w u now ts h.0 h.1
