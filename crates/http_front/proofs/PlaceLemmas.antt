-- The turns of a connection as places of a run.
use Rattle.std.proofs.Common.{◌≡◌, ◌∙◌, Bool, true, false, ℕ, ◌≤◌, List, [], ◌∷◌, ◌++◌, Option, None, Ok, IfSome, length, refl, sym, ap, subst, arith, lit≤}
use Rattle.std.specs.Prelude.{MatchBool}
use Rattle.std.specs.List.{AllByRecursion as Each}
use Rattle.queue_types.specs.Event.{Event}
use Rattle.queue_core.specs.Limits.{IsEvent, IsMoment}
use Rattle.queue_core.specs.Runs.{Place, IsPlace, after, run}
use Rattle.queue_core.specs.World.{World}
use Rattle.ipp_ops.specs.Answer.{Answers, Asks}
use Rattle.device_lines.specs.Reports.{IsReported, Tells}
use Rattle.http_head.specs.Checks.{head_of as head_in}
use Rattle.http_head.specs.Framing.{size_of}
use Rattle.http_head.specs.declared.framing.Framing.{Framing}
use Rattle.http_head.specs.declared.framing.Framing.TheVariants.{Nothing, Sized, Chunked}
use Rattle.http_head.specs.declared.target.Target.{Target}
use Rattle.http_head.specs.declared.target.Target.TheVariants.{Ipp, Report, Queue, Document as DocumentTarget}
use Rattle.http_head.proofs.PlanLemmas.{fits_by}
use Rattle.http_wire.specs.Bodies.{IsBody}
use Rattle.http_wire.specs.Chunks.{ChunkedBody, IsChunkedBody, chunked_content}
use Rattle.http_front.specs.Turns.{Turn, plan, IsTurn, IsAnswered}
use Rattle.http_front.specs.Connections.{AreTurns, world_after}
use Rattle.http_front.specs.Places.{AsksFor, IsPlaceOf, IsRunOf}

-- what requests and lines of the device ask for is within the limits: the laws of both
abbrev pub AreEvents : Type 0
AreEvents = ((b : List ℕ) (e : Option Event) → length b ≤ 16777216 → Asks b e → IfSome e IsEvent)
    × ((line : List ℕ) (e : Option Event) → Tells line e → IfSome e IsEvent)

-- and what they are answered says what it comes to: the same laws
abbrev pub AreDone : Type 0
AreDone = ((now : ℕ) (w u : World) (b out : List ℕ) → Answers w now b u out → (e : Option Event) × Asks b e × (u ≡ after w now e))
    × ((now : ℕ) (w u : World) (line out : List ℕ) → IsReported w now line u out → (e : Option Event) × Tells line e × (u ≡ after w now e))

-- ---- the length of a body

chunks_fit : (b : ChunkedBody) → IsChunkedBody b → length (chunked_content b) ≤ 16777216
unfolding chunked_content
chunks_fit b is = is.chunks.fits

body_fits : (f : Framing) (raw content : List ℕ) → size_of f ≤ 16777216 → IsBody f raw content → length content ≤ 16777216
body_fits Nothing raw content h b = subst (λ (c : List ℕ). length c ≤ 16777216) (sym b.1) (lit≤ tt)
body_fits (Sized n) raw content h b = omega (arith, b.1)
body_fits Chunked raw content h b = subst (λ (c : List ℕ). length c ≤ 16777216) (sym b.3) (chunks_fit b.0 b.1)

pub turn_fits : (now : ℕ) (w : World) (t : Turn) → IsTurn now w t → length t.content ≤ 16777216
turn_fits now w t is = body_fits (plan t).framing t.raw t.content (fits_by (head_in t.head) (Ok (plan t)) (is.passes, refl)) is.body

-- ---- one turn

answered_event : AreEvents → AreDone → (now : ℕ) (w : World) (target : Target) (content : List ℕ) (fault : Bool) (kind reply : List ℕ) (u : World) → length content ≤ 16777216
    → IsAnswered now w target content fault kind reply u
    → (e : Option Event) × MatchBool fault (e ≡ None) (AsksFor target content e) × IfSome e IsEvent × (u ≡ after w now e)
answered_event are done now w Ipp content true kind reply u fits a = (None, refl, tt, a.answers.1)
answered_event are done now w Ipp content false kind reply u fits a =
    let v = done.0 now w u content reply a.answers in (v.0, v.1, are.0 content v.0 fits v.1, v.2)
answered_event are done now w Report content true kind reply u fits a = (None, refl, tt, a.answers.1)
answered_event are done now w Report content false kind reply u fits a =
    let v = done.1 now w u content reply a.answers in (v.0, v.1, are.1 content v.0 v.1, v.2)
answered_event are done now w Queue content true kind reply u fits a = (None, refl, tt, a.after_is)
answered_event are done now w Queue content false kind reply u fits a = (None, refl, tt, a.after_is)
answered_event are done now w (DocumentTarget n) content true kind reply u fits a = (None, refl, tt, a.after_is)
answered_event are done now w (DocumentTarget n) content false kind reply u fits a = (None, refl, tt, a.after_is)

turn_place : AreEvents → AreDone → (now : ℕ) (w : World) (t : Turn) → IsMoment now → IsTurn now w t → (p : Place) × IsPlaceOf now w t p × IsPlace p × (t.after ≡ run w (p ∷ []))
turn_place are done now w t moment is =
    let e = answered_event are done now w (plan t).target t.content t.is_fault t.media_type t.reply t.after (turn_fits now w t is) is.answered in (
      record { now = now; event = e.0 },
      record { moment = refl; within = (moment, e.2); asks = e.1; world = e.3 },
      (moment, e.2),
      e.3,
    )

-- ---- the turns of a connection

run_on : (w v u : World) (p : Place) (ps : List Place) → v ≡ run w (p ∷ []) → u ≡ run v ps → u ≡ run w (p ∷ ps)
run_on w v u p ps first rest = rest ∙ ap (λ (x : World). run x ps) first

pub turns_places : AreEvents → AreDone → (now : ℕ) (w : World) (ts : List Turn) → IsMoment now → AreTurns now w ts
    → IsRunOf now w ts (world_after w ts)
turns_places are done now w [] moment a = ([], tt, tt, refl)
turns_places are done now w (t ∷ ts) moment a =
    let p = turn_place are done now w t moment a.0 in
    let ps = turns_places are done now t.after ts moment a.1 in
    (p.0 ∷ ps.0, (p.1, ps.1), (p.2, ps.2), run_on w t.after (world_after t.after ts) p.0 ps.0 p.3 ps.3)

-- those of a connection whose end world has another name
pub served_places : AreEvents → AreDone → (now : ℕ) (w u : World) (ts : List Turn) → IsMoment now → AreTurns now w ts → u ≡ world_after w ts
    → IsRunOf now w ts u
served_places are done now w u ts moment a e = let ps = turns_places are done now w ts moment a in (ps.0, ps.1, ps.2, e ∙ ps.3)

-- ---- lists of places

pub each_append : (xs ys : List Place) → Each IsPlace xs → Each IsPlace ys → Each IsPlace (xs ++ ys)
each_append [] ys h k = k
each_append (x ∷ xs) ys h k = (h.0, each_append xs ys h.1 k)
