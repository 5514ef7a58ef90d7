-- Requests answered one after another, whatever their bytes were.
use Rattle.std.proofs.Common.{◌≡◌, Bool, true, false, ℕ, ◌+◌, List, [], ◌∷◌, ◌++◌, Ok, Err, refl, sym, ap, ◌∙◌, subst, length-append, arith, if◌then◌else◌, add-zero}
use Rattle.std.proofs.Common.{Result}
use Rattle.std.specs.List.{count_by}
use Rattle.std.proofs.lemmas.List.Sums.{sum_by-append, sum_by-cons}
use Rattle.queue_core.specs.World.{World}
use Rattle.queue_types.specs.declared.event.Report.{Report as DeviceReport}
use Rattle.ipp_ops.specs.Answer.{outcome}
use Rattle.ipp_ops.specs.Verdict.{Verdict, passed, refused}
use Rattle.ipp_wire.specs.Message.{head_of}
use Rattle.device_lines.specs.Reports.{BringsAbout}
use Rattle.device_lines.specs.declared.line.LineFault.{LineFault}
use Rattle.http_head.specs.declared.target.Target.{Target}
use Rattle.http_head.specs.declared.target.Target.TheVariants.{Ipp, Report, Queue, Document as DocumentTarget}
use Rattle.http_front.specs.Turns.{Turn, plan, IsTurn, IsAnswered, acts}
use Rattle.http_front.specs.Connections.{AreTurns, Worked, world_after}

-- ---- the settings stay

settings_by : (now : ℕ) (w after : World) (content : List ℕ) (v : Verdict) → after ≡ (outcome v (head_of content) w now).world → after.settings ≡ w.settings
settings_by now w after content (refused code u) e = ap (λ (z : World). z.settings) e
settings_by now w after content (passed caller call rows u) e = ap (λ (z : World). z.settings) e

report_settings : (now : ℕ) (w after : World) (reply : List ℕ) (r : Result DeviceReport LineFault) → BringsAbout r w now after reply → after.settings ≡ w.settings
report_settings now w after reply (Ok r) b = ap (λ (z : World). z.settings) b.0
report_settings now w after reply (Err f) b = ap (λ (z : World). z.settings) b.0

answered_settings : (now : ℕ) (w : World) (target : Target) (content : List ℕ) (fault : Bool) (kind reply : List ℕ) (after : World) → IsAnswered now w target content fault kind reply after
    → after.settings ≡ w.settings
answered_settings now w Ipp content true kind reply after a = ap (λ (z : World). z.settings) a.answers.1
answered_settings now w Ipp content false kind reply after a = settings_by now w after content a.answers.verdict a.answers.world
answered_settings now w Report content true kind reply after a = ap (λ (z : World). z.settings) a.answers.1
answered_settings now w Report content false kind reply after a = report_settings now w after reply a.answers.reading a.answers.brings
answered_settings now w Queue content fault kind reply after a = ap (λ (z : World). z.settings) a.after_is
answered_settings now w (DocumentTarget n) content fault kind reply after a = ap (λ (z : World). z.settings) a.after_is

pub turn_settings : (now : ℕ) (w : World) (t : Turn) → IsTurn now w t → t.after.settings ≡ w.settings
turn_settings now w t is = answered_settings now w (plan t).target t.content t.is_fault t.media_type t.reply t.after is.answered

pub turns_settings : (now : ℕ) (w : World) (ts : List Turn) → AreTurns now w ts → (world_after w ts).settings ≡ w.settings
turns_settings now w [] a = refl
turns_settings now w (t ∷ ts) a = turns_settings now t.after ts a.1 ∙ turn_settings now w t a.0

-- ---- more turns at the end

pub worlds_more : (w : World) (ts us : List Turn) → world_after w (ts ++ us) ≡ world_after (world_after w ts) us
worlds_more w [] us = refl
worlds_more w (t ∷ ts) us = worlds_more t.after ts us

pub are_more : (now : ℕ) (w : World) (ts us : List Turn) → AreTurns now w ts → AreTurns now (world_after w ts) us → AreTurns now w (ts ++ us)
are_more now w [] us a b = b
are_more now w (t ∷ ts) us a b = (a.0, are_more now t.after ts us a.1 b)

abbrev one_if : Turn → ℕ
one_if t = if acts t then 1 else 0

pub counts_more : (ts us : List Turn) → count_by acts (ts ++ us) ≡ count_by acts ts + count_by acts us
counts_more ts us = sum_by-append one_if ts us

pub count_one : (t : Turn) → count_by acts (t ∷ []) ≡ (if acts t then 1 else 0)
count_one t = sum_by-cons one_if t [] ∙ add-zero (one_if t)

-- ---- none, or one

abbrev pub worked_none : (now : ℕ) (w u : World) (n : ℕ) → u ≡ w → n ≡ 0 → Worked 1 now w u n
worked_none now w u n same none = record { turns = []; few = omega arith; are = tt; world = same; settings = ap (λ (z : World). z.settings) same; acted_is = none }

abbrev pub worked_one : (now : ℕ) (w u : World) (n : ℕ) (t : Turn) → IsTurn now w t → u ≡ t.after → n ≡ (if acts t then 1 else 0) → Worked 1 now w u n
worked_one now w u n t is same one = record {
  turns = t ∷ [];
  few = omega arith;
  are = (is, tt);
  world = same;
  settings = ap (λ (z : World). z.settings) same ∙ turn_settings now w t is;
  acted_is = one ∙ sym (count_one t);
}

-- ---- some, and then others

abbrev pub worked_on : (few more most now : ℕ) (w u p : World) (n m sum : ℕ) → few + more ≡ most → n + m ≡ sum → Worked few now w u n → Worked more now u p m → Worked most now w p sum
worked_on few more most now w u p n m sum most_is sum_is h one = record {
  turns = h.turns ++ one.turns;
  few = (let e = length-append h.turns one.turns in let f = h.few in let g = one.few in omega (arith, e, f, g, most_is));
  are = are_more now w h.turns one.turns h.are (subst (λ (z : World). AreTurns now z one.turns) h.world one.are);
  world = one.world ∙ ap (λ (z : World). world_after z one.turns) h.world ∙ sym (worlds_more w h.turns one.turns);
  settings = one.settings ∙ h.settings;
  acted_is = (let e = counts_more h.turns one.turns in let f = h.acted_is in let g = one.acted_is in omega (arith, e, f, g, sum_is));
}
