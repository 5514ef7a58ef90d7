-- What a request leaves of a book, where a crash may come at any moment.
use Rattle.std.proofs.Common.{◌≡◌, ℕ, List, Result, Ok, Err, Some, refl, subst, sym}
use Rattle.std.specs.Prelude.{IfOk, IsErr, OnErr, OnOk, Vec}
use Rattle.ipp_wire.specs.Message.{Spells}
use Rattle.queue_types.specs.Event.{Call, Event, ask}
use Rattle.queue_types.specs.Settings.{SettingValues}
use Rattle.queue_types.specs.declared.event.Reply.TheVariants.{Refused}
use Rattle.queue_core.specs.Crash.{Carries, taken, untaken}
use Rattle.queue_core.specs.Machine.{step}
use Rattle.queue_core.specs.World.{World}
use Rattle.queue_core.proofs.Crashes.{Stays, carries_by}
use Rattle.ipp_reply.specs.Reply.{reply_of}
use Rattle.ipp_reply.specs.Unsupported.{Unsupported}
use Rattle.ipp_reply.specs.Wanted.{Rows, no_rows}
use Rattle.ipp_ops.specs.declared.answering.Context.{Context}
use Rattle.ipp_ops.specs.Answer.{AskedBy, Asks, BringsOutcome, IsVerdictOn, calls, refusal_to, reply_in}
use Rattle.ipp_ops.specs.Verdict.{IsPassed, Verdict, passed, refused}

-- ---- a message

-- a book that stood for the queue w stands for one that r brings, and a crash leaves the verdict done or not done, which is open only where r is a fault
abbrev Done : {Z F : Type 0} → Verdict → Context → (World → Type 0) → (World → World → Type 0) → (World → World → Type 0) → World → Result (Vec ℕ Z) F → Type 0
Done v c stands before after w r = (new : World) × BringsOutcome v c w new r × stands new × Carries before after (IsPassed v) (IsErr r) c.now w new

-- a book that was left alone
pub untouched : {Z F : Type 0} (r : Result (Vec ℕ Z) F) (v : Verdict) (c : Context) (stands : World → Type 0) (before : World → World → Type 0) → IsErr r
    → (w : World) → stands w → Done v c stands before before w r
untouched (Ok out) v c stands before failed w st = absurd (cc)
untouched (Err f) v c stands before failed w st = (w, refl, st, λ v left. (v, left, untaken refl refl))

-- a refused request does nothing
pub refused_done : {Z F : Type 0} (r : Result (Vec ℕ Z) F) (code : ℕ) (u : Unsupported) (c : Context) (stands : World → Type 0) (before : World → World → Type 0)
    → IfOk r (λ out. Spells (reply_in c (Refused code) no_rows u) out.items) → (w : World) → stands w → Done (refused code u) c stands before before w r
refused_done (Ok out) code u c stands before spelled w st =
    (w, (refl, λ set. subst (λ (x : SettingValues). Spells (refusal_to c.head code u x c.now) out.items) set spelled), st, λ v left. (v, left, untaken refl refl))
refused_done (Err f) code u c stands before spelled w st = (w, refl, st, λ v left. (v, left, untaken refl refl))

-- a call was taken, or a fault came
pub passed_done : {Z F : Type 0} (r : Result (Vec ℕ Z) F) (caller : List ℕ) (call : Call) (rows : Rows) (u : Unsupported) (c : Context) (stands made : World → Type 0) (before after : World → World → Type 0) (live : Type 0)
    → IfOk r (λ out. (w : World) → stands w → Spells (reply_in c (step w c.now (ask caller call)).reply rows u) out.items)
    → IfOk r (λ out. (w : World) → stands w → made (step w c.now (ask caller call)).world) → OnOk r live → ((w v : World) → live → made w → after w v)
    → OnErr r ((w : World) → stands w → made w) → OnErr r (Stays stands before after (λ e. e ≡ ask caller call) (IsErr r) c.now)
    → (w : World) → stands w → Done (passed caller call rows u) c made before after w r
passed_done (Ok out) caller call rows u c stands made before after live reply world is_live lasts kept left w st =
    let new = (step w c.now (ask caller call)).world in
    (new, (refl, λ set. subst (λ (x : SettingValues). Spells (reply_of (step w c.now (ask caller call)).reply c.head rows u x c.now) out.items) set (reply w st)), world w st, λ v was. (new, lasts _ _ is_live (world w st), taken (ask caller call) refl refl refl))
passed_done (Err f) caller call rows u c stands made before after live reply world is_live lasts kept left w st = (w, refl, kept w st, λ v was. left w v st was)

-- ---- the bytes

passed_asks : (b : List ℕ) (verdict : Verdict) (e : Event) → IsVerdictOn b verdict → IsPassed verdict e → Asks b (Some e)
passed_asks b (refused code u) e on is = absurd is
passed_asks b (passed caller call rows u) e on is = subst (λ (z : Event). Asks b (Some z)) (sym is) (calls caller call rows u on)

-- what was asked by a message was asked by its bytes
pub carries_asked : (b : List ℕ) (verdict : Verdict) (failed told : Type 0) (before after : World → World → Type 0) (now : ℕ) (w u : World) → IsVerdictOn b verdict → (failed → told)
    → Carries before after (IsPassed verdict) failed now w u → Carries before after (AskedBy b) told now w u
carries_asked b verdict failed told before after now w u on tells carries = carries_by before after (IsPassed verdict) (AskedBy b) failed told now w u (λ e is. passed_asks b verdict e on is) tells carries
