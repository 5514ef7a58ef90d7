-- Bytes and what they are answered.
use Rattle.std.proofs.Common.{◌≡◌, ℕ, List, [], ◌==◌, Bool, true, false, refl, ap, subst, sym, ◌∙◌}
use Rattle.std.specs.Prelude.{Some, None, MatchBool, if◌then◌else◌}
use Rattle.std.specs.Bool.{OnFalse, OnTrue}
use Rattle.std.proofs.lemmas.Bool.{MatchBool-at_true, MatchBool-at_false, OnFalse_from, OnTrue_from, false≢true}
use Rattle.ipp_wire.specs.declared.view.Head.{Head}
use Rattle.ipp_wire.specs.Message.{Group, Message, Spells, head_of}
use Rattle.ipp_wire.specs.Bare.{bare}
use Rattle.ipp_wire.specs.Fault.{IsMalformed}
use Rattle.queue_types.specs.Settings.{SettingValues}
use Rattle.queue_core.specs.Crash.{Carries, untaken}
use Rattle.queue_core.specs.World.{World}
use Rattle.queue_types.specs.declared.event.Reply.{Reply}
use Rattle.queue_types.specs.declared.event.Reply.TheVariants.{Refused, Done, Jobs, Printer}
use Rattle.ipp_reply.specs.Unsupported.{Unsupported, nothing}
use Rattle.ipp_reply.specs.Wanted.{Rows}
use Rattle.ipp_reply.specs.Reply.{reply_of, with_groups}
use Rattle.ipp_ops.specs.Answer.{IsReplyTo, Answers, AskedBy, BringsReply, Fails, IsBareAnswer, IsRequestIn, IsVerdictOn, SpellsUnlessFault, bare_fault, bare_refusal, by_head, malformed, request, is_fault, is_refusal, outcome, refusal_to}
use Rattle.ipp_ops.specs.Verdict.{IsPassed, Verdict, refused, verdict}
use Rattle.ipp_request.specs.Reading.{head_refusal}
use Rattle.ipp_ops.proofs.Crashes.{carries_asked}
use Rattle.ipp_ops.proofs.Faults.{answer_keeps, answer_tells, refusal_tells}

-- ---- a bare reply

same_twice : (b : Bool) (gs : List Group) → (if b then gs else gs) ≡ gs
same_twice true gs = refl
same_twice false gs = refl

-- a refusal with nothing listed is one
nothing_listed : (code : ℕ) (h : Head) (s : SettingValues) (now : ℕ) → refusal_to h code nothing s now ≡ bare h code
nothing_listed code h s now = ap (λ (gs : List Group). with_groups (bare h code) gs) (same_twice (code == 0x040B) [])

bare_spelled : (code : ℕ) (h : Head) (s : SettingValues) (now : ℕ) (out : List ℕ) → Spells (bare h code) out → Spells (refusal_to h code nothing s now) out
bare_spelled code h s now out spelled = subst (λ (m : Message). Spells m out) (sym (nothing_listed code h s now)) spelled

bare_of : (h : Head) (b : List ℕ) (code : ℕ) (out : List ℕ) → h ≡ head_of b → Spells (bare h code) out → Spells (bare (head_of b) code) out
bare_of h b code out e spelled = subst (λ (x : Head). Spells (bare x code) out) e spelled

-- to bytes whose head is refused
pub head_refused : (h : Head) (b : List ℕ) (code : ℕ) (out : List ℕ) → h ≡ head_of b → Some code ≡ head_refusal h → Spells (bare h code) out → IsBareAnswer b out
head_refused h b code out e found spelled = bare_refusal code (by_head code (ap head_refusal (sym e) ∙ sym found)) (bare_of h b code out e spelled)

-- to bytes that spell no message
pub malformed_refused : (h : Head) (b : List ℕ) (out : List ℕ) → h ≡ head_of b → None ≡ head_refusal h → IsMalformed b → Spells (bare h 0x0400) out → IsBareAnswer b out
malformed_refused h b out e found unspelled spelled = bare_refusal 0x0400 (malformed (ap head_refusal (sym e) ∙ sym found) unspelled) (bare_of h b 0x0400 out e spelled)

-- where a fault came
pub request_fails : (h : Head) (b : List ℕ) (m : Message) (out : List ℕ) → h ≡ head_of b → IsRequestIn b m → Spells (bare h 0x0505) out → Fails b out
request_fails h b m out e is spelled = record { supported = is.supported; spelled = bare_of h b 0x0505 out e spelled }

-- ---- a fault or none

where_fault : (P Q : Type 0) (b : Bool) → b ≡ true → P → MatchBool b P Q
where_fault P Q true e p = p
where_fault P Q false e p = absurd (cc)

where_none : (P Q : Type 0) (b : Bool) → b ≡ false → Q → MatchBool b P Q
where_none P Q true e q = absurd (cc)
where_none P Q false e q = q

fails_told : (b out : List ℕ) (P Q : Type 0) → Fails b out → P → MatchBool (is_fault out) P Q
fails_told b out P Q fails p = where_fault P Q (is_fault out) (ap is_fault fails.spelled.bytes) p

answer_brings : (w : World) (now : ℕ) (b : List ℕ) (new : World) (out : List ℕ) → Answers w now b new out → BringsReply w now b new out
answer_brings w now b new out a = where_none _ _ (is_fault out) (answer_tells w now b new out a) a

bare_brings : (w : World) (now : ℕ) (b out : List ℕ) → IsBareAnswer b out → BringsReply w now b w out
bare_brings w now b out (bare_refusal code on spelled) =
    answer_brings w now b w out (record { verdict = refused code nothing; on_bytes = on; world = refl; spelled = bare_spelled code (head_of b) w.settings now out spelled })
bare_brings w now b out (bare_fault fails) = fails_told b out _ _ fails (fails, refl)

-- ---- a book and the answer

-- a book that stood for the queue w stands for one that out brings, and a crash leaves what the bytes ask done or not done, which is open only where out tells of a fault
abbrev Answered : List ℕ → SettingValues → ℕ → (World → Type 0) → (World → World → Type 0) → (World → World → Type 0) → World → List ℕ → Type 0
Answered b s now stands before after w out = (new : World) × (s ≡ w.settings → BringsReply w now b new out) × stands new × Carries before after (AskedBy b) (is_fault out ≡ true) now w new

-- it was left alone
pub bare_answered : (b : List ℕ) (s : SettingValues) (now : ℕ) (stands : World → Type 0) (before : World → World → Type 0) (w : World) (out : List ℕ) → IsBareAnswer b out → stands w → Answered b s now stands before before w out
bare_answered b s now stands before w out bare st = (w, λ set. bare_brings w now b out bare, st, λ v left. (v, left, untaken refl refl))

-- a fault came
pub undone_answered : {failed : Type 0} (b : List ℕ) (m : Message) (s : SettingValues) (now : ℕ) (stands : World → Type 0) (before after : World → World → Type 0) (w new : World) (out : List ℕ)
    → IsRequestIn b m → Fails b out → new ≡ w → stands new → Carries before after (IsPassed (verdict m)) failed now w new → Answered b s now stands before after w out
undone_answered b m s now stands before after w new out is fails same st carries = (
  new,
  λ set. subst (λ (u : World). BringsReply w now b u out) (sym same) (bare_brings w now b out (bare_fault fails)),
  st,
  carries_asked b (verdict m) _ (is_fault out ≡ true) before after now w new (request m is.spelled) (λ err. ap is_fault fails.spelled.bytes) carries,
)

message_answers : (h : Head) (m : Message) (b out : List ℕ) (w new : World) (now : ℕ) → h ≡ head_of b → IsRequestIn b m → new ≡ (outcome (verdict m) h w now).world → Spells (outcome (verdict m) h w now).reply out → Answers w now b new out
message_answers h m b out w new now e is made spelled = record {
  verdict = verdict m;
  on_bytes = request m is.spelled;
  world = made ∙ ap (λ (x : Head). (outcome (verdict m) x w now).world) e;
  spelled = subst (λ (x : Head). Spells (outcome (verdict m) x w now).reply out) e spelled;
}

-- the message was done
pub done_answered : (h : Head) (b : List ℕ) (m : Message) (s : SettingValues) (now : ℕ) (stands : World → Type 0) (before after : World → World → Type 0) (w new : World) (out : List ℕ)
    → h ≡ head_of b → IsRequestIn b m → new ≡ (outcome (verdict m) h w now).world → (s ≡ w.settings → Spells (outcome (verdict m) h w now).reply out)
    → stands new → Carries before after (IsPassed (verdict m)) (false ≡ true) now w new → Answered b s now stands before after w out
done_answered h b m s now stands before after w new out e is made reply st carries = (
  new,
  λ set. answer_brings w now b new out (message_answers h m b out w new now e is made (reply set)),
  st,
  carries_asked b (verdict m) (false ≡ true) (is_fault out ≡ true) before after now w new (request m is.spelled) (λ err. absurd (false≢true err)) carries,
)

-- ---- what refuses the bytes

refusal_told : (b out : List ℕ) (s : SettingValues) (now code : ℕ) (u : Unsupported) → IsVerdictOn b (refused code u) → Spells (refusal_to (head_of b) code u s now) out → SpellsUnlessFault b (refusal_to (head_of b) code u s now) out
refusal_told b out s now code u on spelled = where_none _ _ (is_fault out) (refusal_tells b code u s now out on spelled) spelled

pub message_told : (h : Head) (b out : List ℕ) (s : SettingValues) (now code : ℕ) (u : Unsupported) → h ≡ head_of b → IsVerdictOn b (refused code u) → Spells (refusal_to h code u s now) out → SpellsUnlessFault b (refusal_to (head_of b) code u s now) out
message_told h b out s now code u e on spelled = refusal_told b out s now code u on (subst (λ (x : Head). Spells (refusal_to x code u s now) out) e spelled)

same_refusal : (b out : List ℕ) (s : SettingValues) (now code : ℕ) (u : Unsupported) (c : ℕ) → refused c nothing ≡ refused code u → Spells (bare (head_of b) c) out → Spells (refusal_to (head_of b) code u s now) out
same_refusal b out s now code u c e spelled =
    let codes : c ≡ code = cc in
    let lists : nothing ≡ u = cc in
    subst (λ (x : Unsupported). Spells (refusal_to (head_of b) code x s now) out) lists
    (subst (λ (x : ℕ). Spells (refusal_to (head_of b) x nothing s now) out) codes (bare_spelled c (head_of b) s now out spelled))

pub bare_told : (b out : List ℕ) (s : SettingValues) (now code : ℕ) (u : Unsupported) → ((b : List ℕ) (v w : Verdict) → IsVerdictOn b v → IsVerdictOn b w → v ≡ w) → IsBareAnswer b out → IsVerdictOn b (refused code u) → SpellsUnlessFault b (refusal_to (head_of b) code u s now) out
bare_told b out s now code u one (bare_refusal c given spelled) on = refusal_told b out s now code u on (same_refusal b out s now code u c (one b (refused c nothing) (refused code u) given on) spelled)
bare_told b out s now code u one (bare_fault fails) on = fails_told b out _ _ fails fails

-- ---- what an answer tells

kept : (fault : Bool) (w : World) (now : ℕ) (b : List ℕ) (new : World) (out : List ℕ) → MatchBool fault (Fails b out × (new ≡ w)) (Answers w now b new out) → is_refusal out ≡ true → new ≡ w
kept true w now b new out m e = m.1
kept false w now b new out m e = answer_keeps w now b new out m e

pub answered : (b : List ℕ) (s : SettingValues) (now : ℕ) (stood stands : World → Type 0) (before after : World → World → Type 0) (out : List ℕ) → ((w : World) → stood w → Answered b s now stands before after w out)
    → OnFalse (is_fault out) ((w : World) → stood w → s ≡ w.settings → (new : World) × Answers w now b new out × stands new)
answered b s now stood stands before after out h = OnFalse_from (is_fault out) _ (λ none w st set. let a = h w st in (a.0, MatchBool-at_false _ _ none (a.1 set), a.2))

pub failed : (b : List ℕ) (s : SettingValues) (now : ℕ) (stood stands : World → Type 0) (before after : World → World → Type 0) (out : List ℕ) → ((w : World) → stood w → Answered b s now stands before after w out)
    → OnTrue (is_fault out) ((w : World) → stood w → s ≡ w.settings → Fails b out × stands w)
failed b s now stood stands before after out h = OnTrue_from (is_fault out) _ (λ fault w st set.
    let a = h w st in
    let f = MatchBool-at_true _ _ fault (a.1 set) in
    (f.0, subst stands f.1 a.2))

pub refused_keeps : (b : List ℕ) (s : SettingValues) (now : ℕ) (stood stands : World → Type 0) (before after : World → World → Type 0) (out : List ℕ) → ((w : World) → stood w → Answered b s now stands before after w out)
    → OnTrue (is_refusal out) ((w : World) → stood w → s ≡ w.settings → stands w)
refused_keeps b s now stood stands before after out h = OnTrue_from (is_refusal out) _ (λ refusal w st set. let a = h w st in subst stands (kept (is_fault out) w now b a.0 out (a.1 set) refusal) a.2)

-- what the head refuses is told as it is, and never as a fault
head_tells : (fault : Bool) (b out : List ℕ) (s : SettingValues) (now code : ℕ) → head_refusal (head_of b) ≡ Some code → MatchBool fault (Fails b out) (Spells (refusal_to (head_of b) code nothing s now) out) → Spells (bare (head_of b) code) out
head_tells true b out s now code e fails = let none = fails.supported in absurd (cc)
head_tells false b out s now code e spelled = subst (λ (m : Message). Spells m out) (nothing_listed code (head_of b) s now) spelled

pub head_told : (b out : List ℕ) (s : SettingValues) (now : ℕ) → ((code : ℕ) (u : Unsupported) → IsVerdictOn b (refused code u) → SpellsUnlessFault b (refusal_to (head_of b) code u s now) out) → (code : ℕ) → head_refusal (head_of b) ≡ Some code → Spells (bare (head_of b) code) out
head_told b out s now told code e = head_tells (is_fault out) b out s now code e (told code nothing (by_head code e))

malformed_tells : (fault : Bool) (b out : List ℕ) (s : SettingValues) (now : ℕ) → MatchBool fault (Fails b out) (Spells (refusal_to (head_of b) 0x0400 nothing s now) out) → MatchBool fault (Fails b out) (Spells (bare (head_of b) 0x0400) out)
malformed_tells true b out s now fails = fails
malformed_tells false b out s now spelled = subst (λ (m : Message). Spells m out) (nothing_listed 0x0400 (head_of b) s now) spelled

pub malformed_told : (b out : List ℕ) (s : SettingValues) (now : ℕ) → ((code : ℕ) (u : Unsupported) → IsVerdictOn b (refused code u) → SpellsUnlessFault b (refusal_to (head_of b) code u s now) out) → head_refusal (head_of b) ≡ None → IsMalformed b → SpellsUnlessFault b (bare (head_of b) 0x0400) out
malformed_told b out s now told none unspelled = malformed_tells (is_fault out) b out s now (told 0x0400 nothing (malformed none unspelled))

-- ---- a reply

-- each reply of the machine's is one to the head
pub each_replies : (r : Reply) (h : Head) (rows : Rows) (u : Unsupported) (s : SettingValues) (now : ℕ) (out : List ℕ) → Spells (reply_of r h rows u s now) out → IsReplyTo h out
each_replies (Refused code) h rows u s now out spelled = record { code = _; groups = _; spelled = spelled }
each_replies Done h rows u s now out spelled = record { code = _; groups = _; spelled = spelled }
each_replies (Jobs js) h rows u s now out spelled = record { code = _; groups = _; spelled = spelled }
each_replies (Printer state queued accepting) h rows u s now out spelled = record { code = _; groups = _; spelled = spelled }
each_replies _ h rows u s now out spelled = record { code = 0x0505; groups = []; spelled = spelled }
