-- The parts of one turn, put together.
use Rattle.std.proofs.Common.{◌≡◌, ◌⊎◌, Option, ℕ, List, [], ◌∷◌, ◌++◌, Bool, false, None, Some, IfSome, Ok, Err, refl, sym, ap, ◌∙◌, subst, inl, inr, append_assoc, append-nil, if◌then◌else◌}
use Rattle.std.specs.Prelude.{Result}
use Rattle.std.specs.Io.KnownBytes.{Appends, Consumes}
use Rattle.std.proofs.KnownBytes.{Appends-nil, Appends-trans, Consumes-trans}
use Rattle.httparse.specs.Grammar.{RequestHead, print_request}
use Rattle.queue_core.specs.Crash.{Carries}
use Rattle.queue_core.specs.World.{World}
use Rattle.http_wire.specs.Bodies.{IsBody, EndsInBody}
use Rattle.http_head.specs.Head.{BeginsHead, EndsWithoutHead}
use Rattle.http_head.specs.Checks.{head_of, plan_of, refusal_of}
use Rattle.http_head.specs.Received.{TakesHead}
use Rattle.http_head.specs.Ends.{is_unavailable}
use Rattle.http_wire.specs.Responses.{interim_response, success_response, last_response, WritesFront}
use Rattle.http_head.specs.declared.end.Finish.{Finish}
use Rattle.http_head.specs.declared.end.Finish.TheVariants.{Refused}
use Rattle.http_head.specs.declared.end.Refusal.{Refusal}
use Rattle.http_head.specs.declared.end.Refusal.TheVariants.{ServiceUnavailable}
use Rattle.http_head.specs.declared.plan.Plan.{Plan}
use Rattle.http_head.specs.declared.framing.Framing.{Framing}
use Rattle.http_front.specs.Turns.{Turn, IsTurn, answer_bytes}
use Rattle.http_front.specs.Ends.{IsEnd, IsBegun}
use Rattle.http_front.specs.Ends.{no_head, checked, in_body, declined, unavailable, unavailable_later, nothing, interim, answered, ended}
use Rattle.http_front.specs.Turned.{IsDeclined, IsClosed, IsPlanEnd, IsPlanTurn, IsPlanBegun, IsPlanned, IsTurnFaultless, IsTurned, IsTurnStopped}
use Rattle.http_front.specs.Turned.{in_body as plan_in_body, declined as plan_declined, unavailable as plan_unavailable, interim as plan_interim, answered as plan_answered, ended as plan_ended}
use Rattle.http_front.specs.declared.outcome.Stopped.{Stopped}
use Rattle.http_front.specs.declared.outcome.Tally.{Tally}
use Rattle.http_front.specs.declared.outcome.Turned.{Turned}
use Rattle.http_front.specs.declared.outcome.Turned.TheVariants.{Answered, Ended}
use Rattle.http_front.proofs.CrashLemmas.{carries_idle, carries_no_turn, carries_none, carries_one}
use Rattle.http_front.proofs.WorkedLemmas.{worked_none, worked_one}
use Rattle.http_wire.proofs.WriteLemmas.{front_after}
use Rattle.http_front.proofs.WriteLemmas.{front_all}

-- ---- behind a head

-- a turn that was stopped with no effect
unacted : (P : Bool → Bool → Type 0) (f : Stopped) → f.tally.acted ≡ false → f.tally.is_fault ≡ false → P false false → P f.tally.acted f.tally.is_fault
unacted P f a b p = subst (λ (z : Bool). P z f.tally.is_fault) (sym a) (subst (λ (z : Bool). P false z) (sym b) p)

pub planned_unsaid : (leaves : World → World → Type 0) (now k : ℕ) (w : World) (plan : Plan) (r s v x : Option (List ℕ)) (f : Stopped) → f.tally.acted ≡ false → f.tally.is_fault ≡ false
    → WritesFront v x (interim_response plan) → IsPlanned leaves leaves now k w w plan r s v x (Err f)
planned_unsaid leaves now k w plan r s v x f a b h = (
  interim_response plan,
  unacted (λ p q. IsPlanBegun leaves leaves now k w w plan r s (interim_response plan) p q) f a b (plan_interim refl (carries_none leaves (λ e. ⊥) now w)),
  h,
)

pub planned_closed : (before after : World → World → Type 0) (now k : ℕ) (w u : World) (plan : Plan) (r s v m x : Option (List ℕ)) (end : Finish) (result : Result Turned Stopped) → u ≡ w
    → Carries before after (λ e. ⊥) ⊥ now w u → IfSome r (λ bytes. IsPlanEnd w plan bytes end) → Appends v m (interim_response plan) → IsClosed end m x result → IsPlanned before after now k w u plan r s v x result
planned_closed before after now k w u plan r s v m x end (Ok t) same left h a c =
    subst (λ (z : Turned). IsPlanned before after now k w u plan r s v x (Ok z)) (sym c.0) (h, Appends-trans v m x (interim_response plan) (last_response end) a c.1, same, left)
planned_closed before after now k w u plan r s v m x end (Err f) same left h a c = (
  interim_response plan ++ last_response end,
  subst (λ (p : Bool). IsPlanBegun before after now k w u plan r s (interim_response plan ++ last_response end) p f.tally.is_fault) (sym c.0)
      (subst (λ (p : Bool). IsPlanBegun before after now k w u plan r s (interim_response plan ++ last_response end) false p) (sym c.1) (plan_ended end h same left)),
  front_after v m x (interim_response plan) (last_response end) a c.2,
)

end_in_body : (w : World) (plan : Plan) (r : Option (List ℕ)) (end : Finish) → IfSome r (λ bytes. EndsInBody plan.framing bytes end) → IfSome r (λ bytes. IsPlanEnd w plan bytes end)
end_in_body w plan None end h = tt
end_in_body w plan (Some bytes) end h = plan_in_body end h

end_unavailable : (w : World) (plan : Plan) (r : Option (List ℕ)) → IfSome r (λ bytes. IsPlanEnd w plan bytes (Refused ServiceUnavailable))
end_unavailable w plan None = tt
end_unavailable w plan (Some bytes) = plan_unavailable

pub end_untaken : (w : World) (plan : Plan) (r : Option (List ℕ)) (end : Finish) → IfSome r (λ bytes. EndsInBody plan.framing bytes end) ⊎ (end ≡ Refused ServiceUnavailable)
    → IfSome r (λ bytes. IsPlanEnd w plan bytes end)
end_untaken w plan r end (inl h) = end_in_body w plan r end h
end_untaken w plan r end (inr is) = subst (λ (z : Finish). IfSome r (λ bytes. IsPlanEnd w plan bytes z)) (sym is) (end_unavailable w plan r)

declined_at : (w : World) (plan : Plan) (x y raw content : List ℕ) (z : Refusal) → x ≡ raw ++ y → IsBody plan.framing raw content → IsDeclined w plan.target content z → IsPlanEnd w plan x (Refused z)
declined_at w plan x y raw content z e body (inl d) = plan_declined raw content y z e body d
declined_at w plan x y raw content z e body (inr d) = subst (λ (k : Refusal). IsPlanEnd w plan x (Refused k)) (sym d) plan_unavailable

pub end_declined : (w : World) (plan : Plan) (r s : Option (List ℕ)) (raw content : List ℕ) (z : Refusal) → Consumes r s raw → IsBody plan.framing raw content → IsDeclined w plan.target content z
    → IfSome r (λ bytes. IsPlanEnd w plan bytes (Refused z))
end_declined w plan None s raw content z taken body d = tt
end_declined w plan (Some x) None raw content z taken body d = absurd taken
end_declined w plan (Some x) (Some y) raw content z taken body d = declined_at w plan x y raw content z taken body d

pub planned_answered : (before after : World → World → Type 0) (now k : ℕ) (w u : World) (plan : Plan) (r s v m x : Option (List ℕ)) (tally : Tally) (closes : Bool) → Appends v m (interim_response plan)
    → (t : IsPlanTurn before after now k w u plan r s tally.acted tally.is_fault closes) → Appends m x (success_response t.reply.media_type t.reply.reply closes) → IsPlanned before after now k w u plan r s v x (Ok (Answered tally closes))
planned_answered before after now k w u plan r s v m x tally closes a t written = (t, Appends-trans v m x (interim_response plan) (success_response t.reply.media_type t.reply.reply closes) a written)

pub planned_broken : (before after : World → World → Type 0) (now k : ℕ) (w u : World) (plan : Plan) (r s v m x : Option (List ℕ)) (f : Stopped) (closes : Bool) → Appends v m (interim_response plan)
    → (t : IsPlanTurn before after now k w u plan r s f.tally.acted f.tally.is_fault closes) → WritesFront m x (success_response t.reply.media_type t.reply.reply closes) → IsPlanned before after now k w u plan r s v x (Err f)
planned_broken before after now k w u plan r s v m x f closes a t front =
    (interim_response plan ++ success_response t.reply.media_type t.reply.reply closes, plan_answered f.tally.acted f.tally.is_fault closes t, front_after v m x (interim_response plan) (success_response t.reply.media_type t.reply.reply closes) a front)

-- ---- with the head

begins : (h : RequestHead) (x y : List ℕ) → TakesHead (Some x) (Some y) h → BeginsHead x h y
begins h x y t = record { reads = (t.valid, t.taken); short = t.short; few = t.few }

abbrev made : (before after : World → World → Type 0) (now k : ℕ) (w u : World) (h : RequestHead) (r s : Option (List ℕ)) (acted fault closes : Bool)
    → IsPlanTurn before after now k w u (plan_of (head_of h)) r s acted fault closes → Turn
made before after now k w u h r s acted fault closes p =
    record { head = h; raw = p.raw; content = p.content; is_fault = fault; media_type = p.reply.media_type; reply = p.reply.reply; after = u }

made_is : (before after : World → World → Type 0) (now k : ℕ) (w u : World) (h : RequestHead) (r q s : Option (List ℕ)) (acted fault closes : Bool) → TakesHead r q h → refusal_of (head_of h) ≡ None
    → (p : IsPlanTurn before after now k w u (plan_of (head_of h)) q s acted fault closes) → IsTurn now w (made before after now k w u h q s acted fault closes p)
made_is before after now k w u h r q s acted fault closes t passes p = record {
  head = t.valid;
  short = t.short;
  few = t.few;
  passes = passes;
  body = p.body;
  answered = p.reply.answered;
}

made_bytes : (before after : World → World → Type 0) (now k : ℕ) (w u : World) (h : RequestHead) (r s : Option (List ℕ)) (acted fault closes : Bool)
    → (p : IsPlanTurn before after now k w u (plan_of (head_of h)) r s acted fault closes)
    → interim_response (plan_of (head_of h)) ++ success_response p.reply.media_type p.reply.reply closes ≡ answer_bytes k (made before after now k w u h r s acted fault closes p)
made_bytes before after now k w u h r s acted fault closes p =
    ap (λ b. interim_response (plan_of (head_of h)) ++ success_response p.reply.media_type p.reply.reply b) p.closes_is

ended_with : (w : World) (h : RequestHead) (x y : List ℕ) (end : Finish) → BeginsHead x h y → refusal_of (head_of h) ≡ None → IsPlanEnd w (plan_of (head_of h)) y end
    → IsEnd w x end (interim_response (plan_of (head_of h)) ++ last_response end)
ended_with w h x y _ b passes (plan_in_body end e) = in_body h y end b passes e
ended_with w h x y _ b passes (plan_declined raw content rest r e body d) = declined h raw content rest r (subst (λ (l : List ℕ). BeginsHead x h l) e b) passes body d
ended_with w h x y _ b passes plan_unavailable = unavailable_later h y b passes

lift_ended : (now k : ℕ) (w u : World) (h : RequestHead) (r q v x : Option (List ℕ)) (end : Finish) → TakesHead r q h → refusal_of (head_of h) ≡ None
    → IfSome q (λ bytes. IsPlanEnd w (plan_of (head_of h)) bytes end) → Appends v x (interim_response (plan_of (head_of h)) ++ last_response end)
    → IfSome r (λ bytes. (last : List ℕ) × IsEnd w bytes end last × Appends v x last)
lift_ended now k w u h None q v x end t passes e a = tt
lift_ended now k w u h (Some b) None v x end t passes e a = absurd t.taken
lift_ended now k w u h (Some b) (Some c) v x end t passes e a = (interim_response (plan_of (head_of h)) ++ last_response end, ended_with w h b c end (begins h b c t) passes e, a)

-- what was begun behind the head, with it
begun_interim : (k : ℕ) (w : World) (h : RequestHead) (r q v x : Option (List ℕ)) → TakesHead r q h → refusal_of (head_of h) ≡ None → WritesFront v x (interim_response (plan_of (head_of h)))
    → IfSome r (λ bytes. (begun : List ℕ) × IsBegun k w bytes begun [] false × WritesFront v x begun)
begun_interim k w h None q v x t passes front = tt
begun_interim k w h (Some b) None v x t passes front = absurd t.taken
begun_interim k w h (Some b) (Some c) v x t passes front = (interim_response (plan_of (head_of h)), interim h c (begins h b c t) passes, front)

begun_answered : (before after : World → World → Type 0) (now k : ℕ) (w u : World) (h : RequestHead) (r q s v x : Option (List ℕ)) (acted fault closes : Bool) → TakesHead r q h
    → (p : IsPlanTurn before after now k w u (plan_of (head_of h)) q s acted fault closes) → WritesFront v x (interim_response (plan_of (head_of h)) ++ success_response p.reply.media_type p.reply.reply closes)
    → IfSome r (λ bytes. (begun : List ℕ) × IsBegun k w bytes begun (made before after now k w u h q s acted fault closes p ∷ []) fault × WritesFront v x begun)
begun_answered before after now k w u h None q s v x acted fault closes t p front = tt
begun_answered before after now k w u h (Some b) None s v x acted fault closes t p front = absurd t.taken
begun_answered before after now k w u h (Some b) (Some c) None v x acted fault closes t p front = absurd p.taken
begun_answered before after now k w u h (Some b) (Some c) (Some rest) v x acted fault closes t p front =
    let turn = made before after now k w u h (Some c) (Some rest) acted fault closes p in (
      answer_bytes k turn,
      answered turn rest (t.taken ∙ ap (λ l. print_request h ++ l) p.taken ∙ sym (append_assoc (print_request h) p.raw rest)),
      subst (λ (l : List ℕ). WritesFront v x l) (made_bytes before after now k w u h (Some c) (Some rest) acted fault closes p) front,
    )

begun_ended : (k : ℕ) (w : World) (h : RequestHead) (r q v x : Option (List ℕ)) (end : Finish) → TakesHead r q h → refusal_of (head_of h) ≡ None
    → IfSome q (λ bytes. IsPlanEnd w (plan_of (head_of h)) bytes end) → WritesFront v x (interim_response (plan_of (head_of h)) ++ last_response end)
    → IfSome r (λ bytes. (begun : List ℕ) × IsBegun k w bytes begun [] (is_unavailable end) × WritesFront v x begun)
begun_ended k w h None q v x end t passes e front = tt
begun_ended k w h (Some b) None v x end t passes e front = absurd t.taken
begun_ended k w h (Some b) (Some c) v x end t passes e front = (
  interim_response (plan_of (head_of h)) ++ last_response end,
  ended end (interim_response (plan_of (head_of h)) ++ last_response end) (ended_with w h b c end (begins h b c t) passes e),
  front,
)

lift_begun : (before after : World → World → Type 0) (now k : ℕ) (w u : World) (h : RequestHead) (r q s v x : Option (List ℕ)) (begun : List ℕ) (acted fault : Bool) → TakesHead r q h
    → refusal_of (head_of h) ≡ None → IsPlanBegun before after now k w u (plan_of (head_of h)) q s begun acted fault → WritesFront v x begun → IsTurnStopped before after now k w u r v x acted fault
lift_begun before after now k w u h r q s v x _ _ _ t passes (plan_interim same left) front =
    record { one = worked_none now w u 0 same refl; begun = begun_interim k w h r q v x t passes front; fault_is = tt; carries = carries_idle before after now w u left }
lift_begun before after now k w u h r q s v x _ _ _ t passes (plan_answered acted fault closes p) front =
    let turn = made before after now k w u h q s acted fault closes p in record {
      one = worked_one now w u (if acted then 1 else 0) turn (made_is before after now k w u h r q s acted fault closes t passes p) refl (ap (λ b. if b then 1 else 0) p.reply.acted_is);
      begun = begun_answered before after now k w u h r q s v x acted fault closes t p front;
      fault_is = refl;
      carries = carries_one before after now turn w u p.carries;
    }
lift_begun before after now k w u h r q s v x _ _ _ t passes (plan_ended end e same left) front =
    record { one = worked_none now w u 0 same refl; begun = begun_ended k w h r q v x end t passes e front; fault_is = tt; carries = carries_idle before after now w u left }

lift : (before after : World → World → Type 0) (now k : ℕ) (w u : World) (h : RequestHead) (r q s v x : Option (List ℕ)) (result : Result Turned Stopped) → TakesHead r q h → refusal_of (head_of h) ≡ None
    → IsPlanned before after now k w u (plan_of (head_of h)) q s v x result → IsTurned before after now k w u r s v x result
lift before after now k w u h r q s v x (Ok (Answered tally closes)) t passes p =
    let turn = made before after now k w u h q s tally.acted tally.is_fault closes p.0 in record {
      turn = turn;
      is = made_is before after now k w u h r q s tally.acted tally.is_fault closes t passes p.0;
      acted_is = p.0.reply.acted_is;
      fault_is = refl;
      closes_is = p.0.closes_is;
      taken = Consumes-trans r q s (print_request h) p.0.raw t.taken p.0.taken;
      written = subst (λ (l : List ℕ). Appends v x l) (made_bytes before after now k w u h q s tally.acted tally.is_fault closes p.0) p.1;
      world = refl;
      carries = carries_one before after now turn w u p.0.carries;
    }
lift before after now k w u h r q s v x (Ok (Ended end)) t passes p = (lift_ended now k w u h r q v x end t passes p.0 p.1, p.2, carries_idle before after now w u p.3)
lift before after now k w u h r q s v x (Err f) t passes p = lift_begun before after now k w u h r q s v x p.0 f.tally.acted f.tally.is_fault t passes p.1 p.2

pub lifted : (before after : World → World → Type 0) (now k : ℕ) (w u : World) (plan : Plan) (r q s v x : Option (List ℕ)) (result : Result Turned Stopped)
    → (h : RequestHead) × TakesHead r q h × (refusal_of (head_of h) ≡ None) × (plan ≡ plan_of (head_of h)) → IsPlanned before after now k w u plan q s v x result
    → IsTurned before after now k w u r s v x result
lifted before after now k w u plan r q s v x result h p =
    lift before after now k w u h.0 r q s v x result h.1 h.2 (subst (λ (z : Plan). IsPlanned before after now k w u z q s v x result) h.3 p)

-- ---- without a head

closed_at : (now k : ℕ) (w : World) (r v x : Option (List ℕ)) (end : Finish) → IfSome r (λ bytes. IsEnd w bytes end (last_response end)) → Appends v x (last_response end)
    → IfSome r (λ bytes. (last : List ℕ) × IsEnd w bytes end last × Appends v x last)
closed_at now k w None v x end h a = tt
closed_at now k w (Some b) v x end h a = (last_response end, h, a)

stopped_at : (k : ℕ) (w : World) (r v x : Option (List ℕ)) (end : Finish) (fault : Bool) → IfSome r (λ bytes. IsEnd w bytes end (last_response end)) → fault ≡ is_unavailable end
    → WritesFront v x (last_response end) → IfSome r (λ bytes. (begun : List ℕ) × IsBegun k w bytes begun [] fault × WritesFront v x begun)
stopped_at k w None v x end fault h b front = tt
stopped_at k w (Some c) v x end fault h b front =
    (last_response end, subst (λ (p : Bool). IsBegun k w c (last_response end) [] p) (sym b) (ended end (last_response end) h), front)

-- nothing was done
none_of : (f : Stopped) → f.tally.acted ≡ false → ◌≡◌ {A = ℕ} (if f.tally.acted then 1 else 0) 0
none_of f a = ap (λ (b : Bool). if b then 1 else 0) a

pub turned_closed : (leaves : World → World → Type 0) (now k : ℕ) (w : World) (r s v x : Option (List ℕ)) (end : Finish) (result : Result Turned Stopped)
    → IfSome r (λ bytes. IsEnd w bytes end (last_response end)) → IsClosed end v x result → IsTurned leaves leaves now k w w r s v x result
turned_closed leaves now k w r s v x end (Ok t) h c =
    subst (λ (z : Turned). IsTurned leaves leaves now k w w r s v x (Ok z)) (sym c.0) (closed_at now k w r v x end h c.1, refl, carries_no_turn leaves now w)
turned_closed leaves now k w r s v x end (Err f) h c =
    record { one = worked_none now w w _ refl (none_of f c.0); begun = stopped_at k w r v x end f.tally.is_fault h c.1 c.2; fault_is = tt; carries = carries_no_turn leaves now w }

pub end_no_head : (w : World) (r : Option (List ℕ)) (end : Finish) → IfSome r (λ bytes. EndsWithoutHead bytes end) → IfSome r (λ bytes. IsEnd w bytes end (last_response end))
end_no_head w None end h = tt
end_no_head w (Some b) end h = no_head end h

pub end_checked : (w : World) (r : Option (List ℕ)) (z : Refusal) → IfSome r (λ bytes. (h : RequestHead) × (rest : List ℕ) × BeginsHead bytes h rest × (refusal_of (head_of h) ≡ Some z))
    → IfSome r (λ bytes. IsEnd w bytes (Refused z) (last_response (Refused z)))
end_checked w None z h = tt
end_checked w (Some b) z h = checked h.0 h.1 z h.2 h.3

pub end_unserved : (w : World) (r : Option (List ℕ)) → IfSome r (λ bytes. IsEnd w bytes (Refused ServiceUnavailable) (last_response (Refused ServiceUnavailable)))
end_unserved w None = tt
end_unserved w (Some b) = unavailable

unread_at : (k : ℕ) (w : World) (r v : Option (List ℕ)) (fault : Bool) → fault ≡ false → IfSome r (λ bytes. (begun : List ℕ) × IsBegun k w bytes begun [] fault × WritesFront v v begun)
unread_at k w None v fault b = tt
unread_at k w (Some bytes) v fault b = ([], subst (λ (p : Bool). IsBegun k w bytes [] [] p) (sym b) nothing, front_all v v [] (Appends-nil v))

pub turned_unread : (leaves : World → World → Type 0) (now k : ℕ) (w : World) (r s v : Option (List ℕ)) (f : Stopped) → f.tally.acted ≡ false → f.tally.is_fault ≡ false
    → IsTurned leaves leaves now k w w r s v v (Err f)
turned_unread leaves now k w r s v f a b =
    record { one = worked_none now w w _ refl (none_of f a); begun = unread_at k w r v f.tally.is_fault b; fault_is = tt; carries = carries_no_turn leaves now w }

pub body_as : (f : Framing) (raw a b : List ℕ) → IsBody f raw a → b ≡ a → IsBody f raw b
body_as f raw a b h e = subst (λ (l : List ℕ). IsBody f raw l) (sym e) h

pub said_on : (v m x : Option (List ℕ)) (plan : Plan) → Appends v m (interim_response plan) → Appends m x [] → Appends v x (interim_response plan)
said_on v m x plan a b = subst (λ (l : List ℕ). Appends v x l) (append-nil (interim_response plan)) (Appends-trans v m x (interim_response plan) [] a b)

-- ---- faults

-- an end that met no fault tells of none
pub closed_faultless : (end : Finish) (v x : Option (List ℕ)) (result : Result Turned Stopped) → IsClosed end v x result → IsTurnFaultless result → is_unavailable end ≡ false
closed_faultless end v x (Ok t) c faultless = subst (λ (z : Turned). IsTurnFaultless (Ok z)) c.0 faultless
closed_faultless end v x (Err f) c faultless = sym c.1 ∙ faultless.0
