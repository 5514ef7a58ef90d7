-- What the parts of one turn leave: of the bytes, of what is written, and of the queue; over a book beside which a crash left `before` the part, and leaves `after` it.
use Rattle.std.specs.Prelude.{◌≡◌, ◌≢◌, ◌<◌, ◌⊎◌, ◌==◌, ◌||◌, Bool, true, false, ℕ, List, [], ◌∷◌, ◌++◌, Option, Some, IfSome, Result, Ok, Err, if◌then◌else◌, ⊤}
use Rattle.std.specs.Io.KnownBytes.{Appends, Consumes}
use Rattle.queue_core.specs.Crash.{Carries}
use Rattle.queue_core.specs.World.{World}
use Rattle.http_wire.specs.Bodies.{IsBody, EndsInBody}
use Rattle.http_head.specs.Ends.{is_unavailable}
use Rattle.http_wire.specs.Responses.{interim_response, success_response, last_response, WritesFront}
use Rattle.http_head.specs.declared.end.Finish.{Finish}
use Rattle.http_head.specs.declared.end.Finish.TheVariants.{Refused}
use Rattle.http_head.specs.declared.end.Refusal.{Refusal}
use Rattle.http_head.specs.declared.end.Refusal.TheVariants.{ServiceUnavailable}
use Rattle.http_head.specs.declared.plan.Plan.{Plan}
use Rattle.http_head.specs.declared.target.Target.{Target}
use Rattle.http_front.specs.Places.{AsksFor}
use Rattle.http_front.specs.Turns.{Turn, IsTurn, IsAnswered, acts, acts_on, closes_at, last_request, answer_bytes, request_bytes}
use Rattle.http_front.specs.Ends.{Declines, IsEnd, IsBegun}
use Rattle.http_front.specs.Connections.{Worked}
use Rattle.http_front.specs.Crash.{AsksUnlessDeclined, CarriesAll, FailsUnlessDeclined}
use Rattle.http_front.specs.declared.outcome.Replied.{Replied}
use Rattle.http_front.specs.declared.outcome.Replied.TheVariants.{Answered as ReplyAnswered, Declined as ReplyDeclined}
use Rattle.http_front.specs.declared.outcome.Turned.{Turned}
use Rattle.http_front.specs.declared.outcome.Turned.TheVariants.{Answered, Ended}
use Rattle.http_front.specs.declared.outcome.ServeCause.TheVariants.{Book, Read}
use Rattle.http_front.specs.declared.outcome.Stopped.{Stopped}
use Rattle.http_front.specs.declared.outcome.Untaken.{Untaken}
use Rattle.http_front.specs.declared.outcome.Untaken.TheVariants.{Ended as UntakenEnded, Stopped as UntakenStopped}

-- ---- a whole request

-- it is answered in the queue w, which comes to u: under this media type, by this reply
pub record IsReply (now : ℕ) (w u : World) (target : Target) (content : List ℕ) (acted fault : Bool) : Type 0 where
  pub media_type : List ℕ
  pub reply : List ℕ
  pub answered : IsAnswered now w target content fault media_type reply u
  pub acted_is : acted ≡ acts_on target

-- it has no success, or can't be served
abbrev pub IsDeclined : World → Target → List ℕ → Refusal → Type 0
IsDeclined w target content r = Declines w target content r ⊎ (r ≡ ServiceUnavailable)

-- it was answered, is to be declined, or writing its answer was broken off; so the queue came from w to u, and the writer's bytes from v to x
abbrev pub IsReplied : ℕ → World → World → Target → List ℕ → Bool → Option (List ℕ) → Option (List ℕ) → Result Replied Stopped → Type 0
IsReplied now w u target content closes v x (Ok (ReplyAnswered tally)) =
    (r : IsReply now w u target content tally.acted tally.is_fault) × Appends v x (success_response r.media_type r.reply closes)
IsReplied now w u target content closes v x (Ok (ReplyDeclined r)) = IsDeclined w target content r × Appends v x [] × (u ≡ w)
IsReplied now w u target content closes v x (Err f) =
    (r : IsReply now w u target content f.tally.acted f.tally.is_fault) × WritesFront v x (success_response r.media_type r.reply closes)

-- and a crash leaves what goes with its event, unless it is to be declined
abbrev pub IsRepliedOver : (before after : World → World → Type 0) → ℕ → World → World → Target → List ℕ → Bool → Option (List ℕ) → Option (List ℕ) → Result Replied Stopped → Type 0
IsRepliedOver before after now w u target content closes v x result =
    IsReplied now w u target content closes v x result × Carries before after (AsksUnlessDeclined target content result) (FailsUnlessDeclined result) now w u

-- ---- an end

-- its response was written, or writing it was broken off
abbrev pub IsClosed : Finish → Option (List ℕ) → Option (List ℕ) → Result Turned Stopped → Type 0
IsClosed end v x (Ok t) = (t ≡ Ended end) × Appends v x (last_response end)
IsClosed end v x (Err f) = (f.tally.acted ≡ false) × (f.tally.is_fault ≡ is_unavailable end) × WritesFront v x (last_response end)

-- ---- behind a head

-- of a request with that plan, which stood in these bytes, no body was taken: it ends the connection, or there was no memory for it; or writing the leave to send it was
-- broken off, or a read failed behind the whole leave. The writer's bytes went from v to x
abbrev pub IsUntaken : Plan → Option (List ℕ) → Option (List ℕ) → Option (List ℕ) → Untaken → Type 0
IsUntaken plan r v x (UntakenEnded end) = (IfSome r (λ bytes. EndsInBody plan.framing bytes end) ⊎ (end ≡ Refused ServiceUnavailable)) × Appends v x (interim_response plan)
IsUntaken plan r v x (UntakenStopped f) =
    (f.tally.acted ≡ false) × (f.tally.is_fault ≡ false) × WritesFront v x (interim_response plan) × (f.cause ≡ Read → Appends v x (interim_response plan))

-- how a connection may end behind a head with that plan
pub data IsPlanEnd (w : World) (plan : Plan) (bytes : List ℕ) : Finish → Type 0 where
  in_body : (end : Finish) → EndsInBody plan.framing bytes end → IsPlanEnd w plan bytes end
  declined : (raw content rest : List ℕ) (r : Refusal) → bytes ≡ raw ++ rest → IsBody plan.framing raw content → Declines w plan.target content r
      → IsPlanEnd w plan bytes (Refused r)
  unavailable : IsPlanEnd w plan bytes (Refused ServiceUnavailable)

-- request k was answered behind its head, and the bytes that are left went from r to s
pub record IsPlanTurn (before after : World → World → Type 0) (now k : ℕ) (w u : World) (plan : Plan) (r s : Option (List ℕ)) (acted fault closes : Bool) : Type 0 where
  pub raw : List ℕ
  pub content : List ℕ
  pub taken : Consumes r s raw
  pub body : IsBody plan.framing raw content
  pub reply : IsReply now w u plan.target content acted fault
  pub closes_is : closes ≡ (plan.closes || (k == last_request))
  pub carries : Carries before after (λ e. AsksFor plan.target content (Some e)) (fault ≡ true) now w u

-- what may have been begun behind a head with that plan; whether the request acted, and whether a fault was told
pub data IsPlanBegun (before after : World → World → Type 0) (now k : ℕ) (w u : World) (plan : Plan) (r s : Option (List ℕ)) : List ℕ → Bool → Bool → Type 0 where
  -- the response before the body
  interim : u ≡ w → Carries before after (λ e. ⊥) ⊥ now w u → IsPlanBegun before after now k w u plan r s (interim_response plan) false false
  -- an answer
  answered : (acted fault closes : Bool) (t : IsPlanTurn before after now k w u plan r s acted fault closes)
      → IsPlanBegun before after now k w u plan r s (interim_response plan ++ success_response t.reply.media_type t.reply.reply closes) acted fault
  -- an end
  ended : (end : Finish) → IfSome r (λ bytes. IsPlanEnd w plan bytes end) → u ≡ w → Carries before after (λ e. ⊥) ⊥ now w u
      → IsPlanBegun before after now k w u plan r s (interim_response plan ++ last_response end) false (is_unavailable end)

-- what a turn leaves behind its head: it took the bytes that are left from r to s, the writer's from v to x, and the queue from w to u
abbrev pub IsPlanned : (before after : World → World → Type 0) → ℕ → ℕ → World → World → Plan → Option (List ℕ) → Option (List ℕ) → Option (List ℕ) → Option (List ℕ)
    → Result Turned Stopped → Type 0
IsPlanned before after now k w u plan r s v x (Ok (Answered tally closes)) =
    (t : IsPlanTurn before after now k w u plan r s tally.acted tally.is_fault closes)
    × Appends v x (interim_response plan ++ success_response t.reply.media_type t.reply.reply closes)
IsPlanned before after now k w u plan r s v x (Ok (Ended end)) =
    IfSome r (λ bytes. IsPlanEnd w plan bytes end) × Appends v x (interim_response plan ++ last_response end) × (u ≡ w) × Carries before after (λ e. ⊥) ⊥ now w u
IsPlanned before after now k w u plan r s v x (Err f) =
    (begun : List ℕ) × IsPlanBegun before after now k w u plan r s begun f.tally.acted f.tally.is_fault × WritesFront v x begun

-- ---- one turn

-- request k was answered, and ends the connection or not
pub record IsTurnAnswered (before after : World → World → Type 0) (now k : ℕ) (w u : World) (r s v x : Option (List ℕ)) (acted fault closes : Bool) : Type 0 where
  pub turn : Turn
  pub is : IsTurn now w turn
  pub acted_is : acted ≡ acts turn
  pub fault_is : fault ≡ turn.is_fault
  pub closes_is : closes ≡ closes_at k turn
  pub taken : Consumes r s (request_bytes turn)
  pub written : Appends v x (answer_bytes k turn)
  pub world : u ≡ turn.after
  pub carries : CarriesAll before after now (turn ∷ []) w u

-- where a request was answered, it tells whether by a fault
abbrev pub TellsFault : List Turn → Bool → Type 0
TellsFault [] fault = ⊤
TellsFault (t ∷ ts) fault = fault ≡ t.is_fault

-- a turn was stopped: it had answered one request, or none, and a front of what was begun was written
pub record IsTurnStopped (before after : World → World → Type 0) (now k : ℕ) (w u : World) (r v x : Option (List ℕ)) (acted fault : Bool) : Type 0 where
  pub one : Worked 1 now w u (if acted then 1 else 0)
  pub begun : IfSome r (λ bytes. (begun : List ℕ) × IsBegun k w bytes begun one.turns fault × WritesFront v x begun)
  pub fault_is : TellsFault one.turns fault
  pub carries : CarriesAll before after now one.turns w u

-- what one turn leaves: it took the bytes that are left from r to s, the writer's from v to x, and the queue from w to u
abbrev pub IsTurned : (before after : World → World → Type 0) → ℕ → ℕ → World → World → Option (List ℕ) → Option (List ℕ) → Option (List ℕ) → Option (List ℕ)
    → Result Turned Stopped → Type 0
IsTurned before after now k w u r s v x (Ok (Answered tally closes)) = IsTurnAnswered before after now k w u r s v x tally.acted tally.is_fault closes
IsTurned before after now k w u r s v x (Ok (Ended end)) =
    IfSome r (λ bytes. (last : List ℕ) × IsEnd w bytes end last × Appends v x last) × (u ≡ w) × CarriesAll before after now [] w u
IsTurned before after now k w u r s v x (Err f) = IsTurnStopped before after now k w u r v x f.tally.acted f.tally.is_fault

-- the last request that a connection may have ends it
abbrev pub ClosesLast : ℕ → Result Turned Stopped → Type 0
ClosesLast k (Ok (Answered tally closes)) = closes ≡ false → k < last_request
ClosesLast k (Ok (Ended end)) = ⊤
ClosesLast k (Err f) = ⊤

-- ---- faults

-- what was broken off tells of no fault, and the book did not fail inside a document
abbrev pub IsStopFaultless : Stopped → Type 0
IsStopFaultless stopped = (stopped.tally.is_fault ≡ false) × (stopped.cause ≢ Book)

-- a whole request met no fault
abbrev pub IsReplyFaultless : Result Replied Stopped → Type 0
IsReplyFaultless (Ok (ReplyAnswered tally)) = tally.is_fault ≡ false
IsReplyFaultless (Ok (ReplyDeclined r)) = is_unavailable (Refused r) ≡ false
IsReplyFaultless (Err f) = IsStopFaultless f

-- a turn met no fault
abbrev pub IsTurnFaultless : Result Turned Stopped → Type 0
IsTurnFaultless (Ok (Answered tally closes)) = tally.is_fault ≡ false
IsTurnFaultless (Ok (Ended end)) = is_unavailable end ≡ false
IsTurnFaultless (Err f) = IsStopFaultless f
