-- What is written over any book is framed.
use Rattle.std.proofs.Common.{◌≡◌, ◌⊎◌, ◌∙◌, inl, inr, Option, ℕ, List, [], ◌++◌, Bool, true, false, Ok, Err, IfOk, length, refl, sym, subst, if◌then◌else◌}
use Rattle.std.specs.Prelude.{Result}
use Rattle.std.specs.Io.KnownBytes.{Appends}
use Rattle.std.proofs.KnownBytes.{Appends-nil, Appends-trans}
use Rattle.http_head.specs.declared.end.End.{End}
use Rattle.http_head.specs.declared.end.Finish.{Finish}
use Rattle.http_head.specs.declared.plan.Plan.{Plan}
use Rattle.http_wire.specs.Responses.{continue_response, interim_response, last_response, success_head, success_response}
use Rattle.http_front.specs.Framed.{AreAnswered, AreFramed, IsFinal, IsFramed, IsLast, IsMediaType, IsTurnFramed, none, one_more}
use Rattle.http_front.specs.Turned.{IsClosed}
use Rattle.http_front.specs.declared.outcome.Replied.{Replied}
use Rattle.http_front.specs.declared.outcome.Replied.TheVariants.{Answered as ReplyAnswered}
use Rattle.http_front.specs.declared.outcome.Stopped.{Stopped}
use Rattle.http_front.specs.declared.outcome.Tally.{Tally}
use Rattle.http_front.specs.declared.outcome.Turned.{Turned}
use Rattle.http_front.specs.declared.outcome.Turned.TheVariants.{Answered}

-- ---- a whole request

-- an answer that is sent whole
pub framed_sent : (tally : Tally) (closes : Bool) (v x : Option (List ℕ)) (kind content : List ℕ) (result : Result Replied Stopped)
    → IsMediaType kind → IfOk result (λ r. (r ≡ ReplyAnswered tally) × Appends v x (success_response kind content closes)) → IfOk result (λ r. IsFramed closes v x r)
framed_sent tally closes v x kind content (Ok r) is sent = subst (λ (z : Replied). IsFramed closes v x z) (sym sent.0) (kind, content, is, sent.1)
framed_sent tally closes v x kind content (Err f) is sent = tt

-- a head, and as many bytes as it tells
pub framed_document : (tally : Tally) (closes : Bool) (v m x : Option (List ℕ)) (kind : List ℕ) (octets sent : ℕ) → IsMediaType kind → Appends v m (success_head kind octets closes) → sent ≡ octets
    → (bytes : List ℕ) × (length bytes ≡ sent) × Appends m x bytes → IsFramed closes v x (ReplyAnswered tally)
framed_document tally closes v m x kind octets sent is head same told = (
  kind,
  told.0,
  is,
  Appends-trans v m x (success_head kind (length told.0) closes) told.0 (subst (λ (n : ℕ). Appends v m (success_head kind n closes)) (sym (told.1 ∙ same)) head) told.2,
)

-- ---- one turn

interim_is : (plan : Plan) → (interim_response plan ≡ []) ⊎ (interim_response plan ≡ continue_response)
interim_is plan = at plan.expects
  where
    at : (b : Bool) → ((if b then continue_response else []) ≡ []) ⊎ ((if b then continue_response else []) ≡ continue_response)
    at true = inr refl
    at false = inl refl

pub framed_answered : (plan : Plan) (tally : Tally) (closes : Bool) (v m x : Option (List ℕ)) → Appends v m (interim_response plan) → IsFramed closes m x (ReplyAnswered tally) → IsTurnFramed v x (Answered tally closes)
framed_answered plan tally closes v m x told answer = (
  interim_response plan,
  success_response answer.0 answer.1 closes,
  interim_is plan,
  (answer.0, answer.1, answer.2, refl),
  Appends-trans v m x (interim_response plan) (success_response answer.0 answer.1 closes) told answer.3,
)

pub framed_closed : (plan : Plan) (end : Finish) (v m x : Option (List ℕ)) (result : Result Turned Stopped) → Appends v m (interim_response plan) → IsClosed end m x result → IfOk result (λ t. IsTurnFramed v x t)
framed_closed plan end v m x (Ok t) told closed =
    subst (λ (z : Turned). IsTurnFramed v x z) (sym closed.0) (interim_response plan, last_response end, interim_is plan, refl, Appends-trans v m x (interim_response plan) (last_response end) told closed.1)
framed_closed plan end v m x (Err f) told closed = tt

-- with no leave before it
pub framed_bare : (end : Finish) (v x : Option (List ℕ)) (result : Result Turned Stopped) → IsClosed end v x result → IfOk result (λ t. IsTurnFramed v x t)
framed_bare end v x (Ok t) closed = subst (λ (z : Turned). IsTurnFramed v x z) (sym closed.0) ([], last_response end, inl refl, refl, closed.1)
framed_bare end v x (Err f) closed = tt

-- ---- one turn after another

pub answered_none : (v : Option (List ℕ)) → AreAnswered v v
answered_none v = ([], none, Appends-nil v)

pub answered_on : (tally : Tally) (closes : Bool) (v m x : Option (List ℕ)) → closes ≡ false → AreAnswered v m → IsTurnFramed m x (Answered tally closes) → AreAnswered v x
answered_on tally closes v m x stays before t = (
  before.0 ++ (t.0 ++ t.1),
  one_more tally before.0 t.0 t.1 before.1 t.2 (subst (λ (b : Bool). IsFinal (Answered tally b) t.1) stays t.3),
  Appends-trans v m x before.0 (t.0 ++ t.1) before.2 t.4,
)

pub framed_last : (turned : Turned) (end : End) (v m x : Option (List ℕ)) → AreAnswered v m → IsTurnFramed m x turned → IsLast turned end → AreFramed v x end
framed_last turned end v m x before t last =
    (before.0, t.0, t.1, turned, before.1, t.2, t.3, last, Appends-trans v m x before.0 (t.0 ++ t.1) before.2 t.4)
