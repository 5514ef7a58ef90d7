-- Where a connection ends no request stands that could be answered; and what is written last is told by the end.
use Rattle.std.proofs.Common.{◌≡◌, ◌≢◌, ◌==◌, ◌-◌, ◌+◌, ◌⊎◌, ◌∙◌, ℕ, Bool, true, false, List, ◌++◌, Option, Some, None, length, inl, inr, refl, sym, ap, subst, arith, if◌then◌else◌}
use Rattle.std.specs.Prelude.{nat_lt}
use Rattle.httparse.specs.Grammar.{RequestHead, chunk_size, print_chunk_line}
use Rattle.queue_core.specs.World.{World}
use Rattle.http_head.specs.Checks.{head_of, plan_of, refusal_of}
use Rattle.http_head.specs.Ends.{end_of, is_unavailable}
use Rattle.http_head.specs.Head.{BeginsHead, EndsWithoutHead}
use Rattle.http_head.specs.Limits.{line_limit, raw_limit, trailer_limit}
use Rattle.http_head.specs.declared.end.End.{End}
use Rattle.http_head.specs.declared.end.End.TheVariants.{Closed as EndClosed, Cut as EndCut, Done as EndDone, Refused as EndRefused}
use Rattle.http_head.specs.declared.end.Finish.{Finish}
use Rattle.http_head.specs.declared.end.Finish.TheVariants.{Closed, Cut, Refused}
use Rattle.http_head.specs.declared.end.Refusal.{Refusal}
use Rattle.http_head.specs.declared.end.Refusal.TheVariants.{BadRequest, NotFound, OnlyPostAllowed, LengthRequired, ContentTooLarge, UnsupportedMediaType, HeaderFieldsTooLarge, ServiceUnavailable}
use Rattle.http_head.specs.declared.framing.Framing.{Framing}
use Rattle.http_head.specs.declared.framing.Framing.TheVariants.{Nothing, Sized, Chunked}
use Rattle.http_head.specs.declared.target.Target.{Target}
use Rattle.http_head.specs.declared.target.Target.TheVariants.{Ipp, Report, Queue, Document as DocumentTarget}
use Rattle.http_wire.specs.Bodies.{IsBody, EndsInBody}
use Rattle.http_wire.specs.ChunkEnds.{EndsAtLine, EndsAtTrailers, EndsInChunk, EndsInChunks, at_line, at_trailers, bound_behind, in_chunk, too_large}
use Rattle.http_wire.specs.Chunks.{chunks_bytes}
use Rattle.http_wire.specs.declared.chunk.Bound.{Bound}
use Rattle.http_wire.specs.Responses.{interim_response, last_response, refusal_response}
use Rattle.http_front.specs.Connections.{end_told, ends_by_fault}
use Rattle.http_front.specs.Conversations.{MayEndAs}
use Rattle.http_front.specs.Ends.{Declines, IsEnd, checked, declined, in_body, no_head, unavailable, unavailable_later}
use Rattle.http_front.specs.Turns.{Turn, IsAnswered, IsTurn, plan, request_bytes}
use Rattle.http_front.proofs.AnswerLemmas.{Laws, turn_head}

-- ---- ends by their kind

-- how a connection may end behind a head
pub data EndsBehind (w : World) (h : RequestHead) (rest : List ℕ) : Finish → List ℕ → Type 0 where
  by_check : (r : Refusal) → refusal_of (head_of h) ≡ Some r → EndsBehind w h rest (Refused r) (refusal_response r)
  by_body : (end : Finish) → refusal_of (head_of h) ≡ None → EndsInBody (plan_of (head_of h)).framing rest end
      → EndsBehind w h rest end (interim_response (plan_of (head_of h)) ++ last_response end)
  by_decline : (raw content more : List ℕ) (r : Refusal) → rest ≡ raw ++ more → refusal_of (head_of h) ≡ None
      → IsBody (plan_of (head_of h)).framing raw content → Declines w (plan_of (head_of h)).target content r
      → EndsBehind w h rest (Refused r) (interim_response (plan_of (head_of h)) ++ refusal_response r)

pub data EndKind (w : World) (bytes : List ℕ) : Finish → List ℕ → Type 0 where
  headless : (end : Finish) → EndsWithoutHead bytes end → EndKind w bytes end (last_response end)
  headed : (h : RequestHead) (rest : List ℕ) (end : Finish) (last : List ℕ) → BeginsHead bytes h rest → EndsBehind w h rest end last → EndKind w bytes end last

pub end_kind : (w : World) (bytes : List ℕ) (end : Finish) (last : List ℕ) → IsEnd w bytes end last → is_unavailable end ≡ false → EndKind w bytes end last
end_kind w bytes _ _ (no_head end none) whole = headless end none
end_kind w bytes _ _ (checked h rest r begins check) whole = headed h rest (Refused r) _ begins (by_check r check)
end_kind w bytes _ _ (in_body h rest end begins passes ends) whole = headed h rest end _ begins (by_body end passes ends)
end_kind w bytes _ _ (declined h raw content rest r begins passes body declines) whole =
    headed h (raw ++ rest) (Refused r) _ begins (by_decline raw content rest r refl passes body declines)
end_kind w bytes _ _ unavailable whole = absurd cc
end_kind w bytes _ _ (unavailable_later h rest begins passes) whole = absurd cc

-- ---- no request stands there

declined_unanswered : (now : ℕ) (w : World) (target : Target) (content : List ℕ) (r : Refusal) (fault : Bool) (kind reply : List ℕ) (u : World)
    → Declines w target content r → IsAnswered now w target content fault kind reply u → ⊥
declined_unanswered now w Ipp content r fault kind reply u d a = omega (arith, d.1, a.headed)
declined_unanswered now w Report content r fault kind reply u d a = d
declined_unanswered now w Queue content r fault kind reply u d a = d
declined_unanswered now w (DocumentTarget n) content r fault kind reply u d a = let no : None ≡ Some a.document = sym d.1 ∙ a.there in absurd cc

behind_no_turn : Laws → (now : ℕ) (w : World) (t : Turn) (rest r : List ℕ) (end : Finish) (last : List ℕ) → IsTurn now w t → EndsBehind w t.head rest end last → rest ≡ t.raw ++ r → ⊥
behind_no_turn laws now w t rest r _ _ is (by_check f check) e = let no : None ≡ Some f = sym is.passes ∙ check in absurd cc
behind_no_turn laws now w t rest r _ _ is (by_body end passes ends) e =
    laws.whole_bodies (plan t).framing t.raw t.content r end is.body (subst (λ (z : List ℕ). EndsInBody (plan t).framing z end) e ends)
behind_no_turn laws now w t rest r _ _ is (by_decline raw content more f at passes body declines) e =
    let same = laws.bodies (plan t).framing raw t.raw content t.content more r body is.body (sym at ∙ e) in
    declined_unanswered now w (plan t).target t.content f t.is_fault t.media_type t.reply t.after (subst (λ (z : List ℕ). Declines w (plan t).target z f) same.1 declines) is.answered

pub end_no_turn : Laws → (now : ℕ) (w : World) (t : Turn) (bytes r : List ℕ) (end : Finish) (last : List ℕ) → IsTurn now w t → bytes ≡ request_bytes t ++ r → EndKind w bytes end last → ⊥
end_no_turn laws now w t bytes r _ _ is e (headless end none) = laws.whole_heads bytes t.head (t.raw ++ r) end (turn_head now w t bytes r is e) none
end_no_turn laws now w t bytes r _ _ is e (headed h rest end last begins behind) =
    let same = laws.heads bytes h t.head rest (t.raw ++ r) begins (turn_head now w t bytes r is e) in
    behind_no_turn laws now w t rest r end last is (subst (λ (z : RequestHead). EndsBehind w z rest end last) same.0 behind) same.1

-- ---- the end tells its response, but for the two refusals of a method, and one behind the last request has none

abbrev refusal_with : ℕ → Refusal
refusal_with code =
    if code == 400 then BadRequest else (if code == 404 then NotFound else (if code == 405 then OnlyPostAllowed else (if code == 411 then LengthRequired
    else (if code == 413 then ContentTooLarge else (if code == 415 then UnsupportedMediaType else (if code == 431 then HeaderFieldsTooLarge else ServiceUnavailable))))))

abbrev finish_with : End → Finish
finish_with EndClosed = Closed
finish_with EndCut = Cut
finish_with EndDone = Closed
finish_with (EndRefused code) = Refused (refusal_with code)

-- it is told by its end
abbrev IsTold : Finish → Type 0
IsTold f = finish_with (end_of f) ≡ f

told_bad : IsTold (Refused BadRequest)
told_bad = refl

told_large : IsTold (Refused ContentTooLarge)
told_large = refl

told_fields : IsTold (Refused HeaderFieldsTooLarge)
told_fields = refl

told_missing : IsTold (Refused NotFound)
told_missing = refl

told_cut : IsTold Cut
told_cut = refl

told_closed : IsTold Closed
told_closed = refl

told_as : (r q : Refusal) → r ≡ q → IsTold (Refused q) → IsTold (Refused r)
told_as r q e told = subst (λ (z : Refusal). IsTold (Refused z)) (sym e) told

told_headless : (bytes : List ℕ) (f : Finish) → EndsWithoutHead bytes f → IsTold f
told_headless bytes Closed n = told_closed
told_headless bytes Cut n = told_cut
told_headless bytes (Refused r) n = elim n [ inl h ↦ told_as r BadRequest h.0 told_bad | inr h ↦ told_as r HeaderFieldsTooLarge h.0 told_fields ]

told_bound : (raw limit : ℕ) → IsTold (Refused (bound_behind raw limit).refusal)
told_bound raw limit =
    elim (nat_lt (raw_limit - raw) limit) as (λ b.
    IsTold (Refused (if◌then◌else◌ {A = Bound} b (record { limit = raw_limit - raw; refusal = ContentTooLarge }) (record { limit = limit; refusal = BadRequest })).refusal)) [
      | true ↦ told_large
      | false ↦ told_bad
    ]

told_line : (raw limit : ℕ) (bytes : List ℕ) (f : Finish) → EndsAtLine (bound_behind raw limit) bytes f → IsTold f
told_line raw limit bytes Closed n = absurd n
told_line raw limit bytes Cut n = told_cut
told_line raw limit bytes (Refused r) n = elim n [ inl h ↦ told_as r BadRequest h.0 told_bad | inr h ↦ told_as r (bound_behind raw limit).refusal h.0 (told_bound raw limit) ]

told_trailers : (raw limit : ℕ) (bytes : List ℕ) (f : Finish) → EndsAtTrailers (bound_behind raw limit) bytes f → IsTold f
told_trailers raw limit bytes Closed n = absurd n
told_trailers raw limit bytes Cut n = told_cut
told_trailers raw limit bytes (Refused r) n = elim n [ inl h ↦ told_as r BadRequest h.0 told_bad | inr h ↦ told_as r (bound_behind raw limit).refusal h.0 (told_bound raw limit) ]

told_chunk : (size : ℕ) (bytes : List ℕ) (f : Finish) → EndsInChunk size bytes f → IsTold f
told_chunk size bytes Closed n = absurd n
told_chunk size bytes Cut n = told_cut
told_chunk size bytes (Refused r) n = told_as r BadRequest n.0 told_bad

told_chunks : (bytes : List ℕ) (f : Finish) → EndsInChunks bytes f → IsTold f
told_chunks bytes _ (at_line chunks rest end are from n) = told_line (length (chunks_bytes chunks)) line_limit rest end n
told_chunks bytes _ (too_large chunks l rest begins some past) = told_large
told_chunks bytes _ (in_chunk chunks l rest end begins some fits n) = told_chunk (chunk_size l) rest end n
told_chunks bytes _ (at_trailers chunks l rest end begins none n) = told_trailers (length (chunks_bytes chunks) + length (print_chunk_line l)) trailer_limit rest end n

told_body : (framing : Framing) (bytes : List ℕ) (f : Finish) → EndsInBody framing bytes f → IsTold f
told_body Nothing bytes f n = absurd n
told_body (Sized size) bytes f n = subst IsTold (sym n.0) told_cut
told_body Chunked bytes f n = told_chunks bytes f n

told_response : (f g : Finish) → IsTold f → IsTold g → end_of f ≡ end_of g → last_response f ≡ last_response g
told_response f g p q e = ap last_response (sym p ∙ ap finish_with e ∙ q)

told_declined : (w : World) (target : Target) (content : List ℕ) (r : Refusal) → Declines w target content r → IsTold (Refused r)
told_declined w Ipp content r d = told_as r BadRequest d.0 told_bad
told_declined w Report content r d = absurd d
told_declined w Queue content r d = absurd d
told_declined w (DocumentTarget n) content r d = told_as r NotFound d.0 told_missing

one_behind : Laws → (w : World) (h : RequestHead) (rest : List ℕ) (f g : Finish) (l m : List ℕ) → EndsBehind w h rest f l → EndsBehind w h rest g m → end_of f ≡ end_of g → l ≡ m
one_behind laws w h rest _ _ _ _ (by_check r c) (by_check q d) e = let same : Some r ≡ Some q = sym c ∙ d in let one : r ≡ q = cc in ap refusal_response one
one_behind laws w h rest _ _ _ _ (by_check r c) (by_body g d n) e = let no : Some r ≡ None = sym c ∙ d in absurd cc
one_behind laws w h rest _ _ _ _ (by_check r c) (by_decline raw content more q at d body declines) e = let no : Some r ≡ None = sym c ∙ d in absurd cc
one_behind laws w h rest _ _ _ _ (by_body f c n) (by_check q d) e = let no : None ≡ Some q = sym c ∙ d in absurd cc
one_behind laws w h rest _ _ _ _ (by_body f c n) (by_body g d p) e =
    ap (λ (z : List ℕ). interim_response (plan_of (head_of h)) ++ z) (told_response f g (told_body (plan_of (head_of h)).framing rest f n) (told_body (plan_of (head_of h)).framing rest g p) e)
one_behind laws w h rest _ _ _ _ (by_body f c n) (by_decline raw content more q at d body declines) e =
    absurd (laws.whole_bodies (plan_of (head_of h)).framing raw content more f body (subst (λ (z : List ℕ). EndsInBody (plan_of (head_of h)).framing z f) at n))
one_behind laws w h rest _ _ _ _ (by_decline raw content more r at c body declines) (by_check q d) e = let no : None ≡ Some q = sym c ∙ d in absurd cc
one_behind laws w h rest _ _ _ _ (by_decline raw content more r at c body declines) (by_body g d p) e =
    absurd (laws.whole_bodies (plan_of (head_of h)).framing raw content more g body (subst (λ (z : List ℕ). EndsInBody (plan_of (head_of h)).framing z g) at p))
one_behind laws w h rest _ _ _ _ (by_decline raw content more r at c body declines) (by_decline raws contents mores q at_too d bodies declines_too) e =
    ap (λ (z : List ℕ). interim_response (plan_of (head_of h)) ++ z)
    (told_response (Refused r) (Refused q) (told_declined w (plan_of (head_of h)).target content r declines) (told_declined w (plan_of (head_of h)).target contents q declines_too) e)

pub one_last : Laws → (w : World) (bytes : List ℕ) (f g : Finish) (l m : List ℕ) → EndKind w bytes f l → EndKind w bytes g m → end_of f ≡ end_of g → l ≡ m
one_last laws w bytes _ _ _ _ (headless f n) (headless g p) e = told_response f g (told_headless bytes f n) (told_headless bytes g p) e
one_last laws w bytes _ _ _ _ (headless f n) (headed h rest g m begins behind) e = absurd (laws.whole_heads bytes h rest f begins n)
one_last laws w bytes _ _ _ _ (headed h rest f l begins behind) (headless g p) e = absurd (laws.whole_heads bytes h rest g begins p)
one_last laws w bytes _ _ _ _ (headed h rest f l begins behind) (headed k more g m starts ends) e =
    let same = laws.heads bytes h k rest more begins starts in
    one_behind laws w k more f g l m
    (subst (λ (z : RequestHead). EndsBehind w z more f l) same.0 (subst (λ (z : List ℕ). EndsBehind w h z f l) same.1 behind)) ends e

-- ---- the end itself, where a head or a body is refused

declined_same : (w : World) (target : Target) (a b : List ℕ) (r q : Refusal) → Declines w target a r → Declines w target b q → r ≡ q
declined_same w Ipp a b r q d e = d.0 ∙ sym e.0
declined_same w Report a b r q d e = absurd d
declined_same w Queue a b r q d e = absurd d
declined_same w (DocumentTarget n) a b r q d e = d.0 ∙ sym e.0

same_behind : Laws → (w : World) (h : RequestHead) (rest : List ℕ) (f g : Finish) (l m : List ℕ) → EndsBehind w h rest f l → EndsBehind w h rest g m
    → (end_of f ≡ end_of g) ⊎ (EndsInBody (plan_of (head_of h)).framing rest f × EndsInBody (plan_of (head_of h)).framing rest g)
same_behind laws w h rest _ _ _ _ (by_check r c) (by_check q d) = let same : Some r ≡ Some q = sym c ∙ d in let one : r ≡ q = cc in inl (ap (λ (z : Refusal). end_of (Refused z)) one)
same_behind laws w h rest _ _ _ _ (by_check r c) (by_body g d n) = let no : Some r ≡ None = sym c ∙ d in absurd cc
same_behind laws w h rest _ _ _ _ (by_check r c) (by_decline raw content more q at d body declines) = let no : Some r ≡ None = sym c ∙ d in absurd cc
same_behind laws w h rest _ _ _ _ (by_body f c n) (by_check q d) = let no : None ≡ Some q = sym c ∙ d in absurd cc
same_behind laws w h rest _ _ _ _ (by_body f c n) (by_body g d p) = inr (n, p)
same_behind laws w h rest _ _ _ _ (by_body f c n) (by_decline raw content more q at d body declines) =
    absurd (laws.whole_bodies (plan_of (head_of h)).framing raw content more f body (subst (λ (z : List ℕ). EndsInBody (plan_of (head_of h)).framing z f) at n))
same_behind laws w h rest _ _ _ _ (by_decline raw content more r at c body declines) (by_check q d) = let no : None ≡ Some q = sym c ∙ d in absurd cc
same_behind laws w h rest _ _ _ _ (by_decline raw content more r at c body declines) (by_body g d p) =
    absurd (laws.whole_bodies (plan_of (head_of h)).framing raw content more g body (subst (λ (z : List ℕ). EndsInBody (plan_of (head_of h)).framing z g) at p))
same_behind laws w h rest _ _ _ _ (by_decline raw content more r at c body declines) (by_decline raws contents mores q at_too d bodies declines_too) =
    inl (ap (λ (z : Refusal). end_of (Refused z)) (declined_same w (plan_of (head_of h)).target content contents r q declines declines_too))

pub same_ends : Laws → (w : World) (bytes : List ℕ) (f g : Finish) (l m : List ℕ) → EndKind w bytes f l → EndKind w bytes g m → (end_of f ≡ end_of g) ⊎ MayEndAs bytes (Some f) (Some g)
same_ends laws w bytes _ _ _ _ (headless f n) (headless g p) = inr (inl (n, p))
same_ends laws w bytes _ _ _ _ (headless f n) (headed h rest g m begins behind) = absurd (laws.whole_heads bytes h rest f begins n)
same_ends laws w bytes _ _ _ _ (headed h rest f l begins behind) (headless g p) = absurd (laws.whole_heads bytes h rest g begins p)
same_ends laws w bytes _ _ _ _ (headed h rest f l begins behind) (headed k more g m starts ends) =
    let same = laws.heads bytes h k rest more begins starts in
    elim (same_behind laws w k more f g l m (subst (λ (z : RequestHead). EndsBehind w z more f l) same.0 (subst (λ (z : List ℕ). EndsBehind w h z f l) same.1 behind)) ends) [
      | inl e ↦ inl e
      | inr both ↦ inr (inr (k, more, starts, both.0, both.1))
    ]

-- ---- a 503

abbrev unavailable_at : End → Bool
unavailable_at EndClosed = false
unavailable_at EndCut = false
unavailable_at EndDone = false
unavailable_at (EndRefused code) = code == 503

unavailable_told : (f : Finish) → is_unavailable f ≡ unavailable_at (end_of f)
unavailable_told (Refused ServiceUnavailable) = refl
unavailable_told _ = refl

fault_told : (f : Option Finish) → ends_by_fault f ≡ unavailable_at (end_told f)
fault_told None = refl
fault_told (Some f) = unavailable_told f

pub same_available : (f g : Option Finish) → end_told f ≡ end_told g → ends_by_fault f ≡ ends_by_fault g
same_available f g e = fault_told f ∙ ap unavailable_at e ∙ sym (fault_told g)

available_in : (f : Finish) → end_of f ≢ EndRefused 503 → is_unavailable f ≡ false
available_in (Refused ServiceUnavailable) other = absurd (other refl)
available_in _ other = refl

pub available : (f : Option Finish) → end_told f ≢ EndRefused 503 → ends_by_fault f ≡ false
available None other = refl
available (Some f) other = available_in f other
