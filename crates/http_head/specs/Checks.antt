-- The checks of a request's head in their order, and what a head that passes them asks for.
use Rattle.std.specs.Prelude.{◌==◌, nat_lt, ◌&&◌, ◌||◌, not, bytes_eq, Bool, true, false, ℕ, List, [], ◌∷◌, map, Option, None, Some, option_map, find, unwrap_or, codes, if◌then◌else◌}
use Rattle.std.specs.List.{list_any, list_all, before_first}
use Rattle.httparse.specs.Grammar.{RequestHead}
use Rattle.httparse.specs.Spans.{name_and_value}
use Rattle.http_head.specs.Limits.{content_limit}
use Rattle.http_head.specs.Fields.{FieldLine, values, same_word, trimmed, is_blank, has_member}
use Rattle.http_head.specs.Targets.{routed, path_of, is_posted, method_of, media_type_of}
use Rattle.http_head.specs.Framing.{framing, misframed, is_there, size_of, is_chunked, is_untold}
use Rattle.http_head.specs.declared.plan.Plan.{Plan}
use Rattle.http_head.specs.declared.target.Target.{Target}
use Rattle.http_head.specs.declared.target.Target.TheVariants.{Queue}
use Rattle.http_head.specs.declared.framing.Framing.{Framing}
use Rattle.http_head.specs.declared.end.Refusal.{Refusal}
use Rattle.http_head.specs.declared.end.Refusal.TheVariants.{BadRequest, NotFound, OnlyPostAllowed, OnlyGetAllowed, LengthRequired, ContentTooLarge, UnsupportedMediaType}

-- what a head says: its request line (RFC 9112, section 3) and its field lines (section 5)
pub record Head : Type 0 where
  pub method : List ℕ
  pub target : List ℕ
  pub minor : ℕ
  pub fields : List FieldLine

abbrev pub head_of : RequestHead → Head
head_of h = record { method = h.method; target = h.target; minor = h.minor; fields = map name_and_value h.fields }

abbrev pub values_of : List ℕ → Head → List (List ℕ)
values_of name h = values name h.fields

-- ---- what it asks for

abbrev pub target_in : Head → Option Target
target_in h = routed (path_of h.target)

abbrev pub codings : Head → List (List ℕ)
codings h = values_of (codes "transfer-encoding") h

abbrev pub lengths : Head → List (List ℕ)
lengths h = values_of (codes "content-length") h

abbrev pub is_misframed : Head → Bool
is_misframed h = misframed (codings h) (lengths h)

abbrev pub framing_of : Head → Framing
framing_of h = framing (codings h) (lengths h)

-- the media type of a value (RFC 9110, section 8.3.1), before its parameters
abbrev pub is_type : List ℕ → List ℕ → Bool
is_type type value = same_word (trimmed (is_blank false) (before_first (λ b. b == 59) value)) type

abbrev pub is_identity : List ℕ → Bool
is_identity value = same_word value (codes "identity")

-- the content has that media type, by each Content-Type, and no content coding, by each Content-Encoding
abbrev pub are_typed : List ℕ → List (List ℕ) → List (List ℕ) → Bool
are_typed type types codings = is_there types && list_all (is_type type) types && list_all is_identity codings

abbrev pub is_typed : Target → Head → Bool
is_typed t h = are_typed (media_type_of t) (values_of (codes "content-type") h) (values_of (codes "content-encoding") h)

-- a field line of that name has the word among the members of its value
abbrev pub asks : List ℕ → List ℕ → Head → Bool
asks name word h = list_any (has_member word) (values_of name h)

-- ---- the checks

-- the first row whose test holds
abbrev pub first_that_applies : List (Bool × Refusal) → Option Refusal
first_that_applies rows = option_map (λ row. row.1) (find (λ row. row.0) rows)

-- the checks of a request without a route
abbrev pub unrouted : Bool → List (Bool × Refusal)
unrouted misframed = (misframed, BadRequest) ∷ (true, NotFound) ∷ []

-- the checks of a request with a route, in their order: where each applies, and how it refuses
abbrev pub rows : Target → Bool → Framing → List ℕ → Bool → List (Bool × Refusal)
rows t misframed framing method typed =
    (misframed, BadRequest)
    ∷ (not (bytes_eq method (method_of t)), (if is_posted t then OnlyPostAllowed else OnlyGetAllowed))
    ∷ (not (is_posted t) && (is_chunked framing || nat_lt 0 (size_of framing)), BadRequest)
    ∷ (is_posted t && is_untold framing, LengthRequired)
    ∷ (nat_lt content_limit (size_of framing), ContentTooLarge)
    ∷ (is_posted t && not typed, UnsupportedMediaType)
    ∷ []

abbrev pub checked : Head → Option Target → Option Refusal
checked h None = first_that_applies (unrouted (is_misframed h))
checked h (Some t) = first_that_applies (rows t (is_misframed h) (framing_of h) h.method (is_typed t h))

-- the first check that applies to a head
unfoldable pub refusal_of : Head → Option Refusal
refusal_of h = checked h (target_in h)

-- ---- the plan

-- what a head that passes the checks asks for: Expect (RFC 9110, section 10.1.1) is HTTP/1.1's, and HTTP/1.0 closes (RFC 9112, section 9.3)
unfoldable pub plan_of : Head → Plan
plan_of h = record {
  target = unwrap_or (target_in h) Queue;
  framing = framing_of h;
  expects = (h.minor == 1) && asks (codes "expect") (codes "100-continue") h;
  closes = (h.minor == 0) || asks (codes "connection") (codes "close") h;
}
