-- Where a request head stands in the bytes of a connection (RFC 9112, section 2.1), and where none does.
use Rattle.std.specs.Prelude.{◌≡◌, ◌<◌, ◌≤◌, ◌⊎◌, ℕ, List, [], length, take}
use Rattle.httparse.specs.Grammar.{RequestHead, ReadsRequest, print_request, HasNoRequest, NeverHasRequest, MayBecomeRequest}
use Rattle.httparse.specs.Spans.{RequestExceeds}
use Rattle.http_head.specs.Limits.{head_limit, field_limit}
use Rattle.http_head.specs.declared.end.Finish.{Finish}
use Rattle.http_head.specs.declared.end.Finish.TheVariants.{Closed, Cut, Refused}
use Rattle.http_head.specs.declared.end.Refusal.TheVariants.{BadRequest, HeaderFieldsTooLarge}

-- the bytes are this head, which is within the limits, and then the rest
pub record BeginsHead (bytes : List ℕ) (h : RequestHead) (rest : List ℕ) : Type 0 where
  pub reads : ReadsRequest bytes h rest
  pub short : length (print_request h) ≤ head_limit
  pub few : length h.fields ≤ field_limit

-- no head within the limits is a prefix of the bytes
abbrev pub HasNoHead : List ℕ → Type 0
HasNoHead bytes = (h : RequestHead) (rest : List ℕ) → BeginsHead bytes h rest → ⊥

-- there are as many bytes as a head may have, and a head may begin with these; or there are more fields than it may have
abbrev pub IsTooLarge : List ℕ → Type 0
IsTooLarge bytes = ((head_limit ≤ length bytes) × MayBecomeRequest (take head_limit bytes)) ⊎ RequestExceeds field_limit bytes

-- how a connection may end where no head stands: with nothing; within what may become a head; or no head can begin with as many bytes as it
-- may have; or what stands there is too large
abbrev pub EndsWithoutHead : List ℕ → Finish → Type 0
EndsWithoutHead bytes Closed = bytes ≡ []
EndsWithoutHead bytes Cut = (0 < length bytes) × (length bytes < head_limit) × HasNoRequest bytes × MayBecomeRequest bytes
EndsWithoutHead bytes (Refused r) =
    ((r ≡ BadRequest) × NeverHasRequest (take head_limit bytes)) ⊎ ((r ≡ HeaderFieldsTooLarge) × HasNoHead bytes × IsTooLarge bytes)
