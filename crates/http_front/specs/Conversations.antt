-- The requests of a stream and its end, read twice.
use Rattle.std.specs.Prelude.{◌≡◌, ◌⊎◌, ⊤, ℕ, List, [], ◌∷◌, Option, Some, None}
use Rattle.httparse.specs.Grammar.{RequestHead}
use Rattle.http_head.specs.Head.{BeginsHead, EndsWithoutHead}
use Rattle.http_head.specs.declared.end.Finish.{Finish}
use Rattle.http_wire.specs.Bodies.{EndsInBody}
use Rattle.http_front.specs.Turns.{Turn, plan_in}

-- one request: its head, and its body as it stands in the stream and its content
pub record IsSameRequest (s t : Turn) : Type 0 where
  pub head : s.head ≡ t.head
  pub raw : s.raw ≡ t.raw
  pub content : s.content ≡ t.content

-- the same requests, as far as both go
abbrev pub AreSameRequests : List Turn → List Turn → Type 0
AreSameRequests [] ts = ⊤
AreSameRequests (s ∷ ss) [] = ⊤
AreSameRequests (s ∷ ss) (t ∷ ts) = IsSameRequest s t × AreSameRequests ss ts

-- the bytes may end so or so: no head stands there, or one does and no whole body follows it
abbrev pub MayEndAs : List ℕ → Option Finish → Option Finish → Type 0
MayEndAs bytes None g = ⊥
MayEndAs bytes (Some f) None = ⊥
MayEndAs bytes (Some f) (Some g) =
    (EndsWithoutHead bytes f × EndsWithoutHead bytes g)
    ⊎ ((h : RequestHead) × (rest : List ℕ) × BeginsHead bytes h rest × EndsInBody (plan_in h).framing rest f × EndsInBody (plan_in h).framing rest g)
