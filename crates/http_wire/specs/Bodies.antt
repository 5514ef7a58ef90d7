-- The body of a message by its framing (RFC 9112, section 6), and where a connection may end in one.
use Rattle.std.specs.Prelude.{◌≡◌, ◌<◌, ◌++◌, ℕ, List, [], length, Option}
use Rattle.std.specs.Io.KnownBytes.{Consumes}
use Rattle.http_wire.specs.Chunks.{ChunkedBody, IsChunkedBody, chunked_bytes, chunked_content}
use Rattle.http_wire.specs.ChunkEnds.{EndsInChunks}
use Rattle.http_head.specs.declared.end.Finish.{Finish}
use Rattle.http_head.specs.declared.end.Finish.TheVariants.{Cut}
use Rattle.http_head.specs.declared.framing.Framing.{Framing}
use Rattle.http_head.specs.declared.framing.Framing.TheVariants.{Nothing, Sized, Chunked}

-- these bytes are a body of that framing, and this is its content (RFC 9110, section 6.4)
abbrev pub IsBody : Framing → List ℕ → List ℕ → Type 0
IsBody Nothing raw content = (raw ≡ []) × (content ≡ [])
IsBody (Sized n) raw content = (raw ≡ content) × (length content ≡ n)
IsBody Chunked raw content = (b : ChunkedBody) × IsChunkedBody b × (raw ≡ chunked_bytes b) × (content ≡ chunked_content b)

-- how a connection may end where n bytes should come: fewer are left
abbrev pub EndsInLength : ℕ → List ℕ → Finish → Type 0
EndsInLength n bytes end = (end ≡ Cut) × (length bytes < n)

-- how a connection may end in a body of that framing
abbrev pub EndsInBody : Framing → List ℕ → Finish → Type 0
EndsInBody Nothing bytes end = ⊥
EndsInBody (Sized n) bytes end = EndsInLength n bytes end
EndsInBody Chunked bytes end = EndsInChunks bytes end

-- ---- what taking a body leaves

-- n bytes were taken, and added to the content
pub record TakesMore (n : ℕ) (old new : Option (List ℕ)) (before after : List ℕ) : Type 0 where
  pub more : List ℕ
  pub size : length more ≡ n
  pub after_is : after ≡ before ++ more
  pub taken : Consumes old new more
