-- Where a connection may end in a chunked body (RFC 9112, sections 7.1 and 8).
use Rattle.std.specs.Prelude.{◌≡◌, ◌≢◌, ◌+◌, ◌-◌, ◌<◌, ◌≤◌, ◌⊎◌, ℕ, List, [], ◌∷◌, ◌++◌, length, take, nat_lt, if◌then◌else◌}
use Rattle.httparse.specs.Ascii.{crlf_bytes}
use Rattle.httparse.specs.Grammar.{ChunkLine, IsChunkLine, print_chunk_line, chunk_size, HasNoChunkLine, MayBecomeChunkLine, NeverHasChunkLine, Field, LineEnd, print_section, HasNoSection, NeverHasSection, MayBecomeSection}
use Rattle.httparse.specs.Spans.{SectionExceeds}
use Rattle.http_head.specs.Limits.{line_limit, content_limit, raw_limit, field_limit, trailer_limit}
use Rattle.http_wire.specs.Chunks.{Chunk, AreChunks, IsShortLine, chunks_bytes, chunks_content, AreTrailers}
use Rattle.http_wire.specs.declared.chunk.Bound.{Bound}
use Rattle.http_head.specs.declared.end.Finish.{Finish}
use Rattle.http_head.specs.declared.end.Finish.TheVariants.{Closed, Cut, Refused}
use Rattle.http_head.specs.declared.end.Refusal.TheVariants.{BadRequest, ContentTooLarge}

-- how many bytes a part with a limit of its own may have behind that many raw bytes of the body, and the refusal where it has no
-- end within them: what the raw limit leaves, where that is less
abbrev pub bound_behind : ℕ → ℕ → Bound
bound_behind raw limit =
    if nat_lt (raw_limit - raw) limit
    then record { limit = raw_limit - raw; refusal = ContentTooLarge }
    else record { limit = limit; refusal = BadRequest }

-- ---- where a chunk line should stand

-- no chunk line of at most that many bytes is a prefix of the bytes
abbrev pub HasNoLineWithin : ℕ → List ℕ → Type 0
HasNoLineWithin limit bytes = (l : ChunkLine) (rest : List ℕ) → IsChunkLine l → length (print_chunk_line l) ≤ limit → bytes ≢ print_chunk_line l ++ rest

-- the input ends within what may become a line; or none can begin with as many bytes as it may have; or those hold none, though one may begin
-- with them
abbrev pub EndsAtLine : Bound → List ℕ → Finish → Type 0
EndsAtLine bound bytes Closed = ⊥
EndsAtLine bound bytes Cut = (length bytes < bound.limit) × HasNoChunkLine bytes × MayBecomeChunkLine bytes
EndsAtLine bound bytes (Refused r) =
    ((r ≡ BadRequest) × NeverHasChunkLine (take bound.limit bytes)) ⊎ ((r ≡ bound.refusal) × (bound.limit ≤ length bytes) × HasNoLineWithin bound.limit bytes × MayBecomeChunkLine (take bound.limit bytes))

-- ---- where a trailer section should stand

-- no trailer section of at most that many bytes is a prefix of the bytes
abbrev pub HasNoTrailersWithin : ℕ → List ℕ → Type 0
HasNoTrailersWithin limit bytes =
    (fields : List Field) (end : LineEnd) (rest : List ℕ) → AreTrailers fields end → length (print_section fields end) ≤ limit → bytes ≢ print_section fields end ++ rest

-- no section can begin with these bytes, or they have more field lines than it may have
abbrev pub HasWrongLines : List ℕ → Type 0
HasWrongLines bytes = NeverHasSection bytes ⊎ SectionExceeds field_limit bytes

-- the input ends within what may become a section, of whatever size; or as many bytes as it may have are wrong; or those hold none, though a
-- section, of whatever size, may begin with them
abbrev pub EndsAtTrailers : Bound → List ℕ → Finish → Type 0
EndsAtTrailers bound bytes Closed = ⊥
EndsAtTrailers bound bytes Cut = (length bytes < bound.limit) × HasNoSection bytes × MayBecomeSection bytes
EndsAtTrailers bound bytes (Refused r) =
    ((r ≡ BadRequest) × HasNoTrailersWithin bound.limit bytes × HasWrongLines (take bound.limit bytes)) ⊎ ((r ≡ bound.refusal) × (bound.limit ≤ length bytes) × HasNoSection (take bound.limit bytes) × MayBecomeSection (take bound.limit bytes))

-- ---- in a chunk

-- nothing, or a CR: a LF may follow that makes it a line end
abbrev pub IsOpenLineEnd : List ℕ → Type 0
IsOpenLineEnd bytes = (bytes ≡ []) ⊎ (bytes ≡ 13 ∷ [])

-- no bytes behind these make CR LF their prefix
abbrev pub NeverHasLineEnd : List ℕ → Type 0
NeverHasLineEnd bytes = (more : List ℕ) (rest : List ℕ) → bytes ++ more ≢ crlf_bytes ++ rest

-- where the CR LF behind a chunk's content should stand: the input ends before it, or others stand there
abbrev pub EndsAtLineEnd : List ℕ → Finish → Type 0
EndsAtLineEnd bytes Closed = ⊥
EndsAtLineEnd bytes Cut = IsOpenLineEnd bytes
EndsAtLineEnd bytes (Refused r) = (r ≡ BadRequest) × NeverHasLineEnd bytes

-- the content of a chunk of that size stands at the front, and these bytes behind it
pub record HasContent (size : ℕ) (bytes rest : List ℕ) : Type 0 where
  pub content : List ℕ
  pub bytes_are : bytes ≡ content ++ rest
  pub size_is : length content ≡ size

-- where the content of a chunk of that size begins: the input ends in the content or in the CR LF behind it, or no CR LF can follow the content
abbrev pub EndsInChunk : ℕ → List ℕ → Finish → Type 0
EndsInChunk size bytes Closed = ⊥
EndsInChunk size bytes Cut = (length bytes < size) ⊎ ((rest : List ℕ) × HasContent size bytes rest × IsOpenLineEnd rest)
EndsInChunk size bytes (Refused r) = (r ≡ BadRequest) × (rest : List ℕ) × HasContent size bytes rest × NeverHasLineEnd rest

-- ---- in the body

-- chunks, and a line
pub record BeginsWithChunks (bytes : List ℕ) (chunks : List Chunk) (l : ChunkLine) (rest : List ℕ) : Type 0 where
  pub are : AreChunks chunks
  pub line : IsShortLine l
  pub bytes_are : bytes ≡ chunks_bytes chunks ++ print_chunk_line l ++ rest

-- with the chunk of this line the content or the raw bytes pass their limit
abbrev pub IsPastLimits : List Chunk → ChunkLine → Type 0
IsPastLimits chunks l =
    (content_limit < length (chunks_content chunks) + chunk_size l) ⊎ (raw_limit < length (chunks_bytes chunks) + length (print_chunk_line l) + chunk_size l + 2)

-- whole chunks, and then
pub data EndsInChunks (bytes : List ℕ) : Finish → Type 0 where
  -- no chunk line
  at_line : (chunks : List Chunk) (rest : List ℕ) (end : Finish) → AreChunks chunks → bytes ≡ chunks_bytes chunks ++ rest
      → EndsAtLine (bound_behind (length (chunks_bytes chunks)) line_limit) rest end → EndsInChunks bytes end
  -- the line of a chunk that is too large
  too_large : (chunks : List Chunk) (l : ChunkLine) (rest : List ℕ) → BeginsWithChunks bytes chunks l rest → 0 < chunk_size l
      → IsPastLimits chunks l → EndsInChunks bytes (Refused ContentTooLarge)
  -- the line of one that is not, and no such chunk
  in_chunk : (chunks : List Chunk) (l : ChunkLine) (rest : List ℕ) (end : Finish) → BeginsWithChunks bytes chunks l rest → 0 < chunk_size l
      → ¬ IsPastLimits chunks l → EndsInChunk (chunk_size l) rest end → EndsInChunks bytes end
  -- the line of the last chunk, and no trailer section
  at_trailers : (chunks : List Chunk) (l : ChunkLine) (rest : List ℕ) (end : Finish) → BeginsWithChunks bytes chunks l rest → chunk_size l ≡ 0
      → EndsAtTrailers (bound_behind (length (chunks_bytes chunks) + length (print_chunk_line l)) trailer_limit) rest end → EndsInChunks bytes end
