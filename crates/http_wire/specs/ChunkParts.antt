-- What the passes over a chunked body take: of the bytes that were not taken yet, and of the content.
use Rattle.std.specs.Prelude.{◌≡◌, ◌+◌, ◌≤◌, ◌++◌, ℕ, List, Option, length, drop}
use Rattle.std.specs.Io.KnownBytes.{Consumes}
use Rattle.httparse.specs.Ascii.{crlf_bytes}
use Rattle.httparse.specs.Grammar.{ChunkLine, print_chunk_line, chunk_size, Field, LineEnd, print_section}
use Rattle.http_head.specs.Limits.{raw_limit}
use Rattle.http_wire.specs.Chunks.{Chunk, ChunkedBody, AreChunks, IsShortLine, IsChunkedBody, AreTrailers, chunks_bytes, chunks_content, chunked_bytes, chunked_content}

-- ---- a chunk line

-- a chunk line of that length and size
pub record TakesLine (limit : ℕ) (old new : Option (List ℕ)) (len size : ℕ) : Type 0 where
  pub line : ChunkLine
  pub is : IsShortLine line
  pub len_is : len ≡ length (print_chunk_line line)
  pub size_is : size ≡ chunk_size line
  pub fits : len ≤ limit
  pub taken : Consumes old new (print_chunk_line line)

-- ---- a chunk

-- the content of a chunk and its CR LF; the content is added to that of the chunks before it
pub record TakesChunk (size : ℕ) (old new : Option (List ℕ)) (before after : List ℕ) : Type 0 where
  pub more : List ℕ
  pub size_is : length more ≡ size
  pub after_is : after ≡ before ++ more
  pub taken : Consumes old new (more ++ crlf_bytes)

-- ---- the chunks

-- chunks and the line of the last chunk
pub record TakesToLast (old new : Option (List ℕ)) (raw : ℕ) (content : List ℕ) : Type 0 where
  pub chunks : List Chunk
  pub last : ChunkLine
  pub are : AreChunks chunks
  pub line : IsShortLine last
  pub ended : chunk_size last ≡ 0
  pub taken : Consumes old new (chunks_bytes chunks ++ print_chunk_line last)
  pub raw_is : raw ≡ length (chunks_bytes chunks) + length (print_chunk_line last)
  pub raw_fits : raw ≤ raw_limit
  pub content_is : content ≡ chunks_content chunks

-- ---- the trailer section

-- a trailer section of that length stands at the front of what has come
pub record AreTrailersAt (come : List ℕ) (len : ℕ) : Type 0 where
  pub fields : List Field
  pub end : LineEnd
  pub are : AreTrailers fields end
  pub bytes : come ≡ print_section fields end ++ drop len come
  pub len_is : len ≡ length (print_section fields end)

-- a trailer section within the limit
pub record TakesTrailers (limit : ℕ) (old new : Option (List ℕ)) : Type 0 where
  pub fields : List Field
  pub end : LineEnd
  pub are : AreTrailers fields end
  pub fits : length (print_section fields end) ≤ limit
  pub taken : Consumes old new (print_section fields end)

-- ---- the whole body

-- a whole body, and this is its content
pub record TakesChunked (old new : Option (List ℕ)) (content : List ℕ) : Type 0 where
  pub body : ChunkedBody
  pub is : IsChunkedBody body
  pub taken : Consumes old new (chunked_bytes body)
  pub content_is : content ≡ chunked_content body
