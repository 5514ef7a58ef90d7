-- A chunked body (RFC 9112, section 7.1): a tree, the bytes that it prints, and its content.
use Rattle.std.specs.Prelude.{◌≡◌, ℕ, ◌<◌, ◌≤◌, List, ◌++◌, length, All}
use Rattle.std.specs.List.{flat_map}
use Rattle.httparse.specs.Ascii.{crlf_bytes}
use Rattle.httparse.specs.Grammar.{ChunkLine, IsChunkLine, print_chunk_line, chunk_size, Field, IsField, LineEnd, print_section}
use Rattle.http_head.specs.Limits.{line_limit, content_limit, raw_limit, field_limit, trailer_limit}

-- a chunk: its line, and its content, which the standard calls chunk-data
pub record Chunk : Type 0 where
  pub line : ChunkLine
  pub content : List ℕ

-- the chunks, the line of the last chunk, and the trailer section with the empty line that ends it
pub record ChunkedBody : Type 0 where
  pub chunks : List Chunk
  pub last : ChunkLine
  pub trailers : List Field
  pub end : LineEnd

abbrev pub chunk_bytes : Chunk → List ℕ
chunk_bytes c = print_chunk_line c.line ++ c.content ++ crlf_bytes

abbrev pub content_of : Chunk → List ℕ
content_of c = c.content

-- the bytes of the chunks as they stand in the stream
unfoldable pub chunks_bytes : List Chunk → List ℕ
chunks_bytes chunks = flat_map chunk_bytes chunks

-- their content joined
unfoldable pub chunks_content : List Chunk → List ℕ
chunks_content chunks = flat_map content_of chunks

-- the bytes of the body as it stands in the stream
unfoldable pub chunked_bytes : ChunkedBody → List ℕ
chunked_bytes b = chunks_bytes b.chunks ++ print_chunk_line b.last ++ print_section b.trailers b.end

-- its content (RFC 9110, section 6.4): that of the chunks joined
unfoldable pub chunked_content : ChunkedBody → List ℕ
chunked_content b = chunks_content b.chunks

-- ---- within the limits

pub record IsShortLine (l : ChunkLine) : Type 0 where
  pub line : IsChunkLine l
  pub short : length (print_chunk_line l) ≤ line_limit

-- the line tells the length of the content, which is not empty
pub record IsChunk (c : Chunk) : Type 0 where
  pub line : IsShortLine c.line
  pub some : 0 < length c.content
  pub size : chunk_size c.line ≡ length c.content

pub record AreChunks (chunks : List Chunk) : Type 0 where
  pub each : All IsChunk chunks
  pub fits : length (chunks_content chunks) ≤ content_limit
  pub raw : length (chunks_bytes chunks) ≤ raw_limit

-- a trailer section (RFC 9112, section 7.1.2)
pub record AreTrailers (fields : List Field) (end : LineEnd) : Type 0 where
  pub each : All IsField fields
  pub few : length fields ≤ field_limit
  pub short : length (print_section fields end) ≤ trailer_limit

pub record IsChunkedBody (b : ChunkedBody) : Type 0 where
  pub chunks : AreChunks b.chunks
  pub last : IsShortLine b.last
  pub ended : chunk_size b.last ≡ 0
  pub trailers : AreTrailers b.trailers b.end
  pub raw : length (chunked_bytes b) ≤ raw_limit
