-- Chunks go on by one chunk, and end.
use Rattle.std.proofs.Common.{◌≡◌, Option, ℕ, ◌+◌, ◌<◌, ◌≤◌, ◌⊎◌, List, [], ◌∷◌, ◌++◌, None, Some, IfSome, length, refl, sym, ap, ◌∙◌, subst, append_assoc, arith, inl, inr, length-append, append-nil}
use Rattle.std.specs.List.{flat_map}
use Rattle.std.specs.Io.KnownBytes.{Consumes}
use Rattle.std.proofs.KnownBytes.{Consumes-nil, Consumes-trans}
use Rattle.std.proofs.lemmas.Grind.{flat_map-append}
use Rattle.std.proofs.lemmas.List.Elements.{All-push, All-nil}
use Rattle.httparse.specs.Ascii.{crlf_bytes}
use Rattle.httparse.specs.Grammar.{ChunkLine, print_chunk_line, chunk_size, print_section}
use Rattle.http_head.specs.Limits.{content_limit, raw_limit, line_limit, trailer_limit}
use Rattle.http_wire.specs.Chunks.{Chunk, IsChunk, AreChunks, IsShortLine, chunks_bytes, chunks_content, chunk_bytes, content_of, chunked_bytes, chunked_content}
use Rattle.http_wire.specs.ChunkEnds.{BeginsWithChunks, EndsAtLine, EndsAtTrailers, EndsAtLineEnd, EndsInChunk, EndsInChunks, IsPastLimits, at_line, too_large, in_chunk, at_trailers, bound_behind}
use Rattle.http_wire.specs.ChunkParts.{TakesLine, TakesToLast, TakesTrailers, TakesChunked}
use Rattle.http_head.specs.declared.end.Finish.{Finish}
use Rattle.http_head.specs.declared.end.Finish.TheVariants.{Closed, Cut, Refused}
use Rattle.http_head.specs.declared.end.Refusal.TheVariants.{ContentTooLarge}

-- ---- chunks that were taken

-- chunks: this is their content, and so many bytes they have
pub record TakesChunks (old new : Option (List ℕ)) (raw : ℕ) (content : List ℕ) : Type 0 where
  pub chunks : List Chunk
  pub are : AreChunks chunks
  pub taken : Consumes old new (chunks_bytes chunks)
  pub raw_is : raw ≡ length (chunks_bytes chunks)
  pub content_is : content ≡ chunks_content chunks

pub chunks_none : (a : Option (List ℕ)) (content : List ℕ) → content ≡ [] → TakesChunks a a 0 content
unfolding chunks_bytes chunks_content
chunks_none a content none = record {
  chunks = [];
  are = record { each = All-nil IsChunk; fits = omega arith; raw = omega arith };
  taken = Consumes-nil a;
  raw_is = refl;
  content_is = none;
}

bytes_more : (cs : List Chunk) (c : Chunk) → chunks_bytes (cs ++ c ∷ []) ≡ chunks_bytes cs ++ chunk_bytes c
unfolding chunks_bytes
bytes_more cs c = flat_map-append chunk_bytes cs (c ∷ []) ∙ ap (λ l. flat_map chunk_bytes cs ++ l) (append-nil (chunk_bytes c))

content_more : (cs : List Chunk) (c : Chunk) → chunks_content (cs ++ c ∷ []) ≡ chunks_content cs ++ c.content
unfolding chunks_content
content_more cs c = flat_map-append content_of cs (c ∷ []) ∙ ap (λ l. flat_map content_of cs ++ l) (append-nil c.content)

chunk_length : (l : ChunkLine) (content : List ℕ) → length (print_chunk_line l ++ content ++ crlf_bytes) ≡ length (print_chunk_line l) + length content + 2
chunk_length l content =
    let e = length-append (print_chunk_line l ++ content) crlf_bytes in
    let f = length-append (print_chunk_line l) content in
    omega (arith, e, f)

whole_run : (cs : List Chunk) (l : ChunkLine) (content : List ℕ)
    → chunks_bytes cs ++ (print_chunk_line l ++ (content ++ crlf_bytes)) ≡ chunks_bytes (cs ++ record { line = l; content = content } ∷ [])
whole_run cs l content =
    ap (λ xs. chunks_bytes cs ++ xs) (sym (append_assoc (print_chunk_line l) content crlf_bytes))
    ∙ sym (bytes_more cs (record { line = l; content = content }))

-- one more chunk
pub chunks_more : (a b c d : Option (List ℕ)) (limit raw len size more_raw : ℕ) (body content more : List ℕ)
    → TakesChunks a b raw body → TakesLine limit b c len size → 0 < size
    → length content ≡ size → more ≡ body ++ content → Consumes c d (content ++ crlf_bytes)
    → length body + size ≤ content_limit → raw + len + size + 2 ≤ raw_limit → more_raw ≡ raw + (len + size + 2)
    → TakesChunks a d more_raw more
chunks_more a b c d limit raw len size more_raw body content more run line some content_size more_is taken fits raw_fits raw_is =
    let chunk : Chunk = record { line = line.line; content = content } in
    let bytes = bytes_more run.chunks chunk in
    let contents = content_more run.chunks chunk in
    let long : length (chunks_bytes (run.chunks ++ chunk ∷ [])) ≡ more_raw =
    (let e = ap length bytes in let f = length-append (chunks_bytes run.chunks) (chunk_bytes chunk) in let g = chunk_length line.line content in
    omega (arith, e, f, g, run.raw_is, line.len_is, content_size, raw_is)) in
    let wide : length (chunks_content (run.chunks ++ chunk ∷ [])) ≡ length body + size =
    (let e = ap length contents in let f = length-append (chunks_content run.chunks) content in
    omega (arith, e, f, ap length run.content_is, content_size)) in
    record {
      chunks = run.chunks ++ chunk ∷ [];
      are = record {
        each = All-push IsChunk run.chunks chunk run.are.each (record { line = line.is; some = omega (arith, content_size, some); size = sym line.size_is ∙ sym content_size });
        fits = omega (arith, wide, fits);
        raw = omega (arith, long, raw_fits, raw_is);
      };
      taken = subst (λ xs. Consumes a d xs) (whole_run run.chunks line.line content)
          (Consumes-trans a b d (chunks_bytes run.chunks) (print_chunk_line line.line ++ (content ++ crlf_bytes)) run.taken (Consumes-trans b c d (print_chunk_line line.line) (content ++ crlf_bytes) line.taken taken));
      raw_is = sym long;
      content_is = more_is ∙ ap (λ xs. xs ++ content) run.content_is ∙ sym contents;
    }

past_line : (a b c : Option (List ℕ)) (limit raw len size : ℕ) (body : List ℕ) → (run : TakesChunks a b raw body) → (line : TakesLine limit b c len size)
    → Consumes a c (chunks_bytes run.chunks ++ print_chunk_line line.line)
past_line a b c limit raw len size body run line = Consumes-trans a b c (chunks_bytes run.chunks) (print_chunk_line line.line) run.taken line.taken

-- ---- ends

pub ended_at_line : (a b : Option (List ℕ)) (raw : ℕ) (body : List ℕ) (end : Finish) → TakesChunks a b raw body
    → IfSome b (λ xs. EndsAtLine (bound_behind raw line_limit) xs end) → IfSome a (λ xs. EndsInChunks xs end)
ended_at_line None b raw body end run e = tt
ended_at_line (Some x) None raw body end run e = absurd run.taken
ended_at_line (Some x) (Some y) raw body end run e =
    at_line run.chunks y end run.are run.taken (subst (λ (n : ℕ). EndsAtLine (bound_behind n line_limit) y end) run.raw_is e)

begins : (x z : List ℕ) (chunks : List Chunk) (l : ChunkLine) → AreChunks chunks → IsShortLine l → Consumes (Some x) (Some z) (chunks_bytes chunks ++ print_chunk_line l)
    → BeginsWithChunks x chunks l z
begins x z chunks l are short taken = record { are = are; line = short; bytes_are = taken }

large_at : (a c : Option (List ℕ)) (chunks : List Chunk) (l : ChunkLine) → AreChunks chunks → IsShortLine l → 0 < chunk_size l → Consumes a c (chunks_bytes chunks ++ print_chunk_line l)
    → IsPastLimits chunks l → IfSome a (λ xs. EndsInChunks xs (Refused ContentTooLarge))
large_at None c chunks l are short some taken over = tt
large_at (Some x) None chunks l are short some taken over = absurd taken
large_at (Some x) (Some z) chunks l are short some taken over = too_large chunks l z (begins x z chunks l are short taken) some over

pub ended_too_large : (a b c : Option (List ℕ)) (limit raw len size : ℕ) (body : List ℕ) → TakesChunks a b raw body → TakesLine limit b c len size → 0 < size
    → (content_limit < length body + size) ⊎ (raw_limit < raw + len + size + 2) → IfSome a (λ xs. EndsInChunks xs (Refused ContentTooLarge))
ended_too_large a b c limit raw len size body run line some over =
    large_at a c run.chunks line.line run.are line.is (omega (arith, line.size_is, some)) (past_line a b c limit raw len size body run line)
    (elim over [ inl h ↦ inl (omega (arith, h, ap length run.content_is, line.size_is)) | inr h ↦ inr (omega (arith, h, run.raw_is, line.size_is, line.len_is)) ])

chunk_at : (a c : Option (List ℕ)) (chunks : List Chunk) (l : ChunkLine) (end : Finish) → AreChunks chunks → IsShortLine l → 0 < chunk_size l → ¬ IsPastLimits chunks l → Consumes a c (chunks_bytes chunks ++ print_chunk_line l)
    → IfSome c (λ xs. EndsInChunk (chunk_size l) xs end) → IfSome a (λ xs. EndsInChunks xs end)
chunk_at None c chunks l end are short some fits taken e = tt
chunk_at (Some x) None chunks l end are short some fits taken e = absurd taken
chunk_at (Some x) (Some z) chunks l end are short some fits taken e = in_chunk chunks l z end (begins x z chunks l are short taken) some fits e

pub ended_in_chunk : (a b c : Option (List ℕ)) (limit raw len size : ℕ) (body : List ℕ) (end : Finish) → TakesChunks a b raw body → TakesLine limit b c len size → 0 < size
    → length body + size ≤ content_limit → raw + len + size + 2 ≤ raw_limit
    → IfSome c (λ xs. EndsInChunk size xs end) → IfSome a (λ xs. EndsInChunks xs end)
ended_in_chunk a b c limit raw len size body end run line some room fits e =
    chunk_at a c run.chunks line.line end run.are line.is (omega (arith, line.size_is, some))
    (λ past. elim past [ inl h ↦ omega (arith, h, room, ap length run.content_is, line.size_is) | inr h ↦ omega (arith, h, fits, run.raw_is, line.size_is, line.len_is) ])
    (past_line a b c limit raw len size body run line)
    (subst (λ n. IfSome c (λ xs. EndsInChunk n xs end)) line.size_is e)

pub ended_at_trailers : (a c : Option (List ℕ)) (raw : ℕ) (body : List ℕ) (end : Finish) → TakesToLast a c raw body
    → IfSome c (λ xs. EndsAtTrailers (bound_behind raw trailer_limit) xs end) → IfSome a (λ xs. EndsInChunks xs end)
ended_at_trailers None c raw body end run e = tt
ended_at_trailers (Some x) None raw body end run e = absurd run.taken
ended_at_trailers (Some x) (Some z) raw body end run e =
    at_trailers run.chunks run.last z end (begins x z run.chunks run.last run.are run.line run.taken) run.ended
    (subst (λ (n : ℕ). EndsAtTrailers (bound_behind n trailer_limit) z end) run.raw_is e)

pub body_taken : (a c d : Option (List ℕ)) (raw limit : ℕ) (body : List ℕ) → TakesToLast a c raw body → TakesTrailers limit c d → raw + limit ≤ raw_limit → TakesChunked a d body
unfolding chunked_bytes chunked_content
body_taken a c d raw limit body run t fits =
    let e = length-append (chunks_bytes run.chunks ++ print_chunk_line run.last) (print_section t.fields t.end) in
    let f = length-append (chunks_bytes run.chunks) (print_chunk_line run.last) in
    record {
      body = record { chunks = run.chunks; last = run.last; trailers = t.fields; end = t.end };
      is = record { chunks = run.are; last = run.line; ended = run.ended; trailers = t.are; raw = omega (arith, e, f, fits, t.fits, run.raw_is) };
      taken = Consumes-trans a c d (chunks_bytes run.chunks ++ print_chunk_line run.last) (print_section t.fields t.end) run.taken t.taken;
      content_is = run.content_is;
    }

-- ---- a chunk

chunk_end_of : (size : ℕ) (x y content : List ℕ) (end : Finish) → x ≡ content ++ y → length content ≡ size → EndsAtLineEnd y end → EndsInChunk size x end
chunk_end_of size x y content Closed e h n = n
chunk_end_of size x y content Cut e h n = inr (y, record { content = content; bytes_are = e; size_is = h }, n)
chunk_end_of size x y content (Refused r) e h n = (n.0, y, record { content = content; bytes_are = e; size_is = h }, n.1)

pub chunk_end : (a b : Option (List ℕ)) (size : ℕ) (content : List ℕ) (end : Finish) → Consumes a b content → length content ≡ size → IfSome b (λ xs. EndsAtLineEnd xs end) → IfSome a (λ xs. EndsInChunk size xs end)
chunk_end None b size content end t h e = tt
chunk_end (Some x) None size content end t h e = absurd t
chunk_end (Some x) (Some y) size content end t h e = chunk_end_of size x y content end t h e
