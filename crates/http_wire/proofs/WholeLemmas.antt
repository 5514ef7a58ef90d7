-- Where a whole head or a whole body stands, a connection doesn't end for want of it.
use Rattle.std.proofs.Common.{◌≡◌, ℕ, ◌+◌, ◌-◌, ◌<◌, ◌≤◌, Bool, true, false, List, [], ◌∷◌, ◌++◌, All, length, take, drop, refl, sym, ap, ◌∙◌, append_assoc, append-nil, arith, inl, inr, length-append, take-append-drop}
use Rattle.std.specs.Prelude.{nat_lt, if◌then◌else◌}
use Rattle.std.specs.List.{flat_map}
use Rattle.std.proofs.lemmas.Grind.{flat_map-append}
use Rattle.std.proofs.lemmas.List.{length-take-le}
use Rattle.std.proofs.lemmas.List.Elements.{All-head}
use Rattle.httparse.specs.Ascii.{crlf_bytes}
use Rattle.httparse.specs.Grammar.{RequestHead, print_blank, ChunkLine, print_chunk_line, chunk_size, Field, LineEnd, print_section, HasNoSection}
use Rattle.httparse.proofs.GrammarLemmas.{print_request-append}
use Rattle.httparse.proofs.ChunkLemmas.{chunk_line_unique}
use Rattle.http_head.proofs.HeadLemmas.{front_of}
use Rattle.http_head.specs.Head.{BeginsHead, EndsWithoutHead}
use Rattle.http_head.specs.Limits.{head_limit, line_limit, raw_limit, trailer_limit}
use Rattle.http_head.specs.declared.end.Finish.{Finish}
use Rattle.http_head.specs.declared.end.Finish.TheVariants.{Closed, Cut, Refused}
use Rattle.http_head.specs.declared.end.Refusal.TheVariants.{BadRequest, ContentTooLarge}
use Rattle.http_head.specs.declared.framing.Framing.{Framing}
use Rattle.http_head.specs.declared.framing.Framing.TheVariants.{Nothing, Sized, Chunked}
use Rattle.http_wire.specs.Chunks.{Chunk, ChunkedBody, IsChunk, IsShortLine, IsChunkedBody, AreTrailers, chunk_bytes, chunks_bytes, chunks_content, content_of, chunked_bytes}
use Rattle.http_wire.specs.ChunkEnds.{EndsAtLine, EndsAtTrailers, EndsInChunk, EndsInChunks, IsOpenLineEnd, at_line, too_large, in_chunk, at_trailers, bound_behind}
use Rattle.http_wire.specs.Bodies.{IsBody, EndsInBody}
use Rattle.http_wire.specs.declared.chunk.Bound.{Bound}
use Rattle.http_wire.proofs.ReadingLemmas.{front_run, at_last, same_front, chunk_then, no_chunks, chunked_then}

-- ---- heads

some_bytes : (a m t bytes : List ℕ) → 0 < length m → bytes ≡ a ++ (m ++ t) → ¬ (bytes ≡ [])
some_bytes a m t bytes some e none = omega (arith, some, ap length e, ap length none, length-append a (m ++ t), length-append m t)

pub head_whole : (bytes : List ℕ) (h : RequestHead) (rest : List ℕ) (end : Finish) → BeginsHead bytes h rest → ¬ EndsWithoutHead bytes end
head_whole bytes h rest Closed x n = some_bytes (print_blank h.blank) h.method _ bytes x.reads.0.method.0 (x.reads.1 ∙ print_request-append h rest) n
head_whole bytes h rest Cut x n = n.2 h rest x.reads
head_whole bytes h rest (Refused r) x n = elim n [
  | inl k ↦ k.1 (drop head_limit bytes) h rest (x.reads.0, take-append-drop head_limit bytes ∙ x.reads.1)
  | inr k ↦ k.1 h rest x
]

-- ---- parts of a chunked body that stand there whole

-- what fits its own limit and what the raw limit leaves
abbrev bound_of : ℕ → ℕ → Bool → Bound
bound_of raw limit b = if b then record { limit = raw_limit - raw; refusal = ContentTooLarge } else record { limit = limit; refusal = BadRequest }

bound_fits : (raw limit n : ℕ) → n ≤ limit → raw + n ≤ raw_limit → n ≤ (bound_behind raw limit).limit
bound_fits raw limit n small fits = of (nat_lt (raw_limit - raw) limit)
  where
    of : (b : Bool) → n ≤ (bound_of raw limit b).limit
    of true = omega (arith, fits)
    of false = small

whole_line : (bound : Bound) (l : ChunkLine) (bytes rest : List ℕ) (end : Finish) → IsShortLine l → length (print_chunk_line l) ≤ bound.limit → bytes ≡ print_chunk_line l ++ rest → ¬ EndsAtLine bound bytes end
whole_line bound l bytes rest Closed is fits e n = n
whole_line bound l bytes rest Cut is fits e n = n.1 l rest (is.line, e)
whole_line bound l bytes rest (Refused r) is fits e n = elim n [
  | inl h ↦ h.1 (drop bound.limit bytes) l rest (is.line, take-append-drop bound.limit bytes ∙ e)
  | inr h ↦ h.2 l rest is.line fits e
]

whole_line_end : (bytes rest : List ℕ) → bytes ≡ crlf_bytes ++ rest → ¬ IsOpenLineEnd bytes
whole_line_end bytes rest e n = elim n [
  | inl h ↦ omega (arith, ap length h, ap length e, length-append crlf_bytes rest)
  | inr h ↦ omega (arith, ap length h, ap length e, length-append crlf_bytes rest)
]

whole_chunk : (size : ℕ) (content bytes rest : List ℕ) (end : Finish) → length content ≡ size → bytes ≡ content ++ (crlf_bytes ++ rest) → ¬ EndsInChunk size bytes end
whole_chunk size content bytes rest Closed long e n = n
whole_chunk size content bytes rest Cut long e n = elim n [
  | inl h ↦ omega (arith, h, long, ap length e, length-append content (crlf_bytes ++ rest))
  | inr h ↦ whole_line_end h.0 rest (same_front h.1.content content h.0 _ (h.1.size_is ∙ sym long) (sym h.1.bytes_are ∙ e)).1 h.2
]
whole_chunk size content bytes rest (Refused r) long e n =
    let same = same_front n.2.content content n.1 _ (n.2.size_is ∙ sym long) (sym n.2.bytes_are ∙ e) in
    n.3 [] rest (append-nil n.1 ∙ same.1)

no_section_within : (n : ℕ) (bytes : List ℕ) (fields : List Field) (end : LineEnd) (rest : List ℕ) → AreTrailers fields end → length (print_section fields end) ≤ n
    → bytes ≡ print_section fields end ++ rest → n ≤ length bytes → ¬ HasNoSection (take n bytes)
no_section_within n bytes fields end rest are fits e full none =
    let size : length (take n bytes) ≡ n = length-take-le n bytes full in
    let within : length (print_section fields end) ≤ length (take n bytes) = omega (arith, size, fits) in
    none fields end (drop (length (print_section fields end)) (take n bytes))
    (are.each, front_of (take n bytes) (drop n bytes) (print_section fields end) rest (take-append-drop n bytes ∙ e) within)

whole_trailers : (bound : Bound) (b : ChunkedBody) (bytes rest : List ℕ) (end : Finish) → AreTrailers b.trailers b.end → length (print_section b.trailers b.end) ≤ bound.limit
    → bytes ≡ print_section b.trailers b.end ++ rest → ¬ EndsAtTrailers bound bytes end
whole_trailers bound b bytes rest Closed are fits e n = n
whole_trailers bound b bytes rest Cut are fits e n = n.1 b.trailers b.end rest (are.each, e)
whole_trailers bound b bytes rest (Refused r) are fits e n = elim n [
  | inl h ↦ h.1 b.trailers b.end rest are fits e
  | inr h ↦ no_section_within bound.limit bytes b.trailers b.end rest are fits e h.1 h.2
]

-- ---- chunks

run_bytes : (ys zs : List Chunk) → length (chunks_bytes (ys ++ zs)) ≡ length (chunks_bytes ys) + length (chunks_bytes zs)
unfolding chunks_bytes
run_bytes ys zs = ap length (flat_map-append chunk_bytes ys zs) ∙ length-append (flat_map chunk_bytes ys) (flat_map chunk_bytes zs)

run_content : (ys zs : List Chunk) → length (chunks_content (ys ++ zs)) ≡ length (chunks_content ys) + length (chunks_content zs)
unfolding chunks_content
run_content ys zs = ap length (flat_map-append content_of ys zs) ∙ length-append (flat_map content_of ys) (flat_map content_of zs)

one_bytes : (z : Chunk) (zs : List Chunk) → length (print_chunk_line z.line) + length z.content + 2 ≤ length (chunks_bytes (z ∷ zs))
unfolding chunks_bytes
one_bytes z zs =
    let e = length-append (chunk_bytes z) (flat_map chunk_bytes zs) in
    let f = length-append (print_chunk_line z.line ++ z.content) crlf_bytes in
    let g = length-append (print_chunk_line z.line) z.content in
    omega (arith, e, f, g)

one_content : (z : Chunk) (zs : List Chunk) → length z.content ≤ length (chunks_content (z ∷ zs))
unfolding chunks_content
one_content z zs = omega (arith, length-append z.content (flat_map content_of zs))

body_length : (b : ChunkedBody) → length (chunked_bytes b) ≡ length (chunks_bytes b.chunks) + length (print_chunk_line b.last) + length (print_section b.trailers b.end)
unfolding chunked_bytes
body_length b =
    let e = length-append (chunks_bytes b.chunks ++ print_chunk_line b.last) (print_section b.trailers b.end) in
    let f = length-append (chunks_bytes b.chunks) (print_chunk_line b.last) in
    omega (arith, e, f)

-- behind the first chunks of a body stands a line
not_at_line : (b : ChunkedBody) (ys zs : List Chunk) (t s : List ℕ) (end : Finish) → IsChunkedBody b → b.chunks ≡ ys ++ zs → All IsChunk zs
    → t ≡ chunks_bytes zs ++ (print_chunk_line b.last ++ s) → ¬ EndsAtLine (bound_behind (length (chunks_bytes ys)) line_limit) t end
not_at_line b ys [] t s end is e az at =
    let raw = run_bytes ys [] in
    let all = ap (λ cs. length (chunks_bytes cs)) e in
    whole_line _ b.last t s end is.last (bound_fits (length (chunks_bytes ys)) line_limit _ is.last.short (omega (arith, raw, all, body_length b, is.raw))) (at ∙ no_chunks _)
not_at_line b ys (z ∷ zs) t s end is e az at =
    let c = All-head IsChunk z zs az in
    let raw = run_bytes ys (z ∷ zs) in
    let all = ap (λ cs. length (chunks_bytes cs)) e in
    whole_line _ z.line t _ end c.line (bound_fits (length (chunks_bytes ys)) line_limit _ c.line.short (omega (arith, raw, all, one_bytes z zs, body_length b, is.raw))) (at ∙ chunk_then z zs _)

-- a line behind them that tells a size is that of the next chunk
record IsNext (b : ChunkedBody) (ys : List Chunk) (l : ChunkLine) (rest : List ℕ) : Type 0 where
  next : Chunk
  others : List Chunk
  behind : List ℕ
  all : b.chunks ≡ ys ++ next ∷ others
  is : IsChunk next
  line : l ≡ next.line
  rest_is : rest ≡ next.content ++ (crlf_bytes ++ behind)

next_of : (b : ChunkedBody) (ys zs : List Chunk) (l : ChunkLine) (rest s : List ℕ) → IsChunkedBody b → b.chunks ≡ ys ++ zs → All IsChunk zs → IsShortLine l → 0 < chunk_size l
    → print_chunk_line l ++ rest ≡ chunks_bytes zs ++ (print_chunk_line b.last ++ s) → IsNext b ys l rest
next_of b ys [] l rest s is e az short some at =
    let same = chunk_line_unique (print_chunk_line l ++ rest) l b.last rest s (short.line, refl) (is.last.line, at ∙ no_chunks _) in
    absurd (omega (arith, some, is.ended, ap chunk_size same.0))
next_of b ys (z ∷ zs) l rest s is e az short some at =
    let c = All-head IsChunk z zs az in
    let same = chunk_line_unique (print_chunk_line l ++ rest) l z.line rest _ (short.line, refl) (c.line.line, at ∙ chunk_then z zs _) in
    record { next = z; others = zs; behind = _; all = e; is = c; line = same.0; rest_is = same.1 }

chunked_whole : (b : ChunkedBody) (bytes r : List ℕ) (end : Finish) → IsChunkedBody b → bytes ≡ chunked_bytes b ++ r → ¬ EndsInChunks bytes end
chunked_whole b bytes r _ is e (at_line ys rest end are from n) =
    let front = front_run b.chunks ys b.last _ rest is.chunks.each are.each is.last.line is.ended (sym (chunked_then b r) ∙ sym e ∙ from) in
    not_at_line b ys front.0 rest _ end is front.1 front.3 front.2 n
chunked_whole b bytes r _ is e (too_large ys l rest begins some past) =
    let front = front_run b.chunks ys b.last _ _ is.chunks.each begins.are.each is.last.line is.ended (sym (chunked_then b r) ∙ sym e ∙ begins.bytes_are ∙ append_assoc (chunks_bytes ys) (print_chunk_line l) rest) in
    let next = next_of b ys front.0 l rest _ is front.1 front.3 begins.line some front.2 in
    let raw = run_bytes ys (next.next ∷ next.others) in
    let all = ap (λ cs. length (chunks_bytes cs)) next.all in
    let wide = run_content ys (next.next ∷ next.others) in
    let content = ap (λ cs. length (chunks_content cs)) next.all in
    let size = ap chunk_size next.line ∙ next.is.size in
    elim past [
      | inl h ↦ omega (arith, h, wide, content, size, one_content next.next next.others, is.chunks.fits)
      | inr h ↦ omega (arith, h, raw, all, size, ap (λ k. length (print_chunk_line k)) next.line, one_bytes next.next next.others, is.chunks.raw)
    ]
chunked_whole b bytes r _ is e (in_chunk ys l rest end begins some fits n) =
    let front = front_run b.chunks ys b.last _ _ is.chunks.each begins.are.each is.last.line is.ended (sym (chunked_then b r) ∙ sym e ∙ begins.bytes_are ∙ append_assoc (chunks_bytes ys) (print_chunk_line l) rest) in
    let next = next_of b ys front.0 l rest _ is front.1 front.3 begins.line some front.2 in
    whole_chunk (chunk_size l) next.next.content rest next.behind end (sym (ap chunk_size next.line ∙ next.is.size)) next.rest_is n
chunked_whole b bytes r _ is e (at_trailers ys l rest end begins none n) =
    let front = front_run b.chunks ys b.last _ _ is.chunks.each begins.are.each is.last.line is.ended (sym (chunked_then b r) ∙ sym e ∙ begins.bytes_are ∙ append_assoc (chunks_bytes ys) (print_chunk_line l) rest) in
    let last = at_last front.0 b.last l _ rest front.3 is.last.line begins.line.line none front.2 in
    let all = ap (λ cs. length (chunks_bytes cs)) (front.1 ∙ ap (λ zs. ys ++ zs) last.0 ∙ append-nil ys) in
    whole_trailers _ b rest r end is.trailers
    (bound_fits (length (chunks_bytes ys) + length (print_chunk_line l)) trailer_limit _ is.trailers.short (omega (arith, all, ap (λ k. length (print_chunk_line k)) last.1, body_length b, is.raw))) (sym last.2) n

pub body_whole : (f : Framing) (raw content rest : List ℕ) (end : Finish) → IsBody f raw content → ¬ EndsInBody f (raw ++ rest) end
body_whole Nothing raw content rest end is n = n
body_whole (Sized k) raw content rest end is n = omega (arith, n.1, length-append raw rest, ap length is.0, is.1)
body_whole Chunked raw content rest end is n = chunked_whole is.0 (raw ++ rest) rest end is.1 (ap (λ l. l ++ rest) is.2) n
