-- Bytes begin with at most one head, and with at most one body of a framing.
use Rattle.std.proofs.Common.{◌≡◌, ℕ, List, [], ◌∷◌, ◌++◌, All, length, take, drop, refl, sym, ap, ap₂, ◌∙◌, append_assoc, append-nil, arith}
use Rattle.std.proofs.Math.Seq.{take-append_seam, drop-append_seam}
use Rattle.std.proofs.lemmas.List.{append_cancel_left}
use Rattle.std.proofs.lemmas.List.Elements.{All-head, All-tail}
use Rattle.httparse.specs.Ascii.{crlf_bytes}
use Rattle.httparse.specs.Grammar.{RequestHead, ChunkLine, IsChunkLine, print_chunk_line, chunk_size, print_section}
use Rattle.httparse.proofs.GrammarLemmas.{request_unique, section_unique}
use Rattle.httparse.proofs.ChunkLemmas.{chunk_line_unique}
use Rattle.http_head.specs.Head.{BeginsHead}
use Rattle.http_head.specs.declared.framing.Framing.{Framing}
use Rattle.http_head.specs.declared.framing.Framing.TheVariants.{Nothing, Sized, Chunked}
use Rattle.http_wire.specs.Chunks.{Chunk, ChunkedBody, IsChunk, IsChunkedBody, chunk_bytes, chunks_bytes, chunked_bytes, chunked_content}
use Rattle.http_wire.specs.Bodies.{IsBody}

pub one_head : (bytes : List ℕ) (h k : RequestHead) (r q : List ℕ) → BeginsHead bytes h r → BeginsHead bytes k q → (h ≡ k) × (r ≡ q)
one_head bytes h k r q x y = request_unique bytes h k r q x.reads y.reads

-- fronts of one length
pub same_front : (a b r q : List ℕ) → length a ≡ length b → a ++ r ≡ b ++ q → (a ≡ b) × (r ≡ q)
same_front a b r q n e = (
  sym (take-append_seam a r) ∙ ap₂ take n e ∙ take-append_seam b q,
  sym (drop-append_seam a r) ∙ ap₂ drop n e ∙ drop-append_seam b q,
)

-- ---- chunks

pub chunk_then : (c : Chunk) (cs : List Chunk) (r : List ℕ)
    → chunks_bytes (c ∷ cs) ++ r ≡ print_chunk_line c.line ++ (c.content ++ (crlf_bytes ++ (chunks_bytes cs ++ r)))
unfolding chunks_bytes
chunk_then c cs r =
    let line = print_chunk_line c.line in
    append_assoc (chunk_bytes c) (chunks_bytes cs) r
    ∙ append_assoc (line ++ c.content) crlf_bytes (chunks_bytes cs ++ r)
    ∙ append_assoc line c.content (crlf_bytes ++ (chunks_bytes cs ++ r))

pub no_chunks : (r : List ℕ) → chunks_bytes [] ++ r ≡ r
unfolding chunks_bytes
no_chunks r = refl

-- the line of a chunk isn't that of the last one
not_last : (c : Chunk) (l : ChunkLine) → IsChunk c → chunk_size l ≡ 0 → l ≡ c.line → ⊥
not_last c l is none e = omega (arith, is.some, is.size, none, ap chunk_size e)

-- of chunks and the line of the last one, chunks that stand at the front are the first
pub front_run : (xs ys : List Chunk) (l : ChunkLine) (r t : List ℕ) → All IsChunk xs → All IsChunk ys → IsChunkLine l → chunk_size l ≡ 0
    → chunks_bytes xs ++ (print_chunk_line l ++ r) ≡ chunks_bytes ys ++ t
    → (zs : List Chunk) × (xs ≡ ys ++ zs) × (t ≡ chunks_bytes zs ++ (print_chunk_line l ++ r)) × All IsChunk zs
front_run xs [] l r t ax ay is none e = (xs, refl, sym (no_chunks t) ∙ sym e, ax)
front_run [] (y ∷ ys) l r t ax ay is none e =
    let c = All-head IsChunk y ys ay in
    let same = chunk_line_unique (print_chunk_line l ++ r) l y.line r _ (is, refl) (c.line.line, sym (no_chunks _) ∙ e ∙ chunk_then y ys _) in
    absurd (not_last y l c none same.0)
front_run (x ∷ xs) (y ∷ ys) l r t ax ay is none e =
    let i = All-head IsChunk x xs ax in
    let j = All-head IsChunk y ys ay in
    let line = chunk_line_unique (chunks_bytes (x ∷ xs) ++ (print_chunk_line l ++ r)) x.line y.line _ _ (i.line.line, chunk_then x xs _) (j.line.line, e ∙ chunk_then y ys _) in
    let content = same_front x.content y.content _ _ (sym i.size ∙ ap chunk_size line.0 ∙ j.size) line.1 in
    let rest = front_run xs ys l r t (All-tail IsChunk x xs ax) (All-tail IsChunk y ys ay) is none (append_cancel_left crlf_bytes _ _ content.1) in
    let head : x ≡ y = λ n. record { line = line.0 n; content = content.0 n } in
    (rest.0, ap₂ (λ c cs. c ∷ cs) head rest.1, rest.2, rest.3)

-- no chunk stands where the line of the last one does
pub at_last : (zs : List Chunk) (l k : ChunkLine) (r q : List ℕ) → All IsChunk zs → IsChunkLine l → IsChunkLine k → chunk_size k ≡ 0
    → print_chunk_line k ++ q ≡ chunks_bytes zs ++ (print_chunk_line l ++ r) → (zs ≡ []) × (l ≡ k) × (r ≡ q)
at_last [] l k r q az il ik none e =
    let same = chunk_line_unique (print_chunk_line k ++ q) l k r q (il, e ∙ no_chunks _) (ik, refl) in
    (refl, same.0, same.1)
at_last (z ∷ zs) l k r q az il ik none e =
    let c = All-head IsChunk z zs az in
    let same = chunk_line_unique (print_chunk_line k ++ q) k z.line q _ (ik, refl) (c.line.line, e ∙ chunk_then z zs _) in
    absurd (not_last z k c none same.0)

-- chunks, the line of the last one, and what follows
one_run : (xs ys : List Chunk) (l k : ChunkLine) (r q : List ℕ) → All IsChunk xs → All IsChunk ys → IsChunkLine l → IsChunkLine k → chunk_size l ≡ 0 → chunk_size k ≡ 0
    → chunks_bytes xs ++ (print_chunk_line l ++ r) ≡ chunks_bytes ys ++ (print_chunk_line k ++ q) → (xs ≡ ys) × (l ≡ k) × (r ≡ q)
one_run xs ys l k r q ax ay il ik zl zk e =
    let front = front_run xs ys l r _ ax ay il zl e in
    let last = at_last front.0 l k r q front.3 il ik zk front.2 in
    (front.1 ∙ ap (λ zs. ys ++ zs) last.0 ∙ append-nil ys, last.1, last.2)

-- ---- bodies

pub chunked_then : (b : ChunkedBody) (r : List ℕ) → chunked_bytes b ++ r ≡ chunks_bytes b.chunks ++ (print_chunk_line b.last ++ (print_section b.trailers b.end ++ r))
unfolding chunked_bytes
chunked_then b r =
    let chunks = chunks_bytes b.chunks in
    let line = print_chunk_line b.last in
    let section = print_section b.trailers b.end in
    append_assoc (chunks ++ line) section r ∙ append_assoc chunks line (section ++ r)

one_chunked : (b d : ChunkedBody) (r q : List ℕ) → IsChunkedBody b → IsChunkedBody d → chunked_bytes b ++ r ≡ chunked_bytes d ++ q → (b ≡ d) × (r ≡ q)
one_chunked b d r q x y e =
    let run = one_run b.chunks d.chunks b.last d.last _ _ x.chunks.each y.chunks.each x.last.line y.last.line x.ended y.ended (sym (chunked_then b r) ∙ e ∙ chunked_then d q) in
    let section = section_unique (print_section b.trailers b.end ++ r) b.trailers d.trailers b.end d.end r q (x.trailers.each, refl) (y.trailers.each, run.2) in
    (λ n. record { chunks = run.0 n; last = run.1 n; trailers = section.0 n; end = section.1 n }, section.2)

pub one_body : (f : Framing) (a b c d r q : List ℕ) → IsBody f a c → IsBody f b d → a ++ r ≡ b ++ q → (a ≡ b) × (c ≡ d) × (r ≡ q)
one_body Nothing a b c d r q x y e =
    let same = same_front a b r q (ap length (x.0 ∙ sym y.0)) e in
    (same.0, x.1 ∙ sym y.1, same.1)
one_body (Sized n) a b c d r q x y e =
    let same = same_front a b r q (ap length x.0 ∙ x.1 ∙ sym y.1 ∙ ap length (sym y.0)) e in
    (same.0, sym x.0 ∙ same.0 ∙ y.0, same.1)
one_body Chunked a b c d r q x y e =
    let same = one_chunked x.0 y.0 r q x.1 y.1 (ap (λ l. l ++ r) (sym x.2) ∙ e ∙ ap (λ l. l ++ q) y.2) in
    (x.2 ∙ ap chunked_bytes same.0 ∙ sym y.2, x.3 ∙ ap chunked_content same.0 ∙ sym y.3, same.1)
