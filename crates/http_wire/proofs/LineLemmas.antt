-- What a window over the bytes that have come says of a chunk line or a trailer section in the bytes left.
use Rattle.std.proofs.Common.{◌≡◌, ◌≢◌, Option, Result, Ok, Err, OnErr, ℕ, zero, suc, [], ◌∷◌, ◌≤◌, List, ◌++◌, None, Some, IfSome, length, take, drop, refl, sym, ap, ◌∙◌, subst, append_assoc, arith, take-append-drop, inl, inr, length-append, zero-add}
use Rattle.std.specs.Io.KnownBytes.{Keeps}
use Rattle.std.proofs.lemmas.List.{length-take-le, length-take, length-map, take-append-le}
use Rattle.std.proofs.Math.Seq.{drop-append_seam}
use Rattle.httparse.specs.Grammar.{ChunkLine, HasNoChunkLine, MayBecomeChunkLine, NeverHasChunkLine, print_chunk_line, Field, print_section, HasNoSection, NeverHasSection, MayBecomeSection}
use Rattle.httparse.specs.Spans.{IsChunkLineAt, SectionOverflows, SectionExceeds, IsSectionOf, AreFieldsAt, header_bytes, name_and_value}
use Rattle.httparse.specs.Outcome.{OnInvalid, OnTooManyHeaders}
use Rattle.httparse.specs.declared.Error.{Error}
use Rattle.httparse.specs.declared.Error.TheVariants.{HeaderName, HeaderValue, NewLine, Status, Token, TooManyHeaders, Version}
use Rattle.httparse.specs.declared.spans.HeaderSpan.{HeaderSpan}
use Rattle.http_head.specs.Left.{left}
use Rattle.http_head.specs.Limits.{trailer_limit, field_limit}
use Rattle.http_wire.specs.ChunkEnds.{HasNoLineWithin, HasNoTrailersWithin, HasWrongLines, EndsAtLine, EndsAtTrailers}
use Rattle.http_wire.specs.ChunkParts.{AreTrailersAt}
use Rattle.http_wire.specs.declared.chunk.Bound.{Bound}
use Rattle.http_head.specs.declared.end.Finish.TheVariants.{Refused}
use Rattle.http_head.specs.declared.end.Refusal.TheVariants.{BadRequest}
use Rattle.http_head.proofs.HeadLemmas.{front_of}

-- ---- windows

-- the first bytes of what has come begin those of more
front_on : (n : ℕ) (come more : List ℕ) → (rest : List ℕ) × (take n (come ++ more) ≡ take n come ++ rest)
front_on zero come more = ([], refl)
front_on (suc n) [] more = (take (suc n) more, refl)
front_on (suc n) (b ∷ come) more = let r = front_on n come more in (r.0, ap (λ l. b ∷ l) r.1)

window_of : (come more : List ℕ) (n : ℕ) → take n come ++ (drop n come ++ more) ≡ come ++ more
window_of come more n = sym (append_assoc (take n come) (drop n come) more) ∙ ap (λ l. l ++ more) (take-append-drop n come)

-- what stands at the front of a window stands at the front of all that has come
in_window : (come window part : List ℕ) (n len : ℕ) → window ≡ take n come → window ≡ part ++ drop len window → len ≡ length part
    → (come ≡ part ++ drop len come) × (len ≤ n)
in_window come window part n len e is len_is =
    let rest = drop len window in
    let whole : come ≡ part ++ (rest ++ drop n come) =
    sym (take-append-drop n come) ∙ ap (λ l. l ++ drop n come) (sym e ∙ is) ∙ append_assoc part rest (drop n come) in
    let after : drop len come ≡ rest ++ drop n come =
    ap (λ k. drop k come) len_is ∙ ap (drop (length part)) whole ∙ drop-append_seam part (rest ++ drop n come) in
    let a = ap length is in
    let b = length-append part rest in
    let d = ap length e in
    let f = length-take n come in
    (whole ∙ ap (λ l. part ++ l) (sym after), omega (arith, a, b, d, f, len_is))

-- ---- a chunk line

no_line_within : (come more : List ℕ) (n : ℕ) → n ≤ length come → HasNoChunkLine (take n come) → HasNoLineWithin n (come ++ more)
no_line_within come more n full none l rest line short e =
    let size : length (take n come) ≡ n = length-take-le n come full in
    let fits : length (print_chunk_line l) ≤ length (take n come) = omega (arith, size, short) in
    none l (drop (length (print_chunk_line l)) (take n come))
    (line, front_of (take n come) (drop n come ++ more) (print_chunk_line l) rest (window_of come more n ∙ e) fits)

-- as many bytes as a line may have hold none, and one may begin with them
pub line_endless : (bytes r : Option (List ℕ)) (come window : List ℕ) (bound : Bound) → Keeps bytes (left come r) → bound.limit ≤ length come → window ≡ take bound.limit come → HasNoChunkLine window
    → MayBecomeChunkLine window → IfSome bytes (λ xs. EndsAtLine bound xs (Refused bound.refusal))
line_endless None r come window bound p full e none may = tt
line_endless (Some x) None come window bound p full e none may = absurd p
line_endless (Some x) (Some y) come window bound p full e none may =
    let same : window ≡ take bound.limit (come ++ y) = e ∙ sym (take-append-le bound.limit come y full) in
    subst (λ xs. EndsAtLine bound xs (Refused bound.refusal)) p
    (inr (refl, omega (arith, full, length-append come y), no_line_within come y bound.limit full (subst HasNoChunkLine e none), subst MayBecomeChunkLine same may))

-- what can never begin a line can't where more stands behind it
pub line_never : (bytes r : Option (List ℕ)) (come window : List ℕ) (bound : Bound) → Keeps bytes (left come r) → window ≡ take bound.limit come → NeverHasChunkLine window
    → IfSome bytes (λ xs. EndsAtLine bound xs (Refused BadRequest))
line_never None r come window bound p e never = tt
line_never (Some x) None come window bound p e never = absurd p
line_never (Some x) (Some y) come window bound p e never =
    let n = bound.limit in
    let on = front_on n come y in
    let cut : NeverHasChunkLine (take n come) = subst NeverHasChunkLine e never in
    subst (λ xs. EndsAtLine bound xs (Refused BadRequest)) p
    (inl (refl, subst NeverHasChunkLine (sym on.1) (λ more. subst HasNoChunkLine (sym (append_assoc (take n come) on.0 more)) (cut (on.0 ++ more)))))

-- a line in the window is a line
pub line_found : (come window : List ℕ) (n len size : ℕ) → window ≡ take n come → ((l : ChunkLine) × IsChunkLineAt window len size l)
    → (l : ChunkLine) × IsChunkLineAt come len size l × (len ≤ n)
line_found come window n len size e h =
    let r = in_window come window (print_chunk_line h.0) n len e h.1.reads.1 h.1.len_is in
    (h.0, record { reads = (h.1.reads.0, r.0); len_is = h.1.len_is; size_is = h.1.size_is }, r.1)

-- ---- a trailer section

section_few : (buf : List ℕ) (headers : List HeaderSpan) (count : ℕ) (fields : List Field) → AreFieldsAt buf headers count fields → length headers ≡ 64 → length fields ≤ field_limit
section_few buf headers count fields e room =
    let a = ap length e in
    let b = length-map (take count headers) (header_bytes buf) in
    let d = length-map fields name_and_value in
    let f = length-take count headers in
    omega (arith, a, b, d, f, room)

-- a section in the window is a section
pub trailers_found : (come window : List ℕ) (headers : List HeaderSpan) (n len count : ℕ) → window ≡ take n come → n ≤ trailer_limit → length headers ≡ 64
    → IsSectionOf window 0 headers (len, count) → AreTrailersAt come len × (len ≤ n)
trailers_found come window headers n len count e small room h =
    let fields = h.0 in
    let end = h.1 in
    let at = h.2 in
    let r = in_window come window (print_section fields end) n len e at.reads.1 (at.len_is ∙ zero-add (length (print_section fields end))) in
    let same : len ≡ length (print_section fields end) = at.len_is ∙ zero-add (length (print_section fields end)) in (
      record {
        fields = fields;
        end = end;
        are = record { each = at.reads.0; few = section_few window headers count fields at.fields_are room; short = omega (arith, r.1, small, same) };
        bytes = r.0;
        len_is = same;
      },
      r.1,
    )

-- more field lines than a section may have stand there, whatever bytes follow
overflown : (window more : List ℕ) (n : ℕ) → SectionOverflows 64 window → HasNoTrailersWithin n (window ++ more)
overflown window more n over fields end rest are short e = omega (arith, over more fields end rest (are.each, e), are.few)

never_on : (window rest : List ℕ) → NeverHasSection window → NeverHasSection (window ++ rest)
never_on window rest never more = subst HasNoSection (sym (append_assoc window rest more)) (never (rest ++ more))

exceeds_on : (window rest : List ℕ) → SectionExceeds field_limit window → SectionExceeds field_limit (window ++ rest)
exceeds_on window rest x = (x.0, x.1 ++ rest, ap (λ l. l ++ rest) x.2 ∙ append_assoc x.0 x.1 rest, x.3, x.4, x.5)

wrong_on : (window rest : List ℕ) → HasWrongLines window → HasWrongLines (window ++ rest)
wrong_on window rest wrong = elim wrong [ inl h ↦ inl (never_on window rest h) | inr h ↦ inr (exceeds_on window rest h) ]

-- either of the two for which it is refused
wrong_by : (window : List ℕ) (e : Error) → (e ≢ TooManyHeaders → NeverHasSection window) → (e ≡ TooManyHeaders → SectionExceeds 64 window) → HasWrongLines window
wrong_by window HeaderName never many = inl (never (λ s. absurd cc))
wrong_by window HeaderValue never many = inl (never (λ s. absurd cc))
wrong_by window NewLine never many = inl (never (λ s. absurd cc))
wrong_by window Status never many = inl (never (λ s. absurd cc))
wrong_by window Token never many = inl (never (λ s. absurd cc))
wrong_by window TooManyHeaders never many = inr (many refl)
wrong_by window Version never many = inl (never (λ s. absurd cc))

pub trailers_wrong : {A : Type 0} (window : List ℕ) (r : Result A Error) → OnInvalid r (NeverHasSection window) → OnTooManyHeaders r (SectionExceeds 64 window) → OnErr r (HasWrongLines window)
trailers_wrong window (Ok a) invalid many = tt
trailers_wrong window (Err e) invalid many = wrong_by window e invalid (λ s. many (ap Err s))

pub trailers_refused : (bytes r : Option (List ℕ)) (come window : List ℕ) (bound : Bound) → Keeps bytes (left come r) → window ≡ take bound.limit come → SectionOverflows 64 window
    → HasWrongLines window → IfSome bytes (λ xs. EndsAtTrailers bound xs (Refused BadRequest))
trailers_refused None r come window bound p e over wrong = tt
trailers_refused (Some x) None come window bound p e over wrong = absurd p
trailers_refused (Some x) (Some y) come window bound p e over wrong =
    let n = bound.limit in
    let on = front_on n come y in
    let none : HasNoTrailersWithin n (come ++ y) =
    subst (HasNoTrailersWithin n) (window_of come y n) (overflown (take n come) (drop n come ++ y) n (subst (SectionOverflows 64) e over)) in
    let cut : HasWrongLines (take n (come ++ y)) = subst HasWrongLines (sym on.1) (wrong_on (take n come) on.0 (subst HasWrongLines e wrong)) in
    subst (λ xs. EndsAtTrailers bound xs (Refused BadRequest)) p (inl (refl, none, cut))

-- as many bytes as a section may have hold none, and one may begin with them
pub trailers_endless : (bytes r : Option (List ℕ)) (come window : List ℕ) (bound : Bound) → Keeps bytes (left come r) → bound.limit ≤ length come → window ≡ take bound.limit come → HasNoSection window
    → MayBecomeSection window → IfSome bytes (λ xs. EndsAtTrailers bound xs (Refused bound.refusal))
trailers_endless None r come window bound p full e none may = tt
trailers_endless (Some x) None come window bound p full e none may = absurd p
trailers_endless (Some x) (Some y) come window bound p full e none may =
    let same : window ≡ take bound.limit (come ++ y) = e ∙ sym (take-append-le bound.limit come y full) in
    subst (λ xs. EndsAtTrailers bound xs (Refused bound.refusal)) p
    (inr (refl, omega (arith, full, length-append come y), subst HasNoSection same none, subst MayBecomeSection same may))
