-- The bytes that were sent are those of the document.
use Rattle.std.proofs.Common.{◌≡◌, ◌⊎◌, inl, inr, ℕ, zero, suc, ◌+◌, ◌<◌, ◌≤◌, List, [], ◌∷◌, ◌++◌, map, filter, flat_map, length, take, Bool, true, false, ◌&&◌, ◌==◌, if◌then◌else◌, Option, Some, None, refl, sym, ap, subst, subst₂, ◌∙◌, arith, append-nil, append_assoc, length-append, Less}
use Rattle.std.specs.Io.KnownBytes.{Appends}
use Rattle.std.specs.List.{AllByRecursion as Each, concat, range_with_len}
use Rattle.std.specs.List.Sorted.{IsPermutation}
use Rattle.std.proofs.Math.Seq.{take-append_seam}
use Rattle.std.proofs.lemmas.Grind.{flat_map-append}
use Rattle.sqlite_trees.proofs.ListLemmas.{map-map}
use Rattle.sqlite.specs.declared.types.Value.TheVariants.{Null, Blob}
use Rattle.sqlite.specs.Order.{Row, column}
use Rattle.sqlite.specs.Query.{Query, Output, output_cmp}
use Rattle.sqlite.specs.Effect.{Reads}
use Rattle.sqlite.specs.Listing.{understood, reads_listing, IsSourceOf}
use Rattle.sqlite.specs.State.{State, Begins}
use Rattle.sqlite.proofs.Callers.{IsPlain, command_of}
use Rattle.queue_core.specs.Shown.{document_at}
use Rattle.queue_core.specs.World.{World, Entry, rows, job_at}
use Rattle.queue_types.specs.declared.document.Document.{Document}
use Rattle.queue_rows.specs.Pieces.{pieces_in, piece_at}
use Rattle.queue_rows.proofs.WorldFrom.{joined}
use Rattle.queue_tables.specs.Content.{Holds, content_of, piece_rows, pieces_from}
use Rattle.queue_tables.proofs.PlainQueries.{plain_query}
use Rattle.queue_tables.specs.Steps.{AreDistinct}
use Rattle.queue_tables.specs.Tables.{book_schema}
use Rattle.queue_tables.specs.Values.{number, piece_values, piece_view}
use Rattle.queue_tables.proofs.Writing.{IsListing, lists, begins_rows}
use Rattle.queue_shown.specs.Fetched.{document_in, job_may_be_fetched}
use Rattle.queue_shown.specs.Sent.{pieces_select, piece_bytes, bytes_of, Answers, HasSent, HasSentFront}
use Rattle.queue_shown.proofs.DocumentParts.{is_of, of_numbers, rows_from, all_rows, chosen, only_document}
use Rattle.queue_shown.proofs.Fetching.{shown_document}
use Rattle.queue_shown.proofs.Ordered.{Rises, less_value, listed_values, in_order}
use Rattle.queue_shown.proofs.Texts.{select_pieces, select_pieces_is}

-- ---- the pieces of one document among those of all

abbrev part : ℕ → ℕ → Document → List Row
part m k d = piece_rows m k d.bytes

parts_are : (m k : ℕ) (ds : List Document) → pieces_from m k ds ≡ rows_from part m k ds
parts_are m k [] = refl
parts_are m k (d ∷ ds) = ap (λ (rs : List Row). piece_rows m k d.bytes ++ rs) (parts_are m (k + 1) ds)

all_are : (es : List Entry) → flat_map (λ (e : Entry). pieces_from e.row.number 1 e.documents) es ≡ all_rows part es
all_are [] = refl
all_are (e ∷ es) =
    ap (λ (rs : List Row). rs ++ flat_map (λ (e : Entry). pieces_from e.row.number 1 e.documents) es) (parts_are e.row.number 1 e.documents)
    ∙ ap (λ (rs : List Row). rows_from part e.row.number 1 e.documents ++ rs) (all_are es)

-- one test for all
all_alike : (p : Row → Bool) (b : Bool) (f : ℕ → Row) → ((k : ℕ) → p (f k) ≡ b) → (ks : List ℕ) → filter p (map f ks) ≡ (if b then map f ks else [])
all_alike p true f alike [] = refl
all_alike p false f alike [] = refl
all_alike p true f alike (k ∷ ks) = rw (alike k) (ap (λ (rs : List Row). f k ∷ rs) (all_alike p true f alike ks))
all_alike p false f alike (k ∷ ks) = rw (alike k) (all_alike p false f alike ks)

tests : (job n m k : ℕ) (d : Document) → filter (is_of job n) (part m k d) ≡ (if (m == job) && (k == n) then part m k d else [])
tests job n m k d =
    all_alike (is_of job n) ((m == job) && (k == n)) (λ i. piece_values m k i (piece_at d.bytes i)) (λ i. of_numbers job n m k (number i ∷ Blob (piece_at d.bytes i) ∷ [])) (range_with_len 0 (pieces_in (length d.bytes)))

only : (job n : ℕ) (w : World) (d : Document) → AreDistinct w.jobs → document_in w.jobs job n ≡ Some d → filter (is_of job n) (content_of w).pieces ≡ piece_rows job n d.bytes
only job n w d distinct there = ap (filter (is_of job n)) (all_are w.jobs) ∙ only_document part job n (tests job n) w.jobs distinct ∙ ap (chosen part job n) there

-- ---- in order

abbrev pub out : Row → Output
out v = (column v 2 ∷ [], column v 3 ∷ [])

abbrev sent : List ℕ → ℕ → Output
sent bytes k = (number k ∷ [], Blob (piece_at bytes k) ∷ [])

abbrev query : Query
query = plain_query 4 select_pieces.filter select_pieces.terms select_pieces.order

by_number : (bytes : List ℕ) (a b : ℕ) → a < b → output_cmp query (sent bytes a) (sent bytes b) ≡ Less
by_number bytes a b low = rw (less_value a b low) refl

above : (k j n : ℕ) → k < j → Each (λ (i : ℕ). k < i) (range_with_len j n)
above k j zero low = tt
above k j (suc n) low = (low, above k (j + 1) n (omega (arith, low)))

counts_up : (j n : ℕ) → Rises (λ (i : ℕ). i) (range_with_len j n)
counts_up j zero = tt
counts_up j (suc n) = (above j (j + 1) n (omega arith), counts_up (j + 1) n)

sent_bytes : (bytes : List ℕ) (ks : List ℕ) → bytes_of (map (λ (o : Output). o.1) (map (sent bytes) ks)) ≡ concat (map (piece_at bytes) ks)
sent_bytes bytes [] = refl
sent_bytes bytes (k ∷ ks) = ap (λ (l : List ℕ). piece_at bytes k ++ l) (sent_bytes bytes ks)

-- ---- what is shown

answers_listed : (s : State) (params : Row) (shown : List Row) → s.now.schema ≡ book_schema → Answers pieces_select params s shown → IsListing 4 select_pieces.filter select_pieces.terms select_pieces.order params (s.now.trees 4) shown
answers_listed s params shown has h =
    let known = sym h.1.is ∙ ap (λ t. understood t pieces_select) has in
    let bare = subst IsPlain (sym known) select_pieces_is.shows.plain in
    let db : h.3 ≡ s.now = subst (λ b. IsSourceOf b s.now h.3) (ap (λ t. reads_listing t pieces_select) has ∙ select_pieces_is.shows.unlisted) h.4 in
    let read = subst₂ (λ k b. Reads k b params shown) (ap command_of known ∙ select_pieces_is.shows.command) db (rw (bare.1, append-nil params) at h.5) in
    lists 4 select_pieces.filter select_pieces.terms select_pieces.order params s.now.trees shown refl (read.answer Null)

module _ (s : State) (job n : ℕ) (w : World) (d : Document) (distinct : AreDistinct w.jobs) (has : Holds (content_of w) s) (there : document_in w.jobs job n ≡ Some d) where
  listing_bytes : (shown : List Row) → IsListing 4 select_pieces.filter select_pieces.terms select_pieces.order (number job ∷ number n ∷ []) (s.now.trees 4) shown → bytes_of shown ≡ d.bytes
  listing_bytes shown l =
      let it = listed_values 4 select_pieces.filter select_pieces.terms select_pieces.order (number job ∷ number n ∷ []) piece_view (is_of job n) out (λ r. refl) (λ r. refl) (content_of w).pieces (s.now.trees 4) shown has.rows.pieces l in
      let ks = range_with_len 0 (pieces_in (length d.bytes)) in
      let values : map out (filter (is_of job n) (content_of w).pieces) ≡ map (sent d.bytes) ks = ap (map out) (only job n w d distinct there) ∙ map-map out (λ k. piece_values job n k (piece_at d.bytes k)) ks in
      let same : IsPermutation (map (sent d.bytes) ks) it.0 = subst (λ (t : List Output). IsPermutation t it.0) values it.1 in
      let equal : it.0 ≡ map (sent d.bytes) ks = in_order (λ (i : ℕ). i) (sent d.bytes) query (by_number d.bytes) ks it.0 (counts_up 0 (pieces_in (length d.bytes))) same it.2 in
      ap bytes_of it.3 ∙ ap (λ (os : List Output). bytes_of (map (λ (o : Output). o.1) os)) equal ∙ sent_bytes d.bytes ks ∙ joined d.bytes

  all_bytes : (shown : List Row) → Answers pieces_select (number job ∷ number n ∷ []) s shown → bytes_of shown ≡ d.bytes
  all_bytes shown h = listing_bytes shown (answers_listed s (number job ∷ number n ∷ []) shown has.schema h)

  first_bytes : (shown : List Row) → Begins pieces_select (number job ∷ number n ∷ []) s shown → (rest : List ℕ) × (bytes_of shown ++ rest ≡ d.bytes)
  first_bytes shown h =
      let b = begins_rows select_pieces select_pieces_is
      s s (number job ∷ number n ∷ []) shown has.schema h in
      (bytes_of b.0, sym (flat_map-append piece_bytes shown b.0) ∙ listing_bytes (shown ++ b.0) b.1)

  pub whole_sent : (a b : Option (List ℕ)) (count : ℕ) → HasSent (number job ∷ number n ∷ []) s a b count → (count ≡ length d.bytes) × Appends a b d.bytes
  whole_sent a b count h =
      let is = all_bytes h.rows h.all in
      (h.count ∙ ap (length {A = ℕ}) is, subst (Appends a b) is h.appends)

  front_is : (front rest : List ℕ) (count : ℕ) → front ++ rest ≡ d.bytes → count ≡ length front → (count ≤ length d.bytes) × (front ≡ take count d.bytes)
  front_is front rest count whole long =
      let size = ap (length {A = ℕ}) (sym whole) ∙ length-append front rest in
      (omega (arith, size, long), sym (take-append_seam front rest) ∙ ap (take (length front)) whole ∙ ap (λ k. take k d.bytes) (sym long))

  front_in : (front : List ℕ) → (front ≡ []) ⊎ ((shown : List Row) × Begins pieces_select (number job ∷ number n ∷ []) s shown × (rest : List ℕ) × (bytes_of shown ≡ front ++ rest)) → (rest : List ℕ) × (front ++ rest ≡ d.bytes)
  front_in front (inl none) = (d.bytes, ap (λ (l : List ℕ). l ++ d.bytes) none)
  front_in front (inr some) =
      let first = first_bytes some.0 some.1 in
      (some.2 ++ first.0, sym (append_assoc front some.2 first.0) ∙ ap (λ (l : List ℕ). l ++ first.0) (sym some.3) ∙ first.1)

  pub front_sent : (a b : Option (List ℕ)) (count : ℕ) → HasSentFront (number job ∷ number n ∷ []) s a b count → (count ≤ length d.bytes) × Appends a b (take count d.bytes)
  front_sent a b count h =
      let rest = front_in h.bytes h.front in
      let is = front_is h.bytes rest.0 count rest.1 h.count in
      (is.0, subst (Appends a b) is.1 h.appends)

-- a document that is shown is the one of that number
pub there_shown : (w : World) (job n : ℕ) (d : Document) → document_at w job n ≡ Some d → document_in w.jobs job n ≡ Some d
there_shown w job n d there = at (job_may_be_fetched (job_at job (rows w))) (sym (shown_document w job n) ∙ there)
  where
    at : (b : Bool) → (if b then document_in w.jobs job n else None) ≡ Some d → document_in w.jobs job n ≡ Some d
    at true e = e
    at false e = absurd cc
