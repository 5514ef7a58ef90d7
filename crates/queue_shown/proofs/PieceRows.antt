-- Each row that is read of a queue's pieces shows bytes.
use Rattle.std.proofs.Common.{◌≡◌, ℕ, ◌+◌, List, [], ◌∷◌, ◌++◌, map, filter, flat_map, length, All, slice_index_or, refl, sym, subst, arith}
use Rattle.std.specs.List.{range_with_len}
use Rattle.std.proofs.lemmas.List.Elements.{All-append, All-filter, All-map, All-tail}
use Rattle.std.proofs.lemmas.List.Sorted.{All-permutation}
use Rattle.sqlite.specs.declared.types.Value.TheVariants.{Blob}
use Rattle.sqlite.specs.Order.{Row, column}
use Rattle.sqlite.specs.Query.{Output}
use Rattle.sqlite.specs.State.{State}
use Rattle.queue_core.specs.World.{World, Entry}
use Rattle.queue_types.specs.declared.document.Document.{Document}
use Rattle.queue_rows.specs.Pieces.{pieces_in, piece_at}
use Rattle.queue_tables.specs.Content.{Holds, content_of, piece_rows, pieces_from}
use Rattle.queue_tables.specs.Values.{number, piece_values, piece_view}
use Rattle.queue_tables.proofs.Writing.{IsListing, begins_rows}
use Rattle.queue_shown.specs.Sent.{FindsNoBlob}
use Rattle.queue_shown.proofs.DocumentParts.{is_of}
use Rattle.queue_shown.proofs.Ordered.{listed_values}
use Rattle.queue_shown.proofs.PiecesSent.{out}
use Rattle.queue_shown.proofs.Texts.{select_pieces, select_pieces_is}

abbrev ShowsBytes : ℕ → Row → Type 0
ShowsBytes k r = (b : List ℕ) × (column r k ≡ Blob b)

-- ---- the pieces of a world

of_document : (job doc : ℕ) (bytes : List ℕ) → All (ShowsBytes 3) (piece_rows job doc bytes)
of_document job doc bytes =
    let ks = range_with_len 0 (pieces_in (length bytes)) in
    All-map (ShowsBytes 3) (λ k. piece_values job doc k (piece_at bytes k)) ks (λ i d low. (piece_at bytes (slice_index_or ks i d), refl))

of_documents : (job doc : ℕ) (ds : List Document) → All (ShowsBytes 3) (pieces_from job doc ds)
of_documents job doc [] = λ i r low. absurd (omega (arith, low))
of_documents job doc (d ∷ ds) = All-append (ShowsBytes 3) (piece_rows job doc d.bytes) (pieces_from job (doc + 1) ds) (of_document job doc d.bytes) (of_documents job (doc + 1) ds)

of_entries : (es : List Entry) → All (ShowsBytes 3) (flat_map (λ (e : Entry). pieces_from e.row.number 1 e.documents) es)
of_entries [] = λ i r low. absurd (omega (arith, low))
of_entries (e ∷ es) =
    All-append (ShowsBytes 3) (pieces_from e.row.number 1 e.documents) (flat_map (λ (e : Entry). pieces_from e.row.number 1 e.documents) es) (of_documents e.row.number 1 e.documents) (of_entries es)

-- ---- what is read of them

last_of : (P : Row → Type 0) (before rest : List Row) (row : Row) → All P ((before ++ row ∷ []) ++ rest) → P row
last_of P [] rest row all = all 0 row (omega arith)
last_of P (r ∷ before) rest row all = last_of P before rest row (All-tail P r ((before ++ row ∷ []) ++ rest) all)

module _ (s : State) (job n : ℕ) (w : World) (has : Holds (content_of w) s) where
  each_shown : (shown : List Row) → IsListing 4 select_pieces.filter select_pieces.terms select_pieces.order (number job ∷ number n ∷ []) (s.now.trees 4) shown → All (ShowsBytes 0) shown
  each_shown shown l =
      let it = listed_values 4 select_pieces.filter select_pieces.terms select_pieces.order (number job ∷ number n ∷ []) piece_view (is_of job n) out (λ r. refl) (λ r. refl) (content_of w).pieces (s.now.trees 4) shown has.rows.pieces l in
      let first = λ (o : Output). ShowsBytes 0 o.1 in
      let kept = filter (is_of job n) (content_of w).pieces in
      let given : All first (map out kept) = All-map first out kept (All-filter (is_of job n) (ShowsBytes 3) (content_of w).pieces (of_entries w.jobs)) in
      subst (All (ShowsBytes 0)) (sym it.3) (All-map (ShowsBytes 0) (λ (o : Output). o.1) it.0 (All-permutation first (map out kept) it.0 it.1 given))

  pub none_without : ¬ FindsNoBlob (number job ∷ number n ∷ []) s
  none_without h =
      let b = begins_rows select_pieces select_pieces_is s s (number job ∷ number n ∷ []) (h.before ++ h.row ∷ []) has.schema h.there in
      let at = last_of (ShowsBytes 0) h.before b.0 h.row (each_shown ((h.before ++ h.row ∷ []) ++ b.0) b.1) in
      h.bare at.0 at.1
