-- The jobs and documents of a sound world, read back from its rows.
use Rattle.std.proofs.Common.{◌≡◌, ℕ, ◌+◌, ◌*◌, ◌<◌, ◌≤◌, ◌==◌, suc, zero, List, [], ◌∷◌, ◌++◌, Bool, true, false, cond, length, map, take, drop, min, refl, sym, ap, subst, ◌∙◌, arith, eq-eqb, ne_eqb, sum_by}
use Rattle.std.specs.Int.{div_ceil}
use Rattle.std.specs.List.{AllByRecursion as Each, concat, flat_map, range_with_len}
use Rattle.std.proofs.lemmas.Grind.{flat_map-append}
use Rattle.std.proofs.lemmas.List.{take-append-drop, take_at, drop_at, drop_all, drop-drop, append_assoc, length-take, length-drop, map-append}
use Rattle.std.proofs.lemmas.List.FromFn.{length-map-range_with_len}
use Rattle.std.proofs.lemmas.List.Sums.{sum_by-cons}
use Rattle.queue_core.specs.Sound.{Rise, IsSoundEntry}
use Rattle.queue_core.specs.World.{Entry}
use Rattle.queue_types.specs.declared.document.Document.{Document}
use Rattle.queue_rows.specs.Documents.{next_of, AreGrouped, documents_from}
use Rattle.queue_rows.specs.Pieces.{pieces_of, pieces_in, piece_at, cut_up, length_in}
use Rattle.queue_rows.specs.Rows.{job_row, document_rows, bytes_of_entry}
use Rattle.queue_rows.specs.declared.rows.DocumentRow.{DocumentRow}
use Rattle.queue_rows.proofs.Filled.{octets_of}
use Rattle.queue_rows.proofs.GroupLemmas.{doc_of}
use Rattle.queue_rows.proofs.WorldHas.{cut_document, piece_length, lengths_of}
use Rattle.queue_rows.proofs.WorldJobs.{size_of}
use Rattle.queue_rows.proofs.WorldOf.{documents_in, entries_in}

pub length_rows : (n first : ℕ) (xs : List Document) → length (documents_from n first xs) ≡ length xs
length_rows n first [] = refl
length_rows n first (x ∷ xs) = ap suc (length_rows n (first + 1) xs)

pub docs_numbered : (n first : ℕ) (xs : List Document) → map doc_of (documents_from n first xs) ≡ range_with_len first (length xs)
docs_numbered n first [] = refl
docs_numbered n first (x ∷ xs) = ap (λ (l : List ℕ). first ∷ l) (docs_numbered n (first + 1) xs)

-- later jobs have other numbers
none_in : (n doc : ℕ) (xs : List Document) (number : ℕ) (rest : List DocumentRow) → n < number → next_of n rest ≡ 0 → next_of n (documents_from number doc xs ++ rest) ≡ 0
none_in n doc [] number rest lt none = none
none_in n doc (x ∷ xs) number rest lt none =
    let other : number == n ≡ false = ne_eqb number n (λ e. omega arith) in
    ap (λ (b : Bool). cond b (1 + next_of n (documents_from number (doc + 1) xs ++ rest)) 0) other

pub none_later : (n first : ℕ) (es : List Entry) (next : ℕ) → n < first → Rise first es next → next_of n (flat_map document_rows es) ≡ 0
none_later n first [] next lt rise = refl
none_later n first (e ∷ es) next lt rise = none_in n 1 e.documents e.row.number (flat_map document_rows es) (omega (arith, rise.0)) (none_later n (e.row.number + 1) es next (omega (arith, rise.0)) rise.1)

pub own_first : (n doc : ℕ) (xs : List Document) (rest : List DocumentRow) → next_of n rest ≡ 0 → next_of n (documents_from n doc xs ++ rest) ≡ length xs
own_first n doc [] rest none = none
own_first n doc (x ∷ xs) rest none =
    let same : n == n ≡ true = eq-eqb n n refl in
    ap (λ (b : Bool). cond b (1 + next_of n (documents_from n (doc + 1) xs ++ rest)) 0) same ∙ omega (arith, own_first n (doc + 1) xs rest none)

-- cut up and joined again
joined_from : (bytes : List ℕ) (a n : ℕ) → length bytes ≤ (a + n) * 65536 → concat (map (piece_at bytes) (range_with_len a n)) ≡ drop (a * 65536) bytes
joined_from bytes a zero le = sym (drop_all (a * 65536) bytes (omega arith))
joined_from bytes a (suc n) le =
    let rest : concat (map (piece_at bytes) (range_with_len (a + 1) n)) ≡ drop ((a + 1) * 65536) bytes = joined_from bytes (a + 1) n (omega arith) in
    let place : (a + 1) * 65536 ≡ a * 65536 + 65536 = omega arith in
    let behind : drop ((a + 1) * 65536) bytes ≡ drop 65536 (drop (a * 65536) bytes) = ap (λ (k : ℕ). drop k bytes) place ∙ sym (drop-drop 65536 (a * 65536) bytes) in
    ap (λ (l : List ℕ). piece_at bytes a ++ l) (rest ∙ behind) ∙ take-append-drop 65536 (drop (a * 65536) bytes)

pub joined : (bytes : List ℕ) → concat (cut_up bytes) ≡ bytes
joined bytes = joined_from bytes 0 (div_ceil (length bytes) 65536) (omega arith)

pub documents_back : (n doc : ℕ) (xs : List Document) (rest : List DocumentRow) (bs : List (List ℕ)) → documents_in (documents_from n doc xs ++ rest) (flat_map cut_document xs ++ bs) ≡ xs ++ documents_in rest bs
documents_back n doc [] rest bs = refl
documents_back n doc (x ∷ xs) rest bs =
    let later = flat_map cut_document xs in
    let whole : (cut_up x.bytes ++ later) ++ bs ≡ cut_up x.bytes ++ (later ++ bs) = append_assoc (cut_up x.bytes) later bs in
    let count : length (cut_up x.bytes) ≡ pieces_in (length x.bytes) = length-map-range_with_len (piece_at x.bytes) 0 (div_ceil (length x.bytes) 65536) in
    let front : take (pieces_in (length x.bytes)) ((cut_up x.bytes ++ later) ++ bs) ≡ cut_up x.bytes = ap (take (pieces_in (length x.bytes))) whole ∙ take_at (cut_up x.bytes) (later ++ bs) (pieces_in (length x.bytes)) count in
    let behind : drop (pieces_in (length x.bytes)) ((cut_up x.bytes ++ later) ++ bs) ≡ later ++ bs = ap (drop (pieces_in (length x.bytes))) whole ∙ drop_at (cut_up x.bytes) (later ++ bs) (pieces_in (length x.bytes)) count in
    let first : concat (take (pieces_in (length x.bytes)) ((cut_up x.bytes ++ later) ++ bs)) ≡ x.bytes = ap concat front ∙ joined x.bytes in
    let others : documents_in (documents_from n (doc + 1) xs ++ rest) (drop (pieces_in (length x.bytes)) ((cut_up x.bytes ++ later) ++ bs)) ≡ xs ++ documents_in rest bs
    = ap (documents_in (documents_from n (doc + 1) xs ++ rest)) behind ∙ documents_back n (doc + 1) xs rest bs in
    λ i. record { format = x.format; bytes = first i } ∷ others i

-- ---- jobs

abbrev pub documents_of_entry : Entry → List Document
documents_of_entry e = e.documents

octets_of_rows : (n doc : ℕ) (xs : List Document) → sum_by octets_of (documents_from n doc xs) ≡ sum_by size_of xs
octets_of_rows n doc [] = refl
octets_of_rows n doc (x ∷ xs) =
    let d : DocumentRow = record { job = n; doc = doc; format = x.format; octets = length x.bytes } in
    sum_by-cons octets_of d (documents_from n (doc + 1) xs) ∙ ap (λ (m : ℕ). length x.bytes + m) (octets_of_rows n (doc + 1) xs) ∙ sym (sum_by-cons size_of x xs)

pub all_back : (es : List Entry) → documents_in (flat_map document_rows es) (flat_map bytes_of_entry es) ≡ flat_map documents_of_entry es
all_back [] = refl
all_back (e ∷ es) = documents_back e.row.number 1 e.documents (flat_map document_rows es) (flat_map bytes_of_entry es) ∙ ap (λ (l : List Document). e.documents ++ l) (all_back es)

pub entries_back : (es : List Entry) (first next : ℕ) → Rise first es next → Each IsSoundEntry es
    → AreGrouped (map job_row es) (flat_map document_rows es) × (entries_in (map job_row es) (flat_map document_rows es) (flat_map documents_of_entry es) ≡ es)
entries_back [] first next rise sound = (refl, refl)
entries_back (x ∷ es) first next rise sound =
    let j = job_row x in
    let js = map job_row es in
    let rest = flat_map document_rows es in
    let own = documents_from x.row.number 1 x.documents in
    let ds = own ++ rest in
    let count : next_of j.number ds ≡ length x.documents = own_first x.row.number 1 x.documents rest (none_later x.row.number (x.row.number + 1) es next (omega arith) rise.1) in
    let long : length own ≡ length x.documents = length_rows x.row.number 1 x.documents in
    let front : take (next_of j.number ds) ds ≡ own = ap (λ (m : ℕ). take m ds) count ∙ take_at own rest (length x.documents) long in
    let behind : drop (next_of j.number ds) ds ≡ rest = ap (λ (m : ℕ). drop m ds) count ∙ drop_at own rest (length x.documents) long in
    let tail = entries_back es (x.row.number + 1) next rise.1 sound.1 in
    let numbered : map doc_of (take (next_of j.number ds) ds) ≡ range_with_len 1 (next_of j.number ds) = ap (map doc_of) front ∙ docs_numbered x.row.number 1 x.documents ∙ ap (range_with_len 1) (sym count) in
    let few : next_of j.number ds ≤ 16 = omega (arith, count, sound.0.documents, sound.0.row.documents) in
    let many : next_of j.number ds ≡ x.row.documents = count ∙ sym sound.0.documents in
    let octets : sum_by octets_of (take (next_of j.number ds) ds) ≡ x.row.octets = ap (sum_by octets_of) front ∙ octets_of_rows x.row.number 1 x.documents ∙ sym sound.0.octets in
    let all = x.documents ++ flat_map documents_of_entry es in
    let mine : take (next_of j.number ds) all ≡ x.documents = ap (λ (m : ℕ). take m all) count ∙ take_at x.documents (flat_map documents_of_entry es) (length x.documents) refl in
    let others : drop (next_of j.number ds) all ≡ flat_map documents_of_entry es = ap (λ (m : ℕ). drop m all) count ∙ drop_at x.documents (flat_map documents_of_entry es) (length x.documents) refl in
    let entries : entries_in js (drop (next_of j.number ds) ds) (drop (next_of j.number ds) all) ≡ es = ap (λ (l : List DocumentRow). entries_in js l (drop (next_of j.number ds) all)) behind ∙ ap (entries_in js rest) others ∙ tail.1 in
    (((few, numbered), subst (AreGrouped js) (sym behind) tail.0), λ i. record { row = record x.row { documents = many i; octets = octets i }; documents = mine i } ∷ entries i)

-- ---- the lengths of pieces

lengths_at : (bytes ks : List ℕ) → map length (map (piece_at bytes) ks) ≡ map (piece_length (length bytes)) ks
lengths_at bytes [] = refl
lengths_at bytes (k ∷ ks) =
    let here : length (piece_at bytes k) ≡ piece_length (length bytes) k = length-take 65536 (drop (k * 65536) bytes) ∙ ap (min 65536) (length-drop (k * 65536) bytes) in
    ap (λ (n : ℕ). n ∷ map length (map (piece_at bytes) ks)) here ∙ ap (λ (l : List ℕ). piece_length (length bytes) k ∷ l) (lengths_at bytes ks)

abbrev row_at : ℕ → ℕ → Document → DocumentRow
row_at n doc x = record { job = n; doc = doc; format = x.format; octets = length x.bytes }

lengths_documents : (n doc : ℕ) (xs : List Document) → map length (flat_map cut_document xs) ≡ map length_in (flat_map pieces_of (documents_from n doc xs))
lengths_documents n doc [] = refl
lengths_documents n doc (x ∷ xs) =
    let d = row_at n doc x in
    let ks = range_with_len 0 (pieces_in (length x.bytes)) in
    let here : map length (cut_up x.bytes) ≡ map length_in (pieces_of d) = lengths_at x.bytes ks ∙ sym (lengths_of d ks) in
    map-append length (cut_up x.bytes) (flat_map cut_document xs) ∙ ap (λ (l : List ℕ). l ++ map length (flat_map cut_document xs)) here
    ∙ ap (λ (l : List ℕ). map length_in (pieces_of d) ++ l) (lengths_documents n (doc + 1) xs) ∙ sym (map-append length_in (pieces_of d) (flat_map pieces_of (documents_from n (doc + 1) xs)))

pub lengths_entries : (es : List Entry) → map length (flat_map bytes_of_entry es) ≡ map length_in (flat_map pieces_of (flat_map document_rows es))
lengths_entries [] = refl
lengths_entries (e ∷ es) =
    let bs = flat_map cut_document e.documents in
    let ds = document_rows e in
    map-append length bs (flat_map bytes_of_entry es) ∙ ap (λ (l : List ℕ). l ++ map length (flat_map bytes_of_entry es)) (lengths_documents e.row.number 1 e.documents)
    ∙ ap (λ (l : List ℕ). map length_in (flat_map pieces_of ds) ++ l) (lengths_entries es)
    ∙ sym (map-append length_in (flat_map pieces_of ds) (flat_map pieces_of (flat_map document_rows es)))
    ∙ sym (ap (map length_in) (flat_map-append pieces_of ds (flat_map document_rows es)))
