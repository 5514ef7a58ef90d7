-- The content of a world is that of its rows.
use Rattle.std.specs.Prelude.{unwrap_or}
use Rattle.std.proofs.Common.{◌≡◌, ℕ, ◌+◌, List, [], ◌∷◌, ◌++◌, map, flat_map, length, refl, sym, ap, ◌∙◌, arith}
use Rattle.std.specs.List.{range_with_len}
use Rattle.std.specs.FinMap.{entries}
use Rattle.std.proofs.lemmas.Grind.{flat_map-append}
use Rattle.std.proofs.lemmas.List.{length-map}
use Rattle.std.proofs.Common.{length-append}
use Rattle.sqlite.specs.Order.{Row}
use Rattle.sqlite_keyed.proofs.ListLemmas.{map-flat_map, map-map}
use Rattle.queue_types.specs.declared.document.Document.{Document}
use Rattle.queue_core.specs.World.{World, Entry}
use Rattle.queue_rows.specs.Documents.{documents_from}
use Rattle.queue_rows.specs.Pieces.{pieces_in, pieces_of, piece_of, piece_at, cut_up}
use Rattle.queue_rows.specs.Rows.{rows_of, bytes_of, bytes_of_entry, document_rows, job_row, account_row, grant_row, report_row}
use Rattle.queue_rows.specs.declared.rows.DocumentRow.{DocumentRow}
use Rattle.queue_rows.specs.declared.rows.PieceRow.{PieceRow}
use Rattle.queue_rows.specs.Versions.{Version, operator_rows, policy_rows}
use Rattle.queue_tables.specs.Content.{Content, numbered_content, piece_rows, pieces_from}
use Rattle.queue_tables.specs.Values.{job_values, operator_values, policy_values, document_values, piece_values, grant_values, report_values}
use Rattle.queue_load.specs.Content.{content_in, piece_rows_in}
use Rattle.queue_load.specs.Tells.{account_row_values}

-- ---- pieces beside their bytes

beside : (d : DocumentRow) (bytes : List ℕ) (ks : List ℕ) → piece_rows_in (map (piece_of d) ks) (map (piece_at bytes) ks) ≡ map (λ k. piece_values d.job d.doc k (piece_at bytes k)) ks
beside d bytes [] = refl
beside d bytes (k ∷ ks) = ap (λ (rs : List Row). piece_values d.job d.doc k (piece_at bytes k) ∷ rs) (beside d bytes ks)

beside_append : (ps qs : List PieceRow) (bs cs : List (List ℕ)) → length ps ≡ length bs → piece_rows_in (ps ++ qs) (bs ++ cs) ≡ piece_rows_in ps bs ++ piece_rows_in qs cs
beside_append [] qs [] cs long = refl
beside_append (p ∷ ps) qs (b ∷ bs) cs long = ap (λ (rs : List Row). piece_values p.job p.doc p.piece b ∷ rs) (beside_append ps qs bs cs (omega (arith, long)))
beside_append _ qs _ cs long = absurd (omega (arith, long))

abbrev row_at : ℕ → ℕ → Document → DocumentRow
row_at job doc d = record { job = job; doc = doc; format = d.format; octets = length d.bytes }

as_long : (job doc : ℕ) (d : Document) → length (pieces_of (row_at job doc d)) ≡ length (cut_up d.bytes)
as_long job doc d = length-map (range_with_len 0 (pieces_in (length d.bytes))) (piece_of (row_at job doc d)) ∙ sym (length-map (range_with_len 0 (pieces_in (length d.bytes))) (piece_at d.bytes))

pieces_from_are : (job doc : ℕ) (ds : List Document) → pieces_from job doc ds ≡ piece_rows_in (flat_map pieces_of (documents_from job doc ds)) (flat_map (λ (d : Document). cut_up d.bytes) ds)
pieces_from_are job doc [] = refl
pieces_from_are job doc (d ∷ ds) =
    let rest = flat_map pieces_of (documents_from job (doc + 1) ds) in
    let more = flat_map (λ (d : Document). cut_up d.bytes) ds in
    ap (λ (rs : List Row). piece_rows job doc d.bytes ++ rs) (pieces_from_are job (doc + 1) ds)
    ∙ ap (λ (rs : List Row). rs ++ piece_rows_in rest more) (sym (beside (row_at job doc d) d.bytes (range_with_len 0 (pieces_in (length d.bytes)))))
    ∙ sym (beside_append (pieces_of (row_at job doc d)) rest (cut_up d.bytes) more (as_long job doc d))

long_from : (job doc : ℕ) (ds : List Document) → length (flat_map pieces_of (documents_from job doc ds)) ≡ length (flat_map (λ (d : Document). cut_up d.bytes) ds)
long_from job doc [] = refl
long_from job doc (d ∷ ds) =
    let a = length-append (pieces_of (row_at job doc d)) (flat_map pieces_of (documents_from job (doc + 1) ds)) in
    let b = length-append (cut_up d.bytes) (flat_map (λ (d : Document). cut_up d.bytes) ds) in
    let c = as_long job doc d in
    let e = long_from job (doc + 1) ds in
    omega (arith, a, b, c, e)

pieces_are : (es : List Entry) → flat_map (λ (e : Entry). pieces_from e.row.number 1 e.documents) es ≡ piece_rows_in (flat_map pieces_of (flat_map document_rows es)) (flat_map bytes_of_entry es)
pieces_are [] = refl
pieces_are (e ∷ es) =
    let ps = flat_map pieces_of (documents_from e.row.number 1 e.documents) in
    let rest = flat_map pieces_of (flat_map document_rows es) in
    ap (λ (rs : List Row). pieces_from e.row.number 1 e.documents ++ rs) (pieces_are es)
    ∙ ap (λ (rs : List Row). rs ++ piece_rows_in rest (flat_map bytes_of_entry es)) (pieces_from_are e.row.number 1 e.documents)
    ∙ sym (beside_append ps rest (bytes_of_entry e) (flat_map bytes_of_entry es) (long_from e.row.number 1 e.documents))
    ∙ ap (λ (qs : List PieceRow). piece_rows_in qs (bytes_of_entry e ++ flat_map bytes_of_entry es)) (sym (flat_map-append pieces_of (documents_from e.row.number 1 e.documents) (flat_map document_rows es)))

-- ---- the whole

-- with the rows of policy and operators that the version has
abbrev pub shown_content : Version → World → Content
shown_content n w = record (numbered_content n w) {
  policy = map policy_values (unwrap_or (policy_rows n w.settings.keep) []);
  operators = map operator_values (unwrap_or (operator_rows n w.settings.operators) []);
}

pub content_is : (n : Version) (w : World) → shown_content n w ≡ content_in (rows_of n w) (bytes_of w)
content_is n w =
    let jobs = map-map job_values (λ (e : Entry). e.row) w.jobs ∙ sym (map-map job_values job_row w.jobs) in
    let documents = sym (map-flat_map document_values document_rows w.jobs) in
    let pieces = pieces_are w.jobs in
    let accounts = sym (map-map account_row_values (account_row w) (entries w.free)) in
    let grants = sym (map-map grant_values grant_row (entries w.grants)) in
    let reports = sym (map-map report_values report_row (entries w.reports)) in
    λ i. record { meta = (numbered_content n w).meta; jobs = jobs i; documents = documents i; pieces = pieces i; accounts = accounts i; grants = grants i; reports = reports i; policy = (shown_content n w).policy; operators = (shown_content n w).operators }
