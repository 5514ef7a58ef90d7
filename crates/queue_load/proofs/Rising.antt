-- The rows of a sound queue rise in each table, by the key that it is read in.
use Rattle.std.proofs.Common.{◌≡◌, ◌⊎◌, inl, inr, ℕ, pos, ◌+◌, ◌<◌, ◌≤◌, suc, zero, List, [], ◌∷◌, map, length, true, refl, sym, ap, ap₂, ◌∙◌, arith, Ordering, Less, Equal, nat_cmp, int_cmp}
use Rattle.std.specs.List.{AllByRecursion as Each, flat_map, range_with_len}
use Rattle.std.specs.Ordering.{ordering_then}
use Rattle.std.proofs.lemmas.Cmp.{on_total, tied_itself}
use Rattle.std.proofs.lemmas.Bool.Decides.{nat_tests}
use Rattle.std.proofs.lemmas.Int.{ints}
use Rattle.sqlite.specs.Order.{value_cmp}
use Rattle.sqlite_keyed.proofs.ListLemmas.{all_weaker, all-map, ascending-map, ascending_weaker}
use Rattle.sqlite_trees.specs.Tree.{IsAscending}
use Rattle.sqlite_value.proofs.OrderLemmas.{then-Equal, value_cmp-Int, value_cmp-Text, value_cmp_total}
use Rattle.queue_core.specs.Sound.{Rise}
use Rattle.queue_core.specs.World.{Entry, text_cmp}
use Rattle.queue_types.specs.declared.document.Document.{Document}
use Rattle.queue_types.specs.declared.event.GrantRow.{GrantRow}
use Rattle.queue_types.specs.declared.event.KeptReport.{KeptReport}
use Rattle.queue_types.specs.Operators.{AreRising, is_before}
use Rattle.queue_rows.specs.Accounts.{account_before}
use Rattle.queue_rows.specs.Documents.{documents_from}
use Rattle.queue_rows.specs.Grants.{grant_before}
use Rattle.queue_rows.specs.Order.{AreInOrder}
use Rattle.queue_rows.specs.Pieces.{piece_of, pieces_in, pieces_of}
use Rattle.queue_rows.specs.Reports.{report_before}
use Rattle.queue_rows.specs.Rows.{document_rows, job_row}
use Rattle.queue_rows.specs.declared.rows.AccountRow.{AccountRow}
use Rattle.queue_rows.specs.declared.rows.DocumentRow.{DocumentRow}
use Rattle.queue_rows.specs.declared.rows.PieceRow.{PieceRow}
use Rattle.queue_tables.specs.Values.{document_values, grant_values, job_values, number, operator_values, report_values}
use Rattle.queue_load.specs.Loaded.{Piece, whole_piece}
use Rattle.queue_load.specs.Tells.{account_row_values}
use Rattle.queue_load.proofs.Unique.{Before, all_pairs, ascending_of, flat_up, key_total, less_of}

-- ---- columns of numbers

number_cmp : (m n : ℕ) → value_cmp (number m) (number n) ≡ nat_cmp m n
number_cmp m n = value_cmp-Int (pos m) (pos n) ∙ int_of m n
  where
    int_of : (m n : ℕ) → int_cmp (pos m) (pos n) ≡ nat_cmp m n
    int_of m n = grind (arith, ints)

number_less : (m n : ℕ) → m < n → value_cmp (number m) (number n) ≡ Less
number_less m n low = number_cmp m n ∙ below m n low
  where
    below : (m n : ℕ) → m < n → nat_cmp m n ≡ Less
    below m n low = grind (arith, nat_tests)

number_same : (m n : ℕ) → m ≡ n → value_cmp (number m) (number n) ≡ Equal
number_same m n same = ap (λ (k : ℕ). value_cmp (number m) (number k)) (sym same) ∙ tied_itself value_cmp_total (number m)

-- ---- jobs

abbrev pub EntryBefore : Entry → Entry → Type 0
EntryBefore e f = e.row.number < f.row.number

pub entries_rise : (first : ℕ) (es : List Entry) (next : ℕ) → Rise first es next → Each (λ e. first ≤ e.row.number) es × IsAscending EntryBefore es
entries_rise first [] next rise = (tt, tt)
entries_rise first (e ∷ es) next rise =
    let more = entries_rise (e.row.number + 1) es next rise.1 in
    ((rise.0, all_weaker _ (λ f. first ≤ f.row.number) (λ f h. omega (arith, h, rise.0)) es more.0), (all_weaker _ (EntryBefore e) (λ f h. omega (arith, h)) es more.0, more.1))

pub jobs_rise : (es : List Entry) → IsAscending EntryBefore es → IsAscending (Before job_values 1) (map job_row es)
jobs_rise es up =
    ascending-map (Before job_values 1) job_row es (ascending_weaker EntryBefore _ (λ e f low. ap (λ (o : Ordering). ordering_then o Equal) (number_less e.row.number f.row.number low)) es up)

-- ---- documents

abbrev DocumentBefore : DocumentRow → DocumentRow → Type 0
DocumentBefore a b = (a.job < b.job) ⊎ ((a.job ≡ b.job) × (a.doc < b.doc))

document_less : (a b : DocumentRow) → DocumentBefore a b → Before document_values 2 a b
document_less a b (inl low) = ap (λ (o : Ordering). ordering_then o (ordering_then (value_cmp (number a.doc) (number b.doc)) Equal)) (number_less a.job b.job low)
document_less a b (inr low) =
    ap (λ (o : Ordering). ordering_then o (ordering_then (value_cmp (number a.doc) (number b.doc)) Equal)) (number_same a.job b.job low.0)
    ∙ ap (λ (o : Ordering). ordering_then o Equal) (number_less a.doc b.doc low.1)

documents_of_rise : (job doc : ℕ) (ds : List Document) → IsAscending DocumentBefore (documents_from job doc ds) × Each (λ d. (d.job ≡ job) × (doc ≤ d.doc)) (documents_from job doc ds)
documents_of_rise job doc [] = (tt, tt)
documents_of_rise job doc (d ∷ ds) =
    let row : DocumentRow = record { job = job; doc = doc; format = d.format; octets = length d.bytes } in
    let rows = documents_from job (doc + 1) ds in
    let more = documents_of_rise job (doc + 1) ds in
    ((all_weaker _ (DocumentBefore row) (λ r h. inr (sym h.0, omega (arith, h.1))) rows more.1, more.0), ((refl, omega arith), all_weaker _ (λ r. (r.job ≡ job) × (doc ≤ r.doc)) (λ r h. (h.0, omega (arith, h.1))) rows more.1))

documents_ordered : (es : List Entry) → IsAscending EntryBefore es → IsAscending DocumentBefore (flat_map document_rows es)
documents_ordered es up = flat_up document_rows EntryBefore DocumentBefore (λ e f low.
    all_pairs (λ d. (d.job ≡ e.row.number) × (1 ≤ d.doc)) (λ d. (d.job ≡ f.row.number) × (1 ≤ d.doc)) DocumentBefore (λ x y p s. inl (omega (arith, p.0, s.0, low)))
    (document_rows e) (document_rows f) (documents_of_rise e.row.number 1 e.documents).1 (documents_of_rise f.row.number 1 f.documents).1)
    (λ e. (documents_of_rise e.row.number 1 e.documents).0) es up

pub documents_rise : (es : List Entry) → IsAscending EntryBefore es → IsAscending (Before document_values 2) (flat_map document_rows es)
documents_rise es up = ascending_weaker DocumentBefore (Before document_values 2) document_less (flat_map document_rows es) (documents_ordered es up)

-- ---- pieces

abbrev pub PieceBefore : PieceRow → PieceRow → Type 0
PieceBefore a b = (a.job < b.job) ⊎ ((a.job ≡ b.job) × ((a.doc < b.doc) ⊎ ((a.doc ≡ b.doc) × (a.piece < b.piece))))

pub piece_less : (a b : Piece) → PieceBefore a.row b.row → Before whole_piece 3 a b
piece_less a b (inl low) =
    ap (λ (o : Ordering). ordering_then o (ordering_then (value_cmp (number a.row.doc) (number b.row.doc)) (ordering_then (value_cmp (number a.row.piece) (number b.row.piece)) Equal))) (number_less a.row.job b.row.job low)
piece_less a b (inr (same, inl low)) =
    ap (λ (o : Ordering). ordering_then o (ordering_then (value_cmp (number a.row.doc) (number b.row.doc)) (ordering_then (value_cmp (number a.row.piece) (number b.row.piece)) Equal))) (number_same a.row.job b.row.job same)
    ∙ ap (λ (o : Ordering). ordering_then o (ordering_then (value_cmp (number a.row.piece) (number b.row.piece)) Equal)) (number_less a.row.doc b.row.doc low)
piece_less a b (inr (same, inr low)) =
    ap (λ (o : Ordering). ordering_then o (ordering_then (value_cmp (number a.row.doc) (number b.row.doc)) (ordering_then (value_cmp (number a.row.piece) (number b.row.piece)) Equal))) (number_same a.row.job b.row.job same)
    ∙ ap (λ (o : Ordering). ordering_then o (ordering_then (value_cmp (number a.row.piece) (number b.row.piece)) Equal)) (number_same a.row.doc b.row.doc low.0)
    ∙ ap (λ (o : Ordering). ordering_then o Equal) (number_less a.row.piece b.row.piece low.1)

pub range_rises : (a n : ℕ) → IsAscending (λ i j. i < j) (range_with_len a n) × Each (λ i. (a ≤ i) × (i < a + n)) (range_with_len a n)
range_rises a zero = (tt, tt)
range_rises a (suc n) =
    let more = range_rises (a + 1) n in
    ((all_weaker _ (λ j. a < j) (λ j h. omega (arith, h.0)) (range_with_len (a + 1) n) more.1, more.0), ((omega arith, omega arith), all_weaker _ (λ j. (a ≤ j) × (j < a + suc n)) (λ j h. (omega (arith, h.0), omega (arith, h.1))) (range_with_len (a + 1) n) more.1))

pieces_of_rise : (d : DocumentRow) → IsAscending PieceBefore (pieces_of d)
pieces_of_rise d = ascending-map PieceBefore (piece_of d) (range_with_len 0 (pieces_in d.octets)) (ascending_weaker (λ i j. i < j) _ (λ i j low. inr (refl, inr (refl, low))) (range_with_len 0 (pieces_in d.octets)) (range_rises 0 (pieces_in d.octets)).0)

pieces_named : (d : DocumentRow) → Each (λ p. (p.job ≡ d.job) × (p.doc ≡ d.doc)) (pieces_of d)
pieces_named d = all-map (λ p. (p.job ≡ d.job) × (p.doc ≡ d.doc)) (piece_of d) (λ k. (refl, refl)) (range_with_len 0 (pieces_in d.octets))

pub pieces_rise : (es : List Entry) → IsAscending EntryBefore es → IsAscending PieceBefore (flat_map pieces_of (flat_map document_rows es))
pieces_rise es up = flat_up pieces_of DocumentBefore PieceBefore (λ d f low.
    all_pairs (λ p. (p.job ≡ d.job) × (p.doc ≡ d.doc)) (λ p. (p.job ≡ f.job) × (p.doc ≡ f.doc)) PieceBefore (λ x y p s. later d f x y low p s)
    (pieces_of d) (pieces_of f) (pieces_named d) (pieces_named f))
    pieces_of_rise (flat_map document_rows es) (documents_ordered es up)
  where
    later : (d f : DocumentRow) (x y : PieceRow) → DocumentBefore d f → (x.job ≡ d.job) × (x.doc ≡ d.doc) → (y.job ≡ f.job) × (y.doc ≡ f.doc) → PieceBefore x y
    later d f x y (inl low) p s = inl (omega (arith, low, p.0, s.0))
    later d f x y (inr low) p s = inr (p.0 ∙ low.0 ∙ sym s.0, inl (omega (arith, low.1, p.1, s.1)))

-- ---- accounts, operators, grants and reports

account_less : (a b : AccountRow) → account_before a b ≡ true → Before account_row_values 1 a b
account_less a b h = ap (λ (o : Ordering). ordering_then o Equal) (value_cmp-Text a.name b.name ∙ less_of _ h)

pub accounts_rise : (acs : List AccountRow) → AreInOrder account_before acs → IsAscending (Before account_row_values 1) acs
accounts_rise acs h = ascending_of _ (on_total account_row_values (key_total 1)) account_before account_less acs h

operator_less : (a b : List ℕ) → is_before a b ≡ true → Before operator_values 1 a b
operator_less a b h = ap (λ (o : Ordering). ordering_then o Equal) (value_cmp-Text a b ∙ less_of _ h)

pub operators_rise : (names : List (List ℕ)) → AreRising names → IsAscending (Before operator_values 1) names
operators_rise names h = ascending_of _ (on_total operator_values (key_total 1)) is_before operator_less names h

grant_less : (a b : GrantRow) → grant_before a b ≡ true → Before grant_values 2 a b
grant_less a b h =
    ap₂ (λ (o p : Ordering). ordering_then o (ordering_then p Equal)) (value_cmp-Text a.batch b.batch) (value_cmp-Text a.account b.account)
    ∙ ap (ordering_then (text_cmp a.batch b.batch)) (then-Equal (text_cmp a.account b.account)) ∙ less_of _ h

pub grants_rise : (gs : List GrantRow) → AreInOrder grant_before gs → IsAscending (Before grant_values 2) gs
grants_rise gs h = ascending_of _ (on_total grant_values (key_total 2)) grant_before grant_less gs h

report_less : (a b : KeptReport) → report_before a b ≡ true → Before report_values 2 a b
report_less a b h =
    ap₂ (λ (o p : Ordering). ordering_then o (ordering_then p Equal)) (number_cmp a.report.job b.report.job) (number_cmp a.report.seq b.report.seq)
    ∙ ap (ordering_then (nat_cmp a.report.job b.report.job)) (then-Equal (nat_cmp a.report.seq b.report.seq)) ∙ less_of _ h

pub reports_rise : (rs : List KeptReport) → AreInOrder report_before rs → IsAscending (Before report_values 2) rs
reports_rise rs h = ascending_of _ (on_total report_values (key_total 2)) report_before report_less rs h
