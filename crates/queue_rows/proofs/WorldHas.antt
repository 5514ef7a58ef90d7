-- The world that rows stand for has these rows.
use Rattle.std.proofs.Common.{◌≡◌, Option, None, Some, ℕ, ◌+◌, ◌-◌, ◌*◌, ◌<◌, ◌≤◌, suc, zero, List, [], ◌∷◌, ◌++◌, length, map, take, drop, get_or, min, refl, sym, ap, ◌∙◌, arith}
use Rattle.std.specs.Int.{div_ceil}
use Rattle.std.specs.List.{concat, flat_map, range_with_len, AllByRecursion as Each}
use Rattle.std.specs.FinMap.{entries, entries-from_sorted}
use Rattle.std.proofs.lemmas.Bool.{eqb-true}
use Rattle.std.proofs.lemmas.Grind.{flat_map-append}
use Rattle.std.proofs.lemmas.List.{take-append-drop, length-take-le, take_at, take_all, drop_at, get_or-take, append-nil, length-append, append_assoc, length-drop}
use Rattle.std.proofs.lemmas.List.Elements.{recursion_from_All}
use Rattle.std.proofs.lemmas.List.FromFn.{length-map-range_with_len}
use Rattle.std.proofs.lemmas.List.Sums.{prefix_len-le-length, prefix_len_passes}
use Rattle.queue_core.specs.Sound.{reserved, printed}
use Rattle.queue_core.specs.World.{grant_cmp, text_cmp, report_cmp}
use Rattle.queue_types.specs.declared.document.Document.{Document}
use Rattle.queue_types.specs.declared.document.Format.{Format}
use Rattle.queue_types.specs.declared.job.Job.{Job}
use Rattle.queue_rows.specs.Accounts.{reserved_for, printed_for}
use Rattle.queue_rows.specs.Documents.{next_of, AreGrouped, documents_from}
use Rattle.queue_rows.specs.Meta.{IsSoundMeta}
use Rattle.queue_rows.specs.Pieces.{piece_of, pieces_of, pieces_in, piece_at, cut_up, length_in}
use Rattle.queue_rows.specs.Rows.{Tables, meta_row, job_row, document_rows, bytes_of_entry, account_row, grant_row, report_row, rows_of}
use Rattle.queue_rows.specs.declared.rows.DocumentRow.{DocumentRow}
use Rattle.queue_rows.specs.Versions.{FitsPolicy, IsOf, IsOnePolicy, Version, keep_in, number_of, operator_rows, operators_in, policy_row, policy_rows, first_version, second_version, third_version}
use Rattle.queue_rows.specs.declared.rows.MetaRow.{MetaRow}
use Rattle.queue_rows.specs.declared.rows.PolicyRow.{PolicyRow}
use Rattle.queue_rows.proofs.Filled.{octets_of, reserved_filled, printed_filled}
use Rattle.queue_rows.proofs.GroupLemmas.{doc_of, is_of}
use Rattle.queue_rows.proofs.WorldGrants.{grants_sorted, free_sorted, reports_sorted}
use Rattle.queue_rows.proofs.WorldJobs.{size_of, rows_in, sizes_in, octets_in_pieces, length_concat, sum_mapped, mapped_front, take_mapped, drop_mapped, same_length}
use Rattle.queue_rows.proofs.WorldOf.{IsBare, FitTogether, HasRows, documents_in, entries_in, world_from, grant_entry, free_entry, report_entry}

abbrev pub format_of : Document → Format
format_of d = d.format

abbrev pub format_in : DocumentRow → Format
format_in d = d.format

pub formats_in : (ds : List DocumentRow) (bs : List (List ℕ)) → map format_of (documents_in ds bs) ≡ map format_in ds
formats_in [] bs = refl
formats_in (d ∷ ds) bs = ap (λ (l : List Format). d.format ∷ l) (formats_in ds (drop (pieces_in d.octets) bs))

-- documents that have the sizes and formats of rows of one job, numbered on from the first
pub group_rows : (number first : ℕ) (xs : List Document) (ds : List DocumentRow) → map size_of xs ≡ map octets_of ds → map format_of xs ≡ map format_in ds
    → ((k : ℕ) (d : DocumentRow) → k < length ds → (get_or ds k d).job ≡ number) → map doc_of ds ≡ range_with_len first (length ds) → documents_from number first xs ≡ ds
group_rows number first [] [] s f jobs docs = refl
group_rows number first (x ∷ xs) (d ∷ ds) s f jobs docs =
    let size : size_of x ≡ octets_of d = cc in
    let sizes : map size_of xs ≡ map octets_of ds = cc in
    let format : format_of x ≡ format_in d = cc in
    let formats : map format_of xs ≡ map format_in ds = cc in
    let job : d.job ≡ number = jobs 0 d (omega arith) in
    let doc : d.doc ≡ first = cc in
    let later : map doc_of ds ≡ range_with_len (first + 1) (length ds) = cc in
    let rest = group_rows number (first + 1) xs ds sizes formats (λ k e lt. jobs (suc k) e (omega arith)) later in
    λ i. record { job = sym job i; doc = sym doc i; format = format i; octets = size i } ∷ rest i
group_rows number first _ _ s f jobs docs = absurd cc

pub documents_kept : (js : List Job) (ds : List DocumentRow) (all : List Document) → map size_of all ≡ map octets_of ds → map format_of all ≡ map format_in ds → AreGrouped js ds → flat_map document_rows (entries_in js ds all) ≡ ds
documents_kept [] ds all s f group = sym group
documents_kept (j ∷ js) ds all s f group =
    let n = next_of j.number ds in
    let short : n ≤ length ds = prefix_len-le-length (is_of j.number) ds in
    let many : length (take n ds) ≡ n = length-take-le n ds short in
    let jobs = λ (k : ℕ) (d : DocumentRow) (lt : k < length (take n ds)).
    ap (λ (x : DocumentRow). x.job) (get_or-take n ds k d (omega (arith, lt, many))) ∙ eqb-true (get_or ds k d).job j.number (prefix_len_passes (is_of j.number) ds k d (omega (arith, lt, many))) in
    let docs : map doc_of (take n ds) ≡ range_with_len 1 (length (take n ds)) = group.0.1 ∙ ap (range_with_len 1) (sym many) in
    let front : documents_from j.number 1 (take n all) ≡ take n ds
    = group_rows j.number 1 (take n all) (take n ds) (take_mapped size_of octets_of n all ds s) (take_mapped format_of format_in n all ds f) jobs docs in
    let rest = documents_kept js (drop n ds) (drop n all) (drop_mapped size_of octets_of n all ds s) (drop_mapped format_of format_in n all ds f) group.1 in
    ap (λ (l : List DocumentRow). l ++ flat_map document_rows (entries_in js (drop n ds) (drop n all))) front ∙ ap (λ (l : List DocumentRow). take n ds ++ l) rest ∙ take-append-drop n ds

-- ---- pieces

abbrev pub piece_length : ℕ → ℕ → ℕ
piece_length o k = min 65536 (o - k * 65536)

more_left : (o a n : ℕ) → a + suc (suc n) ≡ div_ceil o 65536 → 65536 ≤ o - a * 65536
more_left o a n e = omega arith

cut_from : (o a n : ℕ) (front : List ℕ) (bs : List (List ℕ)) → length front ≡ a * 65536 → a + n ≡ div_ceil o 65536 → map length bs ≡ map (piece_length o) (range_with_len a n) → map (piece_at (front ++ concat bs)) (range_with_len a n) ≡ bs
cut_from o a zero front [] len count e = refl
cut_from o a zero front (b ∷ bs) len count e = absurd cc
cut_from o a (suc n) front [] len count e = absurd cc
cut_from o a (suc zero) front (b ∷ []) len count e =
    let size : length b ≡ piece_length o a = cc in
    let here : drop (a * 65536) (front ++ (b ++ [])) ≡ b ++ [] = drop_at front (b ++ []) (a * 65536) len in
    let one : piece_at (front ++ (b ++ [])) a ≡ b = ap (take 65536) (here ∙ append-nil b) ∙ take_all 65536 b (omega (arith, size)) in
    ap (λ (l : List ℕ). l ∷ []) one
cut_from o a (suc zero) front (b ∷ c ∷ bs) len count e = absurd cc
cut_from o a (suc (suc n)) front (b ∷ bs) len count e =
    let size : length b ≡ piece_length o a = cc in
    let sizes : map length bs ≡ map (piece_length o) (range_with_len (a + 1) (suc n)) = cc in
    let full : length b ≡ 65536 = omega (arith, size, more_left o a n count) in
    let here : drop (a * 65536) (front ++ (b ++ concat bs)) ≡ b ++ concat bs = drop_at front (b ++ concat bs) (a * 65536) len in
    let one : piece_at (front ++ (b ++ concat bs)) a ≡ b = ap (take 65536) here ∙ take_at b (concat bs) 65536 full in
    let long : length (front ++ b) ≡ (a + 1) * 65536 = omega (arith, length-append front b, len, full) in
    let rest : map (piece_at ((front ++ b) ++ concat bs)) (range_with_len (a + 1) (suc n)) ≡ bs = cut_from o (a + 1) (suc n) (front ++ b) bs long (omega (arith, count)) sizes in
    let same : map (piece_at (front ++ (b ++ concat bs))) (range_with_len (a + 1) (suc n)) ≡ bs = ap (λ (l : List ℕ). map (piece_at l) (range_with_len (a + 1) (suc n))) (sym (append_assoc front b (concat bs))) ∙ rest in
    ap (λ (l : List ℕ). l ∷ map (piece_at (front ++ (b ++ concat bs))) (range_with_len (a + 1) (suc n))) one ∙ ap (λ (l : List (List ℕ)). b ∷ l) same

pub lengths_of : (d : DocumentRow) (ks : List ℕ) → map length_in (map (piece_of d) ks) ≡ map (piece_length d.octets) ks
lengths_of d [] = refl
lengths_of d (k ∷ ks) = ap (λ (l : List ℕ). piece_length d.octets k ∷ l) (lengths_of d ks)

-- the bytes of a document, cut up, are its pieces
pub cut_concat : (d : DocumentRow) (bs : List (List ℕ)) → map length bs ≡ map length_in (pieces_of d) → cut_up (concat bs) ≡ bs
cut_concat d bs e =
    let octets : length (concat bs) ≡ d.octets = length_concat bs ∙ sum_mapped length length_in bs (pieces_of d) e ∙ octets_in_pieces d in
    ap (λ (n : ℕ). map (piece_at (concat bs)) (range_with_len 0 (div_ceil n 65536))) octets
    ∙ cut_from d.octets 0 (pieces_in d.octets) [] bs refl (omega arith) (e ∙ lengths_of d (range_with_len 0 (pieces_in d.octets)))

abbrev pub cut_document : Document → List (List ℕ)
cut_document d = cut_up d.bytes

pub pieces_cut : (ds : List DocumentRow) (bs : List (List ℕ)) → map length bs ≡ map length_in (flat_map pieces_of ds) → flat_map cut_document (documents_in ds bs) ≡ bs
pieces_cut [] [] e = refl
pieces_cut [] (b ∷ bs) e = absurd cc
pieces_cut (d ∷ ds) bs e =
    let n = pieces_in d.octets in
    let count : length (pieces_of d) ≡ n = length-map-range_with_len (piece_of d) 0 n in
    let parts = mapped_front length length_in bs (pieces_of d) (flat_map pieces_of ds) e in
    let front : map length (take n bs) ≡ map length_in (pieces_of d) = ap (λ (m : ℕ). map length (take m bs)) (sym count) ∙ parts.0 in
    let rest : map length (drop n bs) ≡ map length_in (flat_map pieces_of ds) = ap (λ (m : ℕ). map length (drop m bs)) (sym count) ∙ parts.1 in
    ap (λ (l : List (List ℕ)). l ++ flat_map cut_document (documents_in ds (drop n bs))) (cut_concat d (take n bs) front)
    ∙ ap (λ (l : List (List ℕ)). take n bs ++ l) (pieces_cut ds (drop n bs) rest) ∙ take-append-drop n bs

pub pieces_kept : (js : List Job) (ds : List DocumentRow) (all : List Document) → length all ≡ length ds → AreGrouped js ds → flat_map bytes_of_entry (entries_in js ds all) ≡ flat_map cut_document all
pieces_kept [] ds [] same group = refl
pieces_kept [] ds (x ∷ all) same group = absurd (let none : length ds ≡ 0 = ap length group in omega (arith, none))
pieces_kept (j ∷ js) ds all same group =
    let n = next_of j.number ds in
    let left : length (drop n all) ≡ length (drop n ds) = omega (arith, length-drop n all, length-drop n ds, same) in
    ap (λ (l : List (List ℕ)). flat_map cut_document (take n all) ++ l) (pieces_kept js (drop n ds) (drop n all) left group.1)
    ∙ sym (flat_map-append cut_document (take n all) (drop n all)) ∙ ap (flat_map cut_document) (take-append-drop n all)

pub has_rows : (m : MetaRow) (t : Tables) (bs : List (List ℕ)) → map length bs ≡ map length_in t.pieces → FitTogether t → HasRows (world_from m t bs) t bs
has_rows m t bs lengths f =
    let ds = t.documents in
    let e : map length bs ≡ map length_in (flat_map pieces_of ds) = lengths ∙ ap (map length_in) f.pieces in
    let all = documents_in ds bs in
    let sizes : map size_of all ≡ map octets_of ds = sizes_in ds bs e in
    record {
      jobs = rows_in t.jobs ds all;
      documents = documents_kept t.jobs ds all sizes (formats_in ds bs) f.grouped;
      pieces = pieces_kept t.jobs ds all (same_length size_of octets_of all ds sizes) f.grouped ∙ pieces_cut ds bs e;
      grants = entries-from_sorted grant_cmp (map grant_entry t.grants) (grants_sorted t.grants f.grants);
      free = entries-from_sorted text_cmp (map free_entry t.accounts) (free_sorted t.accounts f.accounts);
      reports = entries-from_sorted report_cmp (map report_entry t.reports) (reports_sorted t.reports f.reports);
    }

-- ---- the rows of the world that rows stand for

pub mapped_back : {X Y : Type 0} (f : X → Y) (g : Y → X) (xs : List X) → Each (λ x. g (f x) ≡ x) xs → map g (map f xs) ≡ xs
mapped_back f g [] h = refl
mapped_back f g (x ∷ xs) h = λ i. h.0 i ∷ mapped_back f g xs h.1 i

pub each_holds : {X : Type 0} (P : X → Type 0) → ((x : X) → P x) → (xs : List X) → Each P xs
each_holds P one [] = tt
each_holds P one (x ∷ xs) = (one x, each_holds P one xs)

jobs_back : (js : List Job) (ds : List DocumentRow) (all : List Document) → Each IsBare js → map job_row (entries_in js ds all) ≡ js
jobs_back [] ds all h = refl
jobs_back (j ∷ js) ds all h =
    let none : 0 ≡ j.documents = sym h.0.0 in
    let empty : 0 ≡ j.octets = sym h.0.1 in
    λ i. record j { documents = none i; octets = empty i } ∷ jobs_back js (drop (next_of j.number ds) ds) (drop (next_of j.number ds) all) h.1 i

-- the version that these tables are of
abbrev pub version_of : Option (List PolicyRow) → Option (List (List ℕ)) → Version
version_of None operators = first_version
version_of (Some ps) None = second_version
version_of (Some ps) (Some operators) = third_version

one_back : (ps : List PolicyRow) → IsOnePolicy ps → policy_row (keep_in (Some ps)) ∷ [] ≡ ps
one_back [] one = absurd (let no = one.1 in cc)
one_back (p ∷ ps) one =
    let none : ps ≡ [] = let is = one.1 in cc in
    let first : p ≡ one.0 = let is = one.1 in cc in
    let key : 1 ≡ p.one = sym (ap (λ (q : PolicyRow). q.one) first ∙ one.2) in
    λ i. record p { one = key i } ∷ sym none i

policy_back : (n : ℕ) (policy : Option (List PolicyRow)) (operators : Option (List (List ℕ))) → FitsPolicy n policy operators
    → (number_of (version_of policy operators) ≡ n) × (policy_rows (version_of policy operators) (keep_in policy) ≡ policy) × (operator_rows (version_of policy operators) (operators_in operators) ≡ operators)
policy_back n None None fits = (sym fits, refl, refl)
policy_back n None (Some operators) fits = absurd fits
policy_back n (Some ps) None fits = (sym fits.0, ap Some (one_back ps fits.1), refl)
policy_back n (Some ps) (Some operators) fits = (sym fits.0, ap Some (one_back ps fits.1), refl)

pub fits_back : (m : MetaRow) (t : Tables) (bs : List (List ℕ)) (n : ℕ) → FitsPolicy n t.policy t.operators → IsOf (version_of t.policy t.operators) (world_from m t bs)
fits_back m t bs n = of t.policy t.operators
  where
    of : (policy : Option (List PolicyRow)) (operators : Option (List (List ℕ))) → FitsPolicy n policy operators → IsOf (version_of policy operators) (world_from m (record t { policy = policy; operators = operators }) bs)
    of None None fits = (refl, refl)
    of None (Some operators) fits = absurd fits
    of (Some ps) None fits = refl
    of (Some ps) (Some operators) fits = tt

pub rows_back : (m : MetaRow) (t : Tables) (bs : List (List ℕ)) → map length bs ≡ map length_in t.pieces → t.meta ≡ m ∷ [] → IsSoundMeta m t.policy t.operators → FitTogether t → rows_of (version_of t.policy t.operators) (world_from m t bs) ≡ t
rows_back m t bs lengths only meta f =
    let w = world_from m t bs in
    let has = has_rows m t bs lengths f in
    let stored : Each (λ a. account_row w (free_entry a) ≡ a) t.accounts = recursion_from_All (λ a. account_row w (free_entry a) ≡ a) t.accounts (λ k d lt.
    let a = get_or t.accounts k d in
    let s = f.sums k d lt in
    let reserved_is : reserved a.name w ≡ a.reserved = ap (reserved_for a.name) has.jobs ∙ reserved_filled a.name t.jobs t.documents ∙ sym s.0 in
    let printed_is : printed a.name w ≡ a.printed = ap (printed_for a.name) has.jobs ∙ printed_filled a.name t.jobs t.documents ∙ sym s.1 in
    λ i. record a { reserved = reserved_is i; printed = printed_is i }) in
    let one : 1 ≡ m.one = sym meta.one in
    let kept = policy_back m.schema t.policy t.operators meta.schema in
    let schema : number_of (version_of t.policy t.operators) ≡ m.schema = kept.0 in
    let row : meta_row (version_of t.policy t.operators) w ≡ m = λ i. record m { one = one i; schema = schema i } in
    let head : meta_row (version_of t.policy t.operators) w ∷ [] ≡ t.meta = ap (λ (x : MetaRow). x ∷ []) row ∙ sym only in
    let jobs : map job_row w.jobs ≡ t.jobs = jobs_back t.jobs t.documents (documents_in t.documents bs) (recursion_from_All IsBare t.jobs f.no_documents) in
    let pieces : flat_map pieces_of (flat_map document_rows w.jobs) ≡ t.pieces = ap (flat_map pieces_of) has.documents ∙ sym f.pieces in
    let accounts : map (account_row w) (entries w.free) ≡ t.accounts = ap (map (account_row w)) has.free ∙ mapped_back free_entry (account_row w) t.accounts stored in
    let grants : map grant_row (entries w.grants) ≡ t.grants = ap (map grant_row) has.grants ∙ mapped_back grant_entry grant_row t.grants (each_holds (λ g. grant_row (grant_entry g) ≡ g) (λ g. refl) t.grants) in
    let reports : map report_row (entries w.reports) ≡ t.reports = ap (map report_row) has.reports ∙ mapped_back report_entry report_row t.reports (each_holds (λ r. report_row (report_entry r) ≡ r) (λ r. refl) t.reports) in
    λ i. record { meta = head i; jobs = jobs i; documents = has.documents i; pieces = pieces i; accounts = accounts i; grants = grants i; reports = reports i; policy = kept.1 i; operators = kept.2 i }
