-- One more document of a job.
use Rattle.std.proofs.Common.{◌≡◌, inl, inr, ℕ, pos, ◌+◌, List, [], ◌∷◌, ◌++◌, map, filter, length, flat_map, fold, ◌≤◌, Bool, true, false, ◌==◌, Option, Some, None, refl, sym, ap, subst, subst₂, ◌∙◌, arith}
use Rattle.std.specs.FinMap.{entries}
use Rattle.std.proofs.Common.{sum_by, ℤ}
use Rattle.queue_types.specs.Job.{owed}
use Rattle.queue_tables.proofs.Puts.{of_account}
use Rattle.std.specs.List.Sorted.{IsPermutation}
use Rattle.std.proofs.lemmas.Bool.{cases_Bool, eqb-true, or_parts}
use Rattle.std.proofs.lemmas.List.{append_assoc, length-map}
use Rattle.std.proofs.lemmas.List.Elements.{filter-append}
use Rattle.std.proofs.lemmas.List.Sorted.{IsPermutation-append_right, IsPermutation-append_comm, length_permutation}
use Rattle.std.proofs.Common.{append-nil}
use Rattle.sqlite.specs.Order.{Row, column}
use Rattle.sqlite.specs.State.{State, Shown}
use Rattle.queue_types.specs.declared.job.Job.{Job}
use Rattle.queue_types.specs.declared.document.Document.{Document}
use Rattle.queue_core.specs.World.{World, Entry, add_document, job_at, rows, with_document, with_row, made_on, has_number}
use Rattle.queue_types.specs.Event.{NewDocument, Change}
use Rattle.queue_core.specs.Sound.{IsSound}
use Rattle.queue_rows.specs.Pieces.{pieces_in}
use Rattle.queue_rows.specs.declared.rows.DocumentRow.{DocumentRow}
use Rattle.queue_tables.specs.Values.{number, document_values, document_view, job_values, account_values}
use Rattle.queue_tables.specs.Content.{Holds, content_of, document_rows, piece_rows, pieces_from}
use Rattle.queue_tables.specs.Steps.{is_numbered, AreDistinct, with_added, with_document_row, with_pieces, document_count_at}
use Rattle.queue_tables.proofs.Numbers.{numbered_document}
use Rattle.queue_tables.proofs.Entries.{rows_in, length_of}
use Rattle.queue_tables.proofs.Held.{like_holds, same_order}
use Rattle.queue_tables.proofs.Showing.{shows_all, rows_keep}
use Rattle.queue_tables.proofs.Ending.{unchanged_holds}
use Rattle.queue_tables.proofs.Statements.{select_octets, select_octets_is}

-- ---- lists

-- the row of a document
abbrev pub row_of : ℕ → ℕ → Document → DocumentRow
row_of job doc d = record { job = job; doc = doc; format = d.format; octets = length d.bytes }

pub all_of_job : (n m from : ℕ) (ds : List Document) → (m == n) ≡ true → filter (is_numbered n) (document_rows m from ds) ≡ document_rows m from ds
all_of_job n m from [] same = refl
all_of_job n m from (d ∷ ds) same = rw (numbered_document n (row_of m from d) ∙ same) (ap (λ (rs : List Row). document_values (row_of m from d) ∷ rs) (all_of_job n m (from + 1) ds same))

pub count_rows : (job from : ℕ) (ds : List Document) → length (document_rows job from ds) ≡ length ds
count_rows job from [] = refl
count_rows job from (d ∷ ds) = let more = count_rows job (from + 1) ds in omega (arith, more)

pub none_of_job : (n m from : ℕ) (ds : List Document) → (m == n) ≡ false → filter (is_numbered n) (document_rows m from ds) ≡ []
none_of_job n m from [] apart = refl
none_of_job n m from (d ∷ ds) apart = rw (numbered_document n (row_of m from d) ∙ apart) (none_of_job n m (from + 1) ds apart)

pub none_in_both : (p : Row → Bool) (rs more : List Row) → filter p rs ≡ [] → filter p more ≡ [] → filter p (rs ++ more) ≡ []
none_in_both p rs more none none_more = filter-append p rs more ∙ ap (λ (ks : List Row). ks ++ filter p more) none ∙ none_more

-- what is made of other jobs' documents doesn't pass
pub none_of_others : (f : ℕ → List Document → List Row) (p : Row → Bool) (n : ℕ) → ((m : ℕ) (ds : List Document) → (m == n) ≡ false → filter p (f m ds) ≡ []) → (es : List Entry) → has_number n es ≡ false
    → filter p (flat_map (λ (e : Entry). f e.row.number e.documents) es) ≡ []
none_of_others f p n apart [] none = refl
none_of_others f p n apart (e ∷ es) none =
    let parts = or_parts (e.row.number == n) (has_number n es) none in
    none_in_both p (f e.row.number e.documents) (flat_map (λ (e : Entry). f e.row.number e.documents) es) (apart e.row.number e.documents parts.0) (none_of_others f p n apart es parts.1)

-- the rows of all documents
abbrev pub all_documents : List Entry → List Row
all_documents es = flat_map (λ (e : Entry). document_rows e.row.number 1 e.documents) es

pub no_rows : (n : ℕ) (es : List Entry) → has_number n es ≡ false → filter (is_numbered n) (all_documents es) ≡ []
no_rows n = none_of_others (λ m ds. document_rows m 1 ds) (is_numbered n) n (λ m ds apart. none_of_job n m 1 ds apart)

pub document_count : (n : ℕ) (es : List Entry) → AreDistinct es → length (filter (is_numbered n) (all_documents es)) ≡ document_count_at n es
document_count n [] d = refl
document_count n (e ∷ es) d = elim (cases_Bool (e.row.number == n)) [
  | inl same ↦
      let rest = no_rows n es (subst (λ m. has_number m es ≡ false) (eqb-true e.row.number n same) d.0) in
      let split : filter (is_numbered n) (all_documents (e ∷ es)) ≡ filter (is_numbered n) (document_rows e.row.number 1 e.documents)
      = filter-append (is_numbered n) (document_rows e.row.number 1 e.documents) (all_documents es) ∙ ap (λ (rs : List Row). filter (is_numbered n) (document_rows e.row.number 1 e.documents) ++ rs) rest ∙ append-nil _ in
      rw same (ap (length {A = Row}) (split ∙ all_of_job n e.row.number 1 e.documents same) ∙ count_rows e.row.number 1 e.documents)
  | inr apart ↦
      let split : filter (is_numbered n) (all_documents (e ∷ es)) ≡ filter (is_numbered n) (all_documents es)
      = filter-append (is_numbered n) (document_rows e.row.number 1 e.documents) (all_documents es) ∙ ap (λ (rs : List Row). rs ++ filter (is_numbered n) (all_documents es)) (none_of_job n e.row.number 1 e.documents apart) in
      rw apart (ap (length {A = Row}) split ∙ document_count n es d.1)
]

-- the other jobs stay
others_stay : (d : NewDocument) (es : List Entry) → has_number d.job es ≡ false → map (add_document d) es ≡ es
others_stay d [] none = refl
others_stay d (e ∷ es) none =
    let parts = or_parts (e.row.number == d.job) (has_number d.job es) none in
    rw (parts.0) (ap (λ (xs : List Entry). e ∷ xs) (others_stay d es parts.1))

abbrev pub plain_of : NewDocument → Document
plain_of d = record { format = d.format; bytes = d.bytes }

-- what is made of the documents has so many rows more
pub parts_added : (f : ℕ → List Document → List Row) (d : NewDocument) (extra : List Row) (es : List Entry) (was : Job) → AreDistinct es → job_at d.job (rows_in es) ≡ Some was
    → ((ds : List Document) → length ds ≡ document_count_at d.job es → f d.job (ds ++ plain_of d ∷ []) ≡ f d.job ds ++ extra)
    → IsPermutation (flat_map (λ (e : Entry). f e.row.number e.documents) es ++ extra) (flat_map (λ (e : Entry). f e.row.number e.documents) (map (add_document d) es))
parts_added f d extra [] was distinct there more = absurd cc
parts_added f d extra (e ∷ es) was distinct there more = elim (cases_Bool (e.row.number == d.job)) [
  | inl same ↦
      let at : e.row.number ≡ d.job = eqb-true e.row.number d.job same in
      let rest : List Row = flat_map (λ (e : Entry). f e.row.number e.documents) es in
      let stay = others_stay d es (subst (λ m. has_number m es ≡ false) at distinct.0) in
      let here : f e.row.number (e.documents ++ plain_of d ∷ []) ≡ f e.row.number e.documents ++ extra
      = subst (λ n. f n (e.documents ++ plain_of d ∷ []) ≡ f n e.documents ++ extra) (sym at) (more e.documents (rw same refl)) in
      let swapped : IsPermutation ((f e.row.number e.documents ++ rest) ++ extra) ((f e.row.number e.documents ++ extra) ++ rest)
      = subst₂ IsPermutation (sym (append_assoc (f e.row.number e.documents) rest extra)) (sym (append_assoc (f e.row.number e.documents) extra rest))
      (IsPermutation-append_right (f e.row.number e.documents) (rest ++ extra) (extra ++ rest) (IsPermutation-append_comm rest extra)) in
      rw (same, stay) (subst (λ (rs : List Row). IsPermutation ((f e.row.number e.documents ++ rest) ++ extra) (rs ++ rest)) (sym here) swapped)
  | inr apart ↦
      let rest : List Row = flat_map (λ (e : Entry). f e.row.number e.documents) es in
      let after : List Row = flat_map (λ (e : Entry). f e.row.number e.documents) (map (add_document d) es) in
      let tail : IsPermutation (rest ++ extra) after = parts_added f d extra es was distinct.1 (rw apart at there) (rw apart at more) in
      rw apart (subst (λ (rs : List Row). IsPermutation rs (f e.row.number e.documents ++ after)) (sym (append_assoc (f e.row.number e.documents) rest extra))
      (IsPermutation-append_right (f e.row.number e.documents) (rest ++ extra) after tail))
]

documents_push : (job from : ℕ) (ds : List Document) (d : Document) → document_rows job from (ds ++ d ∷ []) ≡ document_rows job from ds ++ document_values (row_of job (from + length ds) d) ∷ []
documents_push job from [] d = ap (λ k. document_values (row_of job k d) ∷ []) (omega arith)
documents_push job from (x ∷ ds) d = ap (λ (rs : List Row). document_values (row_of job from x) ∷ rs) (documents_push job (from + 1) ds d ∙ ap (λ k. document_rows job (from + 1) ds ++ document_values (row_of job k d) ∷ []) (omega arith))

pieces_push : (job from : ℕ) (ds : List Document) (d : Document) → pieces_from job from (ds ++ d ∷ []) ≡ pieces_from job from ds ++ piece_rows job (from + length ds) d.bytes
pieces_push job from [] d = append-nil (piece_rows job from d.bytes) ∙ ap (λ k. piece_rows job k d.bytes) (omega arith)
pieces_push job from (x ∷ ds) d = ap (λ (rs : List Row). piece_rows job from x.bytes ++ rs) (pieces_push job (from + 1) ds d ∙ ap (λ k. pieces_from job (from + 1) ds ++ piece_rows job k d.bytes) (omega arith))
    ∙ sym (append_assoc (piece_rows job from x.bytes) (pieces_from job (from + 1) ds) (piece_rows job (from + length (x ∷ ds)) d.bytes))

rows_added : (d : NewDocument) (es : List Entry) → rows_in (map (add_document d) es) ≡ rows_in es
rows_added d [] = refl
rows_added d (e ∷ es) = elim (cases_Bool (e.row.number == d.job)) [
  | inl same ↦ rw same (ap (λ (js : List Job). e.row ∷ js) (rows_added d es))
  | inr apart ↦ rw apart (ap (λ (js : List Job). e.row ∷ js) (rows_added d es))
]

-- ---- how many there are

pub counts_documents : (old new : State) (n : ℕ) (shown_rows : List Row) (w : World) → AreDistinct w.jobs → Holds (content_of w) old → Shown select_octets.text (number n ∷ []) old new shown_rows
    → (length shown_rows ≡ document_count_at n w.jobs) × Holds (content_of w) new
counts_documents old new n shown_rows w d has h =
    let p = shows_all select_octets select_octets_is
    old new (number n ∷ []) document_view (is_numbered n) (λ v. column v 3 ∷ []) (content_of w).documents shown_rows has.schema (λ r. refl) (λ r. refl) has.rows.documents h in (
      length_permutation _ _ p ∙ length-map (filter (is_numbered n) (all_documents w.jobs)) (λ (v : Row). column v 3 ∷ []) ∙ document_count n w.jobs d,
      unchanged_holds (content_of w) old new has (rows_keep select_octets select_octets_is old new (number n ∷ []) shown_rows has.schema h),
    )

-- ---- the whole

pub added_holds : (d : NewDocument) (w : World) (was : Job) (s : State) → AreDistinct w.jobs → job_at d.job (rows w) ≡ Some was
    → Holds (with_pieces d.job (document_count_at d.job w.jobs + 1) d.bytes (pieces_in (length d.bytes)) (with_document_row (document_values (row_of d.job (document_count_at d.job w.jobs + 1) (plain_of d))) (content_of w))) s
    → Holds (content_of (with_added (Some d) w)) s
added_holds d w was s distinct there has =
    let n = document_count_at d.job w.jobs + 1 in
    like_holds (with_pieces d.job n d.bytes (pieces_in (length d.bytes)) (with_document_row (document_values (row_of d.job n (plain_of d))) (content_of w))) (content_of (with_added (Some d) w)) s (record {
      meta = same_order refl;
      jobs = same_order (ap (map job_values) (sym (rows_added d w.jobs)));
      documents = parts_added (λ m ds. document_rows m 1 ds) d (document_values (row_of d.job n (plain_of d)) ∷ []) w.jobs was distinct there
          (λ ds long. documents_push d.job 1 ds (plain_of d) ∙ ap (λ k. document_rows d.job 1 ds ++ document_values (row_of d.job k (plain_of d)) ∷ []) (omega (arith, long)));
      pieces = parts_added (λ m ds. pieces_from m 1 ds) d (piece_rows d.job n d.bytes) w.jobs was distinct there
          (λ ds long. pieces_push d.job 1 ds (plain_of d) ∙ ap (λ k. pieces_from d.job 1 ds ++ piece_rows d.job k d.bytes) (omega (arith, long)));
      accounts = same_order (ap (λ (js : List Job). map (λ (a : List ℕ × ℤ). account_values a.0 a.1 (pos (sum_by (of_account owed a.0) js)) (pos (sum_by (of_account (λ j. j.count) a.0) js))) (entries w.free)) (sym (rows_added d w.jobs)));
      grants = same_order refl;
      reports = same_order refl;
      policy = same_order refl;
      operators = same_order refl;
    }) has

-- ---- what soundness of the made world gives

length_added : (o : Option NewDocument) (es : List Entry) → length (with_document es o) ≡ length es
length_added None es = refl
length_added (Some d) es = length-map es (add_document d)

pub few_made : (c : Change) (w : World) → IsSound (made_on c w) → length (fold with_row w.jobs c.jobs) ≤ 2147483648
few_made c w sound =
    let a = length_of 1 (made_on c w).jobs (made_on c w).next sound.numbers in
    let b : (made_on c w).next ≤ 2147483648 = sound.next in
    let e = length_added c.document (fold with_row w.jobs c.jobs) in
    omega (arith, a, b, e)
