-- Which document the device is shown.
use Rattle.std.proofs.Common.{◌≡◌, inl, inr, ℕ, ◌+◌, ◌-◌, List, [], ◌∷◌, ◌++◌, map, filter, find, length, Bool, true, false, ◌&&◌, ◌==◌, nat_lt, if◌then◌else◌, Option, None, Some, option_map, slice_get, refl, sym, ap, subst, ◌∙◌}
use Rattle.std.specs.List.Sorted.{IsPermutation}
use Rattle.std.proofs.lemmas.Bool.{cases_Bool}
use Rattle.sqlite.specs.Order.{Row, column}
use Rattle.sqlite.specs.State.{State, Shown}
use Rattle.queue_core.specs.Shown.{document_at, document_of, may_be_fetched}
use Rattle.queue_core.specs.Sound.{IsSound}
use Rattle.queue_core.specs.World.{World, Entry, rows, job_at}
use Rattle.queue_types.specs.declared.document.Document.{Document}
use Rattle.queue_types.specs.declared.job.Job.{Job}
use Rattle.queue_tables.specs.Content.{Holds, content_of, document_rows}
use Rattle.queue_tables.specs.Steps.{is_numbered}
use Rattle.queue_tables.specs.Values.{document_values, document_view, job_view}
use Rattle.queue_tables.proofs.Documents.{row_of, all_documents}
use Rattle.queue_tables.proofs.Entries.{distinct_of, rows_in, row_at, found_rows}
use Rattle.queue_tables.proofs.Puts.{rows_twice}
use Rattle.queue_tables.proofs.Showing.{shows_all}
use Rattle.queue_shown.specs.Fetched.{document_in, job_may_be_fetched, nth_document, state_values}
use Rattle.queue_shown.specs.Heads.{head_values}
use Rattle.queue_shown.proofs.DocumentParts.{is_of, of_numbers, rows_from, all_rows, chosen, only_document}
use Rattle.queue_tables.proofs.Firsts.{rows_for, exactly}
use Rattle.queue_shown.proofs.Texts.{select_state, select_state_is, select_head, select_head_is}
use Rattle.queue_types.specs.Formats.{format_name}
use Rattle.queue_tables.specs.Values.{number}
use Rattle.sqlite.specs.declared.types.Value.TheVariants.{Text as Words}

-- ---- the state of the job

abbrev state_out : Row → Row
state_out v = column v 5 ∷ column v 6 ∷ column v 7 ∷ column v 8 ∷ column v 9 ∷ []

states_for : (o : Option Job) → map state_out (found_rows o) ≡ rows_for state_values o
states_for None = refl
states_for (Some j) = refl

-- the row of the job of that number, or none
pub reads_state : (old new : State) (job : ℕ) (found : List Row) (w : World) → IsSound w → Holds (content_of w) old → Shown select_state.text (number job ∷ []) old new found
    → found ≡ rows_for state_values (job_at job (rows w))
reads_state old new job found w sound has h =
    let p = shows_all select_state select_state_is
    old new (number job ∷ []) job_view (is_numbered job) state_out (content_of w).jobs found has.schema (λ r. refl) (λ r. refl) has.rows.jobs h in
    let only : map state_out (filter (is_numbered job) (content_of w).jobs) ≡ rows_for state_values (job_at job (rows w))
    = ap (map state_out) (ap (filter (is_numbered job)) (rows_twice w.jobs) ∙ row_at job w.jobs (distinct_of 1 w.jobs w.next sound.numbers)) ∙ states_for (job_at job (rows w)) in
    exactly state_values (job_at job (rows w)) found (subst (λ (k : List Row). IsPermutation k found) only p)

-- ---- the row of the document

abbrev document_part : ℕ → ℕ → Document → List Row
document_part m k d = document_values (row_of m k d) ∷ []

documents_are : (m k : ℕ) (ds : List Document) → document_rows m k ds ≡ rows_from document_part m k ds
documents_are m k [] = refl
documents_are m k (d ∷ ds) = ap (λ (rs : List Row). document_values (row_of m k d) ∷ rs) (documents_are m (k + 1) ds)

all_are : (es : List Entry) → all_documents es ≡ all_rows document_part es
all_are [] = refl
all_are (e ∷ es) = ap (λ (rs : List Row). rs ++ all_documents es) (documents_are e.row.number 1 e.documents) ∙ ap (λ (rs : List Row). rows_from document_part e.row.number 1 e.documents ++ rs) (all_are es)

document_tests : (job n m k : ℕ) (d : Document) → filter (is_of job n) (document_part m k d) ≡ (if (m == job) && (k == n) then document_part m k d else [])
document_tests job n m k d = rw (of_numbers job n m k (Words (format_name d.format) ∷ number (length d.bytes) ∷ [])) refl

abbrev head_out : Row → Row
head_out v = column v 2 ∷ column v 3 ∷ []

heads_for : (job n : ℕ) (o : Option Document) → map head_out (chosen document_part job n o) ≡ rows_for head_values o
heads_for job n None = refl
heads_for job n (Some d) = refl

-- the row of the document, or none
pub reads_head : (old new : State) (job n : ℕ) (found : List Row) (w : World) → IsSound w → Holds (content_of w) old → Shown select_head.text (number job ∷ number n ∷ []) old new found
    → found ≡ rows_for head_values (document_in w.jobs job n)
reads_head old new job n found w sound has h =
    let p = shows_all select_head select_head_is
    old new (number job ∷ number n ∷ []) document_view (is_of job n) head_out (content_of w).documents found has.schema (λ r. refl) (λ r. refl) has.rows.documents h in
    let only : map head_out (filter (is_of job n) (content_of w).documents) ≡ rows_for head_values (document_in w.jobs job n)
    = ap (map head_out) (ap (filter (is_of job n)) (all_are w.jobs) ∙ only_document document_part job n (document_tests job n) w.jobs (distinct_of 1 w.jobs w.next sound.numbers)) ∙ heads_for job n (document_in w.jobs job n) in
    exactly head_values (document_in w.jobs job n) found (subst (λ (k : List Row). IsPermutation k found) only p)

-- ---- the whole

shown_if : (o : Option Entry) (n : ℕ) → document_of o n ≡ (if job_may_be_fetched (option_map (λ (e : Entry). e.row) o) then nth_document o n else None)
shown_if None n = refl
shown_if (Some e) n = at (may_be_fetched e.row) (nat_lt 0 n) (slice_get e.documents (n - 1))
  where
    at : (a b : Bool) (o : Option Document) → (if a && b then o else None) ≡ (if a then (if b then o else None) else None)
    at true b o = refl
    at false b o = refl

row_found : (job : ℕ) (es : List Entry) → job_at job (rows_in es) ≡ option_map (λ (e : Entry). e.row) (find (λ (e : Entry). e.row.number == job) es)
row_found job [] = refl
row_found job (e ∷ es) = elim (cases_Bool (e.row.number == job)) [
  | inl same ↦ rw same refl
  | inr apart ↦ rw apart (row_found job es)
]

-- a document is shown where its job may be fetched, and is then the one of that number
pub shown_document : (w : World) (job n : ℕ) → document_at w job n ≡ (if job_may_be_fetched (job_at job (rows w)) then document_in w.jobs job n else None)
unfolding document_at
shown_document w job n =
    shown_if (find (λ (e : Entry). e.row.number == job) w.jobs) n
    ∙ ap (λ (o : Option Job). if job_may_be_fetched o then document_in w.jobs job n else None) (sym (row_found job w.jobs))

pub not_shown : (w : World) (job n : ℕ) (b : Bool) → b ≡ false → b ≡ job_may_be_fetched (job_at job (rows w)) → document_at w job n ≡ None
not_shown w job n b none is = shown_document w job n ∙ ap (λ (c : Bool). if c then document_in w.jobs job n else None) (sym is ∙ none)

pub is_shown : (w : World) (job n : ℕ) (b : Bool) → b ≡ true → b ≡ job_may_be_fetched (job_at job (rows w)) → document_at w job n ≡ document_in w.jobs job n
is_shown w job n b some is = shown_document w job n ∙ ap (λ (c : Bool). if c then document_in w.jobs job n else None) (sym is ∙ some)
