-- The documents of a job, by their rows.
use Rattle.std.proofs.Common.{◌≡◌, ◌≤◌, ◌*◌, inl, inr, ℕ, ◌+◌, All, List, [], ◌∷◌, ◌++◌, map, filter, length, false, ◌==◌, Option, Some, refl, sym, ap, subst, ◌∙◌, arith, sum_by, append-nil}
use Rattle.std.specs.List.{AllByRecursion as Each}
use Rattle.std.specs.List.Sorted.{IsPermutation}
use Rattle.std.proofs.lemmas.Bool.{cases_Bool, eqb-true}
use Rattle.std.proofs.lemmas.List.{length-map}
use Rattle.std.proofs.lemmas.List.Elements.{All-from_recursion, filter-append}
use Rattle.std.proofs.lemmas.List.Sums.{sum_by-cons}
use Rattle.std.proofs.lemmas.List.Sorted.{All-permutation, length_permutation, sum_by-IsPermutation}
use Rattle.sqlite.specs.Order.{Row, column}
use Rattle.sqlite.specs.State.{State, Shown}
use Rattle.queue_types.specs.declared.job.Job.{Job}
use Rattle.queue_types.specs.declared.document.Document.{Document}
use Rattle.queue_core.specs.Sound.{IsSound, IsSoundDocument, IsSoundEntry}
use Rattle.queue_core.specs.World.{World, Entry, job_at, rows, has_number}
use Rattle.queue_tables.specs.Content.{Holds, content_of, document_rows}
use Rattle.queue_tables.specs.Steps.{AreDistinct, is_numbered}
use Rattle.queue_tables.specs.Values.{number, document_view}
use Rattle.queue_tables.proofs.Documents.{all_documents, all_of_job, count_rows, no_rows, none_of_job}
use Rattle.queue_tables.proofs.Entries.{rows_in, distinct_of}
use Rattle.queue_tables.proofs.Showing.{shows_all}
use Rattle.queue_tables.proofs.Statements.{select_octets, select_octets_is}
use Rattle.queue_tables.specs.Sizes.{IsLengthRow, first_number}

-- the entry of a job, with the rows of its documents
pub record HasEntry (n : ℕ) (es : List Entry) (k : Job) : Type 0 where
  pub entry : Entry
  pub row : entry.row ≡ k
  pub sound : IsSoundEntry entry
  pub documents : filter (is_numbered n) (all_documents es) ≡ document_rows entry.row.number 1 entry.documents

pub entry_there : (n : ℕ) (es : List Entry) (k : Job) → AreDistinct es → Each IsSoundEntry es → job_at n (rows_in es) ≡ Some k → HasEntry n es k
entry_there n [] k d sound there = absurd cc
entry_there n (e ∷ es) k d sound there = elim (cases_Bool (e.row.number == n)) [
  | inl same ↦
      let rest = no_rows n es (subst (λ m. has_number m es ≡ false) (eqb-true e.row.number n same) d.0) in
      let is : ◌≡◌ {A = Option Job} (Some e.row) (Some k) = rw same at there in
      record {
        entry = e;
        row = (let row_is : e.row ≡ k = cc in row_is);
        sound = sound.0;
        documents = filter-append (is_numbered n) (document_rows e.row.number 1 e.documents) (all_documents es) ∙ ap (λ (rs : List Row). filter (is_numbered n) (document_rows e.row.number 1 e.documents) ++ rs) rest
            ∙ append-nil (filter (is_numbered n) (document_rows e.row.number 1 e.documents)) ∙ all_of_job n e.row.number 1 e.documents same;
      }
  | inr apart ↦
      let more = entry_there n es k d.1 sound.1 (rw apart at there) in
      record {
        entry = more.entry;
        row = more.row;
        sound = more.sound;
        documents = filter-append (is_numbered n) (document_rows e.row.number 1 e.documents) (all_documents es)
            ∙ ap (λ (rs : List Row). rs ++ filter (is_numbered n) (all_documents es)) (none_of_job n e.row.number 1 e.documents apart) ∙ more.documents;
      }
]

-- ---- their number and their lengths

octets_out : Row → Row
octets_out v = column v 3 ∷ []

sum_rows : (job from : ℕ) (ds : List Document) → sum_by first_number (map octets_out (document_rows job from ds)) ≡ sum_by (λ (d : Document). length d.bytes) ds
unfolding octets_out
sum_rows job from [] = refl
sum_rows job from (d ∷ ds) =
    let more = sum_rows job (from + 1) ds in
    let a = sum_by-cons first_number (number (length d.bytes) ∷ []) (map octets_out (document_rows job (from + 1) ds)) in
    let b = sum_by-cons (λ (d : Document). length d.bytes) d ds in
    omega (arith, more, a, b)

octets_shown : (old new : State) (n : ℕ) (shown_rows : List Row) (w : World) (k : Job) → IsSound w → Holds (content_of w) old → job_at n (rows w) ≡ Some k → Shown select_octets.text (number n ∷ []) old new shown_rows
    → (it : HasEntry n w.jobs k) × IsPermutation (map octets_out (document_rows it.entry.row.number 1 it.entry.documents)) shown_rows
unfolding octets_out
octets_shown old new n shown_rows w k sound has there h =
    let it = entry_there n w.jobs k (distinct_of 1 w.jobs w.next sound.numbers) sound.entries there in
    let p = shows_all select_octets select_octets_is
    old new (number n ∷ []) document_view (is_numbered n) octets_out (content_of w).documents shown_rows has.schema (λ r. refl) (λ r. refl) has.rows.documents h in
    (it, subst (λ (vs : List Row). IsPermutation (map octets_out vs) shown_rows) it.documents p)

pub sizes_shown : (old new : State) (n : ℕ) (shown_rows : List Row) (w : World) (k : Job) → IsSound w → Holds (content_of w) old → job_at n (rows w) ≡ Some k → Shown select_octets.text (number n ∷ []) old new shown_rows
    → (length shown_rows ≡ k.documents) × (sum_by first_number shown_rows ≡ k.octets)
sizes_shown old new n shown_rows w k sound has there h =
    let found = octets_shown old new n shown_rows w k sound has there h in
    let it = found.0 in
    let docs = document_rows it.entry.row.number 1 it.entry.documents in (
      length_permutation (map octets_out docs) shown_rows found.1 ∙ length-map docs octets_out ∙ count_rows it.entry.row.number 1 it.entry.documents ∙ sym it.sound.documents ∙ ap (λ (j : Job). j.documents) it.row,
      sum_by-IsPermutation first_number (map octets_out docs) shown_rows found.1 ∙ sum_rows it.entry.row.number 1 it.entry.documents ∙ sym it.sound.octets ∙ ap (λ (j : Job). j.octets) it.row,
    )

-- ---- and that both are within their limits

rows_of_lengths : (job from : ℕ) (ds : List Document) → Each IsSoundDocument ds → Each IsLengthRow (map octets_out (document_rows job from ds))
unfolding octets_out
rows_of_lengths job from [] sound = tt
rows_of_lengths job from (d ∷ ds) sound = ((length d.bytes, omega (arith, sound.0.1), refl), rows_of_lengths job (from + 1) ds sound.1)

pub lengths_shown : (old new : State) (n : ℕ) (shown_rows : List Row) (w : World) (k : Job) → IsSound w → Holds (content_of w) old → job_at n (rows w) ≡ Some k → Shown select_octets.text (number n ∷ []) old new shown_rows → All IsLengthRow shown_rows
lengths_shown old new n shown_rows w k sound has there h =
    let found = octets_shown old new n shown_rows w k sound has there h in
    let it = found.0 in
    let docs = document_rows it.entry.row.number 1 it.entry.documents in
    All-permutation IsLengthRow (map octets_out docs) shown_rows found.1 (All-from_recursion IsLengthRow (map octets_out docs) (rows_of_lengths it.entry.row.number 1 it.entry.documents it.sound.sizes))

pub sizes_fit : (n : ℕ) (w : World) (k : Job) → IsSound w → job_at n (rows w) ≡ Some k → (k.documents ≤ 16) × (k.octets ≤ k.documents * 16777216)
sizes_fit n w k sound there =
    let it = entry_there n w.jobs k (distinct_of 1 w.jobs w.next sound.numbers) sound.entries there in (
      subst (λ (j : Job). j.documents ≤ 16) it.row it.sound.row.documents,
      subst (λ (j : Job). j.octets ≤ j.documents * 16777216) it.row it.sound.row.octets,
    )
