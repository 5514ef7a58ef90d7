-- What the machine's decision on a sound world gives those who write its change: the rows are such that no table refuses them.
use Rattle.std.proofs.Common.{◌≡◌, ◌≤◌, ◌<◌, inl, inr, ℕ, List, [], ◌∷◌, ◌++◌, map, length, fold, get_or, Bool, true, false, ◌==◌, Option, Some, None, IfSome, IsSome, is_some, All, refl, sym, ap, subst, ◌∙◌, arith, cond}
use Rattle.std.specs.FinMap.{FinMap, get, get-insert}
use Rattle.std.specs.Ordering.{eq_by_cmp}
use Rattle.std.specs.List.{AllByRecursion as Each}
use Rattle.std.proofs.lemmas.Bool.{cases_Bool, eqb-true, eq-eqb}
use Rattle.std.proofs.lemmas.List.{length-append}
use Rattle.std.proofs.lemmas.List.Elements.{All-from_recursion}
use Rattle.queue_types.specs.Event.{Change, NewDocument}
use Rattle.queue_types.specs.declared.document.Document.{Document}
use Rattle.queue_types.specs.declared.event.GrantRow.{GrantRow}
use Rattle.queue_types.specs.declared.event.KeptReport.{KeptReport}
use Rattle.queue_types.specs.declared.job.Job.{Job}
use Rattle.queue_core.specs.Balance.{AreAmounts}
use Rattle.queue_core.specs.Limits.{IsSoundChange, IsSoundJob}
use Rattle.queue_core.specs.Sound.{IsKept, IsSound, IsSoundDocument, IsSoundEntry}
use Rattle.queue_core.specs.World.{World, Entry, add_document, grant_cmp, job_at, made_on, put_free, put_grant, with_document, with_report, with_row}
use Rattle.queue_core.proofs.Maps.{grant_total, own_grant_key, own_report_key, report_total}
use Rattle.queue_tables.specs.Forms.{AreFormed, IsFormedJob}
use Rattle.queue_tables.specs.Steps.{AreDistinct, AreReportsKeyed, CanKeep, CanTake, document_count_at, with_added, with_frees, with_grants, with_puts}
use Rattle.queue_tables.proofs.Documents.{plain_of}
use Rattle.queue_tables.proofs.Entries.{distinct-fold, distinct_of, rows_in}
use Rattle.queue_tables.proofs.Formed.{formed_job}

-- ---- the jobs that are put

pub formed_entries : (es : List Entry) → Each IsSoundEntry es → AreFormed es
formed_entries [] sound = tt
formed_entries (e ∷ es) sound = (formed_job e.row sound.0.row, formed_entries es sound.1)

amounts_of_job : (j : Job) → IsSoundJob j → AreAmounts j
amounts_of_job j sound = record { impressions = sound.impressions; copies = sound.copies.1; count = sound.count }

pub jobs_fit : (js : List Job) → All IsSoundJob js → All (λ j. AreAmounts j × IsFormedJob j) js
jobs_fit js sound = λ k d below. (amounts_of_job (get_or js k d) (sound k d below), formed_job (get_or js k d) (sound k d below))

distinct_made : (c : Change) (w : World) → IsSound w → AreDistinct (fold with_row w.jobs c.jobs)
distinct_made c w sound = distinct-fold c.jobs w.jobs (distinct_of 1 w.jobs w.next sound.numbers)

-- ---- a job that is put is there

there-with_row : (n : ℕ) (j : Job) (es : List Entry) → IsSome (job_at n (rows_in es)) → IsSome (job_at n (rows_in (with_row es j)))
there-with_row n j [] there = absurd cc
there-with_row n j (e ∷ es) there = elim (cases_Bool (e.row.number == j.number)) [
  | inl same ↦
      let at : e.row.number ≡ j.number = eqb-true e.row.number j.number same in
      rw same (elim (cases_Bool (j.number == n)) [
        | inl here ↦ rw here refl
        | inr other ↦ rw other (let before : (e.row.number == n) ≡ false = ap (λ m. m == n) at ∙ other in rw before at there)
      ])
  | inr apart ↦ rw apart (elim (cases_Bool (e.row.number == n)) [
    | inl here ↦ rw here refl
    | inr other ↦ rw other (there-with_row n j es (rw other at there))
  ])
]

there-fold : (n : ℕ) (js : List Job) (es : List Entry) → IsSome (job_at n (rows_in es)) → IsSome (job_at n (rows_in (fold with_row es js)))
there-fold n [] es there = there
there-fold n (j ∷ js) es there = there-fold n js (with_row es j) (there-with_row n j es there)

here-with_row : (j : Job) (es : List Entry) → IsSome (job_at j.number (rows_in (with_row es j)))
here-with_row j [] = rw (eq-eqb j.number j.number refl) refl
here-with_row j (e ∷ es) = elim (cases_Bool (e.row.number == j.number)) [
  | inl same ↦ rw (same, eq-eqb j.number j.number refl) refl
  | inr apart ↦ rw apart (rw apart (here-with_row j es))
]

put_there : (n : ℕ) (js : List Job) (es : List Entry) → IsSome (job_at n js) → IsSome (job_at n (rows_in (fold with_row es js)))
put_there n [] es there = absurd cc
put_there n (j ∷ js) es there = elim (cases_Bool (j.number == n)) [
  | inl same ↦ there-fold n js (with_row es j) (subst (λ m. IsSome (job_at m (rows_in (with_row es j)))) (eqb-true j.number n same) (here-with_row j es))
  | inr apart ↦ put_there n js (with_row es j) (rw apart at there)
]

-- ---- the document

last_document : (ds : List Document) (d : Document) → Each IsSoundDocument (ds ++ d ∷ []) → length d.bytes ≤ 16777216
last_document [] d sound = sound.0.1
last_document (x ∷ ds) d sound = last_document ds d sound.1

-- with one more the job's documents are within their limits
within_limits : (d : NewDocument) (es : List Entry) → IsSome (job_at d.job (rows_in es)) → Each IsSoundEntry (map (add_document d) es) → (document_count_at d.job es < 16) × (length d.bytes ≤ 16777216)
within_limits d [] there sound = absurd cc
within_limits d (e ∷ es) there sound = elim (cases_Bool (e.row.number == d.job)) [
  | inl same ↦
      let it : IsSoundEntry (record e { documents = e.documents ++ plain_of d ∷ [] }) = rw same at sound.0 in
      let long = length-append e.documents (plain_of d ∷ []) in
      let few : length e.documents < 16 = omega (arith, it.documents, it.row.documents, long) in
      rw same (few, last_document e.documents (plain_of d) it.sizes)
  | inr apart ↦ rw apart (within_limits d es (rw apart at there) sound.1)
]

pub the_one : {X : Type 0} (o : Option X) → IsSome o → (x : X) × (o ≡ Some x)
the_one None there = absurd cc
the_one (Some x) there = (x, refl)

-- the job of a change's document takes it, once the change's jobs are put
pub takes_document : (c : Change) (w : World) → IsSound w → IsSoundChange c → IsSound (made_on c w) → IfSome c.document (λ d. CanTake d (with_puts c.jobs (with_frees c.free w)))
takes_document c w sound within made = at c.document within.document made.entries
  where
    at : (o : Option NewDocument) → IfSome o (λ d. IsSome (job_at d.job c.jobs)) → Each IsSoundEntry (with_document (fold with_row w.jobs c.jobs) o) → IfSome o (λ d. CanTake d (with_puts c.jobs (with_frees c.free w)))
    at None there sound_with = tt
    at (Some d) there sound_with =
        let is_there = put_there d.job c.jobs w.jobs there in
        let fits = within_limits d (fold with_row w.jobs c.jobs) is_there sound_with in
        let one = the_one (job_at d.job (rows_in (fold with_row w.jobs c.jobs))) is_there in
        record { distinct = distinct_made c w sound; job = one.0; there = one.1; few = fits.0; short = fits.1 }

-- ---- the grants

either : (b : Bool) (n : ℕ) (o : Option ℕ) → IsSome o → IsSome (cond b (Some n) o)
either true n o there = refl
either false n o there = there

stays_granted : (gs : List GrantRow) (m : FinMap grant_cmp ℕ) (k : List ℕ × List ℕ) → IsSome (get m k) → IsSome (get (fold put_grant m gs) k)
stays_granted [] m k there = there
stays_granted (g ∷ gs) m k there =
    stays_granted gs (put_grant m g) k (subst (λ (o : Option ℕ). IsSome o) (sym (get-insert grant_total m (g.batch, g.account) g.pages k)) (either (eq_by_cmp grant_cmp k (g.batch, g.account)) g.pages (get m k) there))

put_granted : (g : GrantRow) (m : FinMap grant_cmp ℕ) → get (put_grant m g) (g.batch, g.account) ≡ Some g.pages
put_granted g m = get-insert grant_total m (g.batch, g.account) g.pages (g.batch, g.account) ∙ ap (λ (b : Bool). cond b (Some g.pages) (get m (g.batch, g.account))) (own_grant_key g.batch g.account)

are_granted : (gs : List GrantRow) (m : FinMap grant_cmp ℕ) → Each (λ g. IsSome (get (fold put_grant m gs) (g.batch, g.account))) gs
are_granted [] m = tt
are_granted (g ∷ gs) m = (stays_granted gs (put_grant m g) (g.batch, g.account) (ap is_some (put_granted g m)), are_granted gs (put_grant m g))

-- who is granted pages has an account, once those of the change are put
pub have_accounts : (c : Change) (w : World) → IsSound (made_on c w) → All (λ g. IsSome (get (fold put_free w.free c.free) g.account)) c.grants
have_accounts c w made = λ k d below.
    let g = get_or c.grants k d in
    let granted : IsSome (get (fold put_grant w.grants c.grants) (g.batch, g.account)) = All-from_recursion (λ g. IsSome (get (fold put_grant w.grants c.grants) (g.batch, g.account))) c.grants (are_granted c.grants w.grants) k d below in
    (made.accounts g.account).1 (g.batch, granted)

-- ---- the report

-- each report of a sound world is kept under its job and sequence number
keyed_reports : (w : World) → IsSound w → AreReportsKeyed w
keyed_reports w sound = λ job seq. at job seq (get w.reports (job, seq)) (sound.reports job seq)
  where
    at : (job seq : ℕ) (o : Option KeptReport) → IfSome o (IsKept w job seq) → IfSome o (λ k. (k.report.job ≡ job) × (k.report.seq ≡ seq))
    at job seq None kept = tt
    at job seq (Some k) kept = (kept.job, kept.seq)

-- a change's report can be kept, once its jobs, its document and its grants are put
pub keeps_report : (c : Change) (w : World) → IsSound w → IsSound (made_on c w) → IfSome c.report (λ k. get w.reports (k.report.job, k.report.seq) ≡ None)
    → IfSome c.report (λ k. CanKeep k (with_grants c.grants (with_added c.document (with_puts c.jobs (with_frees c.free w)))))
keeps_report c w sound made new = at c.report made.reports new
  where
    at : (o : Option KeptReport) → ((job seq : ℕ) → IfSome (get (with_report w.reports o) (job, seq)) (IsKept (made_on c w) job seq)) → IfSome o (λ k. get w.reports (k.report.job, k.report.seq) ≡ None)
        → IfSome o (λ k. CanKeep k (with_grants c.grants (with_added c.document (with_puts c.jobs (with_frees c.free w)))))
    at None kept new = tt
    at (Some k) kept new =
        let n = k.report.job in
        let m = k.report.seq in
        let found : get (with_report w.reports (Some k)) (n, m) ≡ Some k = get-insert report_total w.reports (n, m) k (n, m) ∙ ap (λ (b : Bool). cond b (Some k) (get w.reports (n, m))) (own_report_key n m) in
        let it : IsKept (made_on c w) n m k = subst (λ (o : Option KeptReport). IfSome o (IsKept (made_on c w) n m)) found (kept n m) in
        record { distinct = distinct_of 1 (made_on c w).jobs (made_on c w).next made.numbers; keyed = keyed_reports w sound; fresh = new; there = it.there }
