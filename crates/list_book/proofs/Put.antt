-- Where an item is put, and what the book's lists stand for once it is there.
use Rattle.std.proofs.Common.{◌≡◌, ℕ, ◌<◌, suc, zero, List, [], ◌∷◌, ◌++◌, length, get_or, map, refl, ap, sym, ◌∙◌, arith, subst, Bool, true, false, cond, eq-eqb}
use Rattle.std.specs.Prelude.{slice_set, fold, IsSome, is_some, Option, Some, None, nat_eq, option_map, IfSome, unwrap_or}
use Rattle.std.proofs.lemmas.Bool.{eqb-true}
use Rattle.std.proofs.lemmas.Bool.Decides.{nat_tests}
use Rattle.std.specs.FinMap.{get}
use Rattle.queue_core.specs.World.{Entry, with_row, with_document, add_document, put_free, put_grant, with_report, made_on, cut, owner_row, numbered, queue_counts, jobs_for, free_for, live_for, counts_for, next_for, job_at}
use Rattle.queue_types.specs.Event.{NewDocument, Change, Call, ask, tell}
use Rattle.queue_types.specs.declared.event.FreeRow.{FreeRow}
use Rattle.queue_types.specs.declared.event.KeptReport.{KeptReport}
use Rattle.queue_types.specs.declared.event.QueueCounts.{QueueCounts}
use Rattle.list_book.specs.declared.lists.Lists.{Lists}
use Rattle.list_book.specs.Lists.{put_by, documents_of, entry_of, entries_of, IsTidy, put_row, put_rows, kept_of, with_kept, world_of, reports_map, HaveSameItems}
use Rattle.list_book.specs.Tables.{free_map, grants_map}
use Rattle.queue_types.specs.declared.event.Report.{Report}
use Rattle.queue_types.specs.declared.job.Job.{Job}
use Rattle.queue_types.specs.declared.document.Document.{Document}
use Rattle.list_book.specs.declared.lists.KeptDocument.{KeptDocument}

-- the first that is the same is at i
pub put_at : {X : Type 0} (same : X → Bool) (es : List X) (i : ℕ) → i < length es → ((k : ℕ) (d : X) → k < i → same (get_or es k d) ≡ false) → (d : X) → same (get_or es i d) ≡ true → (x : X) → put_by same x es ≡ slice_set es i x
put_at same [] i h before d here x = absurd (omega arith)
put_at same (e ∷ es) zero h before d here x = ap (λ b. cond b (x ∷ es) (e ∷ put_by same x es)) here
put_at same (e ∷ es) (suc i) h before d here x =
    ap (λ b. cond b (x ∷ es) (e ∷ put_by same x es)) (before 0 x (omega arith))
    ∙ ap (λ t. e ∷ t) (put_at same es i (omega arith) (λ k d l. before (suc k) d (omega arith)) d here x)

-- none is the same
pub put_none : {X : Type 0} (same : X → Bool) (es : List X) → ((k : ℕ) (d : X) → k < length es → same (get_or es k d) ≡ false) → (x : X) → put_by same x es ≡ es ++ x ∷ []
put_none same [] none x = refl
put_none same (e ∷ es) none x =
    ap (λ b. cond b (x ∷ es) (e ∷ put_by same x es)) (none 0 x (omega arith))
    ∙ ap (λ t. e ∷ t) (put_none same es (λ k d l. none (suc k) d (omega arith)) x)

pub rows_of : (ds : List KeptDocument) (js : List Job) → map (λ e. e.row) (entries_of ds js) ≡ js
rows_of ds [] = refl
rows_of ds (j ∷ js) = ap (λ t. j ∷ t) (rows_of ds js)

-- to put a row among the rows is to put it among the entries
pub with_row_of : (ds : List KeptDocument) (js : List Job) (x : Job) → (job_at x.number js ≡ None → documents_of x.number ds ≡ []) → with_row (entries_of ds js) x ≡ entries_of ds (put_by (λ y. nat_eq y.number x.number) x js)
with_row_of ds [] x tidy = ap (λ t. record { row = x; documents = t } ∷ []) (sym (tidy refl))
with_row_of ds (y ∷ js) x tidy =
    elim (nat_eq y.number x.number) as (λ t. nat_eq y.number x.number ≡ t → (cond t (Some y) (job_at x.number js) ≡ None → documents_of x.number ds ≡ [])
    → cond t (record { row = x; documents = documents_of y.number ds } ∷ entries_of ds js) (entry_of ds y ∷ with_row (entries_of ds js) x)
    ≡ entries_of ds (cond t (x ∷ js) (y ∷ put_by (λ z. nat_eq z.number x.number) x js))) [
      | true ↦ λ e k. ap (λ n. record { row = x; documents = documents_of n ds } ∷ entries_of ds js) (eqb-true _ _ e)
      | false ↦ λ e k. ap (λ t. entry_of ds y ∷ t) (with_row_of ds js x k)
    ] refl tidy

none_of : (b : Bool) (x y : Job) (o : Option Job) → cond b (Some x) o ≡ None → cond b (Some y) o ≡ None
none_of true x y o h = absurd (cc)
none_of false x y o h = h

at_head : (n : ℕ) (x y : Job) (js : List Job) → y.number ≡ x.number → cond (nat_eq x.number n) (Some x) (job_at n js) ≡ None → cond (nat_eq y.number n) (Some y) (job_at n js) ≡ None
at_head n x y js e h = ap (λ m. cond (nat_eq m n) (Some y) (job_at n js)) e ∙ none_of (nat_eq x.number n) x y (job_at n js) h

later : (n : ℕ) (y : Job) (js ks : List Job) → job_at n (y ∷ ks) ≡ None → (job_at n ks ≡ None → job_at n js ≡ None) → job_at n (y ∷ js) ≡ None
later n y js ks =
    elim (nat_eq y.number n) as (λ b. cond b (Some y) (job_at n ks) ≡ None → (job_at n ks ≡ None → job_at n js ≡ None) → cond b (Some y) (job_at n js) ≡ None) [
      | true ↦ λ h more. absurd (cc)
      | false ↦ λ h more. more h
    ]

-- a put changes what stands at its own number alone
pub job_at-put : (n : ℕ) (x : Job) (js : List Job) → job_at n (put_by (λ y. nat_eq y.number x.number) x js) ≡ None → job_at n js ≡ None
job_at-put n x [] e = refl
job_at-put n x (y ∷ js) e =
    elim (nat_eq y.number x.number) as (λ t. nat_eq y.number x.number ≡ t → job_at n (cond t (x ∷ js) (y ∷ put_by (λ z. nat_eq z.number x.number) x js)) ≡ None → job_at n (y ∷ js) ≡ None) [
      | true ↦ λ e h. at_head n x y js (eqb-true _ _ e) h
      | false ↦ λ e h. later n y js (put_by (λ z. nat_eq z.number x.number) x js) h (job_at-put n x js)
    ] refl e

pub tidy-put : (js : List Job) (ds : List KeptDocument) (x : Job) → IsTidy js ds → IsTidy (put_by (λ y. nat_eq y.number x.number) x js) ds
tidy-put js ds x tidy n e = tidy n (job_at-put n x js e)

pub with_rows_of : (ds : List KeptDocument) (xs js : List Job) → IsTidy js ds → (fold with_row (entries_of ds js) xs ≡ entries_of ds (put_rows js xs)) × IsTidy (put_rows js xs) ds
with_rows_of ds [] js tidy = (refl, tidy)
with_rows_of ds (x ∷ xs) js tidy =
    let next = with_rows_of ds xs (put_by (λ y. nat_eq y.number x.number) x js) (tidy-put js ds x tidy) in
    (ap (λ es. fold with_row es xs) (with_row_of ds js x (tidy x.number)) ∙ next.0, next.1)

-- documents: one more at the end
pushed : (b c : Bool) (x d : Document) (xs ys : List Document) → ys ≡ cond c (xs ++ d ∷ []) xs → cond b (x ∷ ys) ys ≡ cond c (cond b (x ∷ xs) xs ++ d ∷ []) (cond b (x ∷ xs) xs)
pushed true true x d xs ys e = ap (λ t. x ∷ t) e
pushed true false x d xs ys e = ap (λ t. x ∷ t) e
pushed false c x d xs ys e = e

abbrev entry : Job → List Document → Entry
entry j xs = record { row = j; documents = xs }

abbrev plain : NewDocument → Document
plain d = record { format = d.format; bytes = d.bytes }

added : (b : Bool) (j : Job) (d : NewDocument) (xs : List Document) → cond b (entry j (xs ++ plain d ∷ [])) (entry j xs) ≡ entry j (cond b (xs ++ plain d ∷ []) xs)
added true j d xs = refl
added false j d xs = refl

documents-push : (n : ℕ) (ds : List KeptDocument) (d : KeptDocument) → documents_of n (ds ++ d ∷ []) ≡ cond (nat_eq d.job n) (documents_of n ds ++ d.document ∷ []) (documents_of n ds)
documents-push n [] d = refl
documents-push n (x ∷ ds) d = pushed (nat_eq x.job n) (nat_eq d.job n) x.document d.document (documents_of n ds) (documents_of n (ds ++ d ∷ [])) (documents-push n ds d)

turn : (a b : ℕ) → nat_eq a b ≡ nat_eq b a
turn a b = grind (arith, nat_tests)

pub with_document_of : (ds : List KeptDocument) (js : List Job) (d : NewDocument) → with_document (entries_of ds js) (Some d) ≡ entries_of (ds ++ kept_of d ∷ []) js
with_document_of ds [] d = refl
with_document_of ds (j ∷ js) d =
    let rest : with_document (entries_of ds js) (Some d) ≡ entries_of (ds ++ kept_of d ∷ []) js = with_document_of ds js d in
    let here : add_document d (entry_of ds j) ≡ entry_of (ds ++ kept_of d ∷ []) j = added (nat_eq j.number d.job) j d (documents_of j.number ds) ∙ ap (entry j) (ap (λ t. cond t (documents_of j.number ds ++ plain d ∷ []) (documents_of j.number ds)) (turn j.number d.job) ∙ sym (documents-push j.number ds (kept_of d))) in
    cc

pub tidy-push : (js : List Job) (ds : List KeptDocument) (d : KeptDocument) → IsTidy js ds → IsSome (job_at d.job js) → IsTidy js (ds ++ d ∷ [])
tidy-push js ds d tidy there n none =
    documents-push n ds d ∙ elim (nat_eq d.job n) as (λ t. nat_eq d.job n ≡ t → cond t (documents_of n ds ++ d.document ∷ []) (documents_of n ds) ≡ []) [
      | true ↦ λ e. let same : d.job ≡ n = eqb-true _ _ e in let bad : is_some (job_at n js) ≡ true = subst (λ m. IsSome (job_at m js)) same there in let worse : is_some (job_at n js) ≡ false = ap is_some none in absurd (cc)
      | false ↦ λ e. tidy n none
    ] refl

pub documents_is : (ds : List KeptDocument) (js : List Job) (o : Option NewDocument) → with_document (entries_of ds js) o ≡ entries_of (with_kept ds (option_map kept_of o)) js
documents_is ds js None = refl
documents_is ds js (Some d) = with_document_of ds js d

pub tidy_kept : (js : List Job) (ds : List KeptDocument) (o : Option KeptDocument) → IsTidy js ds → IfSome o (λ d. IsSome (job_at d.job js)) → IsTidy js (with_kept ds o)
tidy_kept js ds None tidy there = tidy
tidy_kept js ds (Some d) tidy there = tidy-push js ds d tidy there

-- the lists after a change stand for the world that it makes
pub made_is : (l m : Lists) (c : Change) → IsTidy l.jobs.items l.documents.items → m.settings ≡ l.settings → m.jobs.items ≡ put_rows l.jobs.items c.jobs → m.documents.items ≡ with_kept l.documents.items (option_map kept_of c.document) → free_map m.accounts.entries ≡ fold put_free (free_map l.accounts.entries) c.free → m.next ≡ unwrap_or c.next l.next → grants_map m.grants.entries ≡ fold put_grant (grants_map l.grants.entries) c.grants → reports_map m.reports.entries ≡ with_report (reports_map l.reports.entries) c.report → world_of m ≡ made_on c (world_of l)
made_is l m c tidy settings jobs documents free next grants reports =
    let p : entries_of m.documents.items m.jobs.items ≡ with_document (fold with_row (entries_of l.documents.items l.jobs.items) c.jobs) c.document =
    ap (λ ds. entries_of ds m.jobs.items) documents
    ∙ ap (entries_of (with_kept l.documents.items (option_map kept_of c.document))) jobs
    ∙ sym (documents_is l.documents.items (put_rows l.jobs.items c.jobs) c.document)
    ∙ ap (λ es. with_document es c.document) (sym (with_rows_of l.documents.items c.jobs l.jobs.items tidy).0) in
    λ i. record { settings = settings i; jobs = p i; next = next i; grants = grants i; free = free i; reports = reports i }

-- what is read of the lists is the scene
pub scene_is : (l : Lists) (now : ℕ) (caller : List ℕ) (call : Call) (jobs : List Job) (free : List FreeRow) (live : ℕ) (counts : QueueCounts) (next : ℕ) → jobs ≡ jobs_for l.settings.operators caller call l.jobs.items → free ≡ free_for caller call (jobs_for l.settings.operators caller call l.jobs.items) (free_map l.accounts.entries) → live ≡ live_for caller call l.jobs.items → counts ≡ counts_for call l.jobs.items → next ≡ next_for call l.next → cut (world_of l) now (ask caller call) ≡ record { settings = l.settings; jobs = jobs; free = free; live = live; counts = counts; report = None; known = []; next = next }
scene_is l now caller call jobs free live counts next of_jobs of_free of_live of_counts of_next =
    let same : map (λ e. e.row) (entries_of l.documents.items l.jobs.items) ≡ l.jobs.items = rows_of l.documents.items l.jobs.items in
    let ops : List (List ℕ) = l.settings.operators in
    let p = ap (jobs_for ops caller call) same ∙ sym of_jobs in
    let q = ap (counts_for call) same ∙ sym of_counts in
    let r = ap (live_for caller call) same ∙ sym of_live in
    let f = ap (λ js. free_for caller call (jobs_for ops caller call js) (free_map l.accounts.entries)) same ∙ sym of_free in
    let n = sym of_next in
    λ i. record { settings = l.settings; jobs = p i; free = f i; live = r i; counts = q i; report = None; known = []; next = n i }

pub report_scene_is : (l : Lists) (now : ℕ) (r : Report) (jobs : List Job) (free : List FreeRow) (report : Option KeptReport) → jobs ≡ numbered r.job l.jobs.items → free ≡ owner_row (free_map l.accounts.entries) (numbered r.job l.jobs.items) → report ≡ get (reports_map l.reports.entries) (r.job, r.seq) → cut (world_of l) now (tell r) ≡ record { settings = l.settings; jobs = jobs; free = free; live = 0; counts = queue_counts []; report = report; known = []; next = 1 }
report_scene_is l now r jobs free report of_jobs of_free of_report =
    let same : map (λ e. e.row) (entries_of l.documents.items l.jobs.items) ≡ l.jobs.items = rows_of l.documents.items l.jobs.items in
    let p = ap (numbered r.job) same ∙ sym of_jobs in
    let f = ap (λ js. owner_row (free_map l.accounts.entries) (numbered r.job js)) same ∙ sym of_free in
    let k = sym of_report in
    λ i. record { settings = l.settings; jobs = p i; free = f i; live = 0; counts = queue_counts []; report = k i; known = []; next = 1 }

-- the same lists, with whatever room, stand for the same world
pub same_world : (l m : Lists) → HaveSameItems l m → world_of m ≡ world_of l
same_world l m same =
    let p : entries_of m.documents.items m.jobs.items ≡ entries_of l.documents.items l.jobs.items = ap (λ ds. entries_of ds m.jobs.items) same.documents ∙ ap (entries_of l.documents.items) same.jobs in
    λ i. record { settings = same.settings i; jobs = p i; next = same.next i; grants = same.grants i; free = same.free i; reports = same.reports i }

-- ---- the document of a decision

itself : (n : ℕ) → nat_eq n n ≡ true
itself n = eq-eqb n n refl

-- the row that was put is there
put_there : (x : Job) (js : List Job) → IsSome (job_at x.number (put_row js x))
put_there x [] = ap (λ t. is_some (cond t (Some x) None)) (itself x.number)
put_there x (y ∷ js) =
    elim (nat_eq y.number x.number) as (λ t. nat_eq y.number x.number ≡ t → IsSome (job_at x.number (cond t (x ∷ js) (y ∷ put_row js x)))) [
      | true ↦ λ e. ap (λ t. is_some (cond t (Some x) (job_at x.number js))) (itself x.number)
      | false ↦ λ e. ap (λ t. is_some (cond t (Some y) (job_at x.number (put_row js x)))) e ∙ put_there x js
    ] refl

kept : (b : Bool) (x y : Job) (js : List Job) (n : ℕ) → IsSome (cond b (Some y) (job_at n js)) → IsSome (cond b (Some x) (job_at n js))
kept true x y js n h = refl
kept false x y js n h = h

passes : (b : Bool) (y : Job) (o p : Option Job) → (IsSome o → IsSome p) → IsSome (cond b (Some y) o) → IsSome (cond b (Some y) p)
passes true y o p f h = refl
passes false y o p f h = f h

put_keeps : (n : ℕ) (x : Job) (js : List Job) → IsSome (job_at n js) → IsSome (job_at n (put_row js x))
put_keeps n x [] h = absurd (cc)
put_keeps n x (y ∷ js) h =
    elim (nat_eq y.number x.number) as (λ t. nat_eq y.number x.number ≡ t → IsSome (job_at n (cond t (x ∷ js) (y ∷ put_row js x)))) [
      | true ↦ λ e. let same : nat_eq y.number n ≡ nat_eq x.number n = ap (λ m. nat_eq m n) (eqb-true y.number x.number e) in kept (nat_eq x.number n) x y js n (subst (λ b. IsSome (cond b (Some y) (job_at n js))) same h)
      | false ↦ λ e. passes (nat_eq y.number n) y (job_at n js) (job_at n (put_row js x)) (put_keeps n x js) h
    ] refl

all_keep : (n : ℕ) (xs js : List Job) → IsSome (job_at n js) → IsSome (job_at n (put_rows js xs))
all_keep n [] js h = h
all_keep n (x ∷ xs) js h = all_keep n xs (put_row js x) (put_keeps n x js h)

-- a job that is put is there
pub job_put : (n : ℕ) (xs js : List Job) → IsSome (job_at n xs) → IsSome (job_at n (put_rows js xs))
job_put n [] js h = absurd (cc)
job_put n (x ∷ xs) js h =
    elim (nat_eq x.number n) as (λ t. nat_eq x.number n ≡ t → IsSome (cond t (Some x) (job_at n xs)) → IsSome (job_at n (put_rows (put_row js x) xs))) [
      | true ↦ λ e h. all_keep n xs (put_row js x) (subst (λ m. IsSome (job_at m (put_row js x))) (eqb-true x.number n e) (put_there x js))
      | false ↦ λ e h. job_put n xs (put_row js x) h
    ] refl h

there : (js xs : List Job) (o : Option NewDocument) → IfSome o (λ k. IsSome (job_at k.job xs)) → IfSome (option_map kept_of o) (λ d. IsSome (job_at d.job (put_rows js xs)))
there js xs None its = tt
there js xs (Some k) its = job_put k.job xs js its

-- the document of a decision is of a job among the rows once they are put
pub has_its_job : (js : List Job) (c : Change) → IfSome c.document (λ k. IsSome (job_at k.job c.jobs)) → IfSome (option_map kept_of c.document) (λ d. IsSome (job_at d.job (put_rows js c.jobs)))
has_its_job js c its = there js c.jobs c.document its
