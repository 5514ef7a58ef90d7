-- What a change by one caller makes of the jobs and free pages of each caller.
use Rattle.std.proofs.Common.{◌≡◌, ℕ, ℤ, List, [], ◌∷◌, ◌++◌, map, refl, ap, sym, ◌∙◌, subst, Bool, true, false, cond}
use Rattle.std.specs.Prelude.{Option, Some, None, IfSome, IsSome, nat_eq, bytes_eq, fold, ◌||◌, ◌⊎◌, ◌+◌, unwrap_or}
use Rattle.std.specs.List.{AllByRecursion as Each}
use Rattle.std.specs.FinMap.{FinMap, get, insert, get-insert}
use Rattle.std.proofs.lemmas.Cmp.{nat_list_eq_equiv}
use Rattle.std.proofs.lemmas.Bool.{or_parts}
use Rattle.queue_types.specs.Event.{Change, NewDocument}
use Rattle.queue_core.specs.World.{World, Entry, with_row, add_document, with_document, put_free, put_grant, with_report, text_cmp, report_cmp, made_on, has_number}
use Rattle.queue_laws.specs.Own.{Own, own, own_jobs, reports_of}
use Rattle.queue_core.specs.Sound.{IsSound, IsKept}
use Rattle.queue_types.specs.declared.job.Job.{Job}
use Rattle.queue_types.specs.declared.event.FreeRow.{FreeRow}
use Rattle.queue_types.specs.declared.event.KeptReport.{KeptReport}
use Rattle.queue_laws.proofs.Base.{at, fresh, equal, own_key}
use Rattle.queue_core.proofs.Maps.{report_total, is_report_key, report_key}
use Rattle.queue_laws.proofs.Funds.{one_row}

-- the jobs of that number are the caller's
abbrev pub IsNumberOf : List ℕ → ℕ → List Entry → Type 0
IsNumberOf caller n es = Each (λ e. e.row.number ≡ n → e.row.owner ≡ caller) es

-- a row of the caller's, for a job of the caller's or a new one
abbrev pub IsRowBy : List ℕ → List Entry → Job → Type 0
IsRowBy caller es x = (x.owner ≡ caller) × IsNumberOf caller x.number es

-- it changes the caller's own jobs and free pages, keeps a report of one of them, and draws one number or none
pub record IsBy (caller : List ℕ) (w : World) (c : Change) : Type 0 where
  pub jobs : Each (IsRowBy caller w.jobs) c.jobs
  pub document : IfSome c.document (λ d. IsNumberOf caller d.job w.jobs)
  pub free : Each (λ (a : FreeRow). a.account ≡ caller) c.free
  pub grants : c.grants ≡ []
  pub report : IfSome c.report (λ k. IsNumberOf caller k.report.job w.jobs)
  pub next : (c.next ≡ None) ⊎ (c.next ≡ Some (w.next + 1))

left : (a b : Bool) → (a || b) ≡ true → b ≡ false → a ≡ true
left true b e none = refl
left false b e none = absurd (cc)

right : (a b : Bool) → (a || b) ≡ true → a ≡ false → b ≡ true
right true b e none = absurd (cc)
right false b e none = e

-- ---- rows that are put

number_stays : (caller : List ℕ) (n : ℕ) (x : Job) (es : List Entry) → x.owner ≡ caller → IsNumberOf caller n es → IsNumberOf caller n (with_row es x)
number_stays caller n x [] own number = (λ is. own, tt)
number_stays caller n x (e ∷ es) own number = elim (nat_eq e.row.number x.number) as (λ t. IsNumberOf caller n (cond t (record e { row = x } ∷ es) (e ∷ with_row es x))) [
  | true ↦ (λ is. own, number.1)
  | false ↦ (number.0, number_stays caller n x es own number.1)
]

rows_stay : (caller : List ℕ) (y : Job) (es : List Entry) (xs : List Job) → y.owner ≡ caller → Each (IsRowBy caller es) xs → Each (IsRowBy caller (with_row es y)) xs
rows_stay caller y es [] own each = tt
rows_stay caller y es (x ∷ xs) own each = ((each.0.0, number_stays caller x.number y es own each.0.1), rows_stay caller y es xs own each.1)

numbers_stay : (caller : List ℕ) (n : ℕ) (xs : List Job) (es : List Entry) → Each (IsRowBy caller es) xs → IsNumberOf caller n es → IsNumberOf caller n (fold with_row es xs)
numbers_stay caller n [] es each number = number
numbers_stay caller n (x ∷ xs) es each number = numbers_stay caller n xs (with_row es x) (rows_stay caller x es xs each.0.0 each.1) (number_stays caller n x es each.0.0 number)

-- ---- another caller's rows

module _ (u caller : List ℕ) (other : bytes_eq caller u ≡ false) where
  not_own : (a : List ℕ) → a ≡ caller → bytes_eq a u ≡ false
  not_own a is = ap (λ t. bytes_eq t u) is ∙ other

  others_row : (x : Job) (es : List Entry) → x.owner ≡ caller → IsNumberOf caller x.number es → own_jobs u (with_row es x) ≡ own_jobs u es
  others_row x [] own number = ap (λ b. cond b (fresh x ∷ []) []) (not_own x.owner own)
  others_row x (e ∷ es) own number =
      elim (nat_eq e.row.number x.number) as (λ t. nat_eq e.row.number x.number ≡ t → own_jobs u (cond t (record e { row = x } ∷ es) (e ∷ with_row es x)) ≡ own_jobs u (e ∷ es)) [
        | true ↦ λ is.
            ap (λ b. cond b (record e { row = x } ∷ own_jobs u es) (own_jobs u es)) (not_own x.owner own)
            ∙ sym (ap (λ b. cond b (e ∷ own_jobs u es) (own_jobs u es)) (not_own e.row.owner (number.0 (equal e.row.number x.number is))))
        | false ↦ λ is. ap (λ t. cond (bytes_eq e.row.owner u) (e ∷ t) t) (others_row x es own number.1)
      ] refl

  others_rows : (xs : List Job) (es : List Entry) → Each (IsRowBy caller es) xs → own_jobs u (fold with_row es xs) ≡ own_jobs u es
  others_rows [] es each = refl
  others_rows (x ∷ xs) es each = others_rows xs (with_row es x) (rows_stay caller x es xs each.0.0 each.1) ∙ others_row x es each.0.0 each.0.1

-- ---- documents that are added

abbrev pub longer : NewDocument → Entry → Entry
longer d e = record e { documents = e.documents ++ record { format = d.format; bytes = d.bytes } ∷ [] }

pub document_row : (d : NewDocument) (e : Entry) → (add_document d e).row ≡ e.row
document_row d e = elim (nat_eq e.row.number d.job) as (λ t. (cond t (longer d e) e).row ≡ e.row) [ true ↦ refl | false ↦ refl ]

own_document : (u : List ℕ) (d : NewDocument) (es : List Entry) → own_jobs u (map (add_document d) es) ≡ map (add_document d) (own_jobs u es)
own_document u d [] = refl
own_document u d (e ∷ es) =
    let rest : own_jobs u (map (add_document d) es) ≡ map (add_document d) (own_jobs u es) = own_document u d es in
    ap (λ r. cond (bytes_eq r.owner u) (add_document d e ∷ own_jobs u (map (add_document d) es)) (own_jobs u (map (add_document d) es))) (document_row d e)
    ∙ elim (bytes_eq e.row.owner u) as (λ b. cond b (add_document d e ∷ own_jobs u (map (add_document d) es)) (own_jobs u (map (add_document d) es)) ≡ map (add_document d) (cond b (e ∷ own_jobs u es) (own_jobs u es))) [
      | true ↦ ap (λ t. add_document d e ∷ t) rest
      | false ↦ rest
    ]

-- a document for another caller's job
others_document : (u caller : List ℕ) (d : NewDocument) (es : List Entry) → bytes_eq caller u ≡ false → IsNumberOf caller d.job es → own_jobs u (map (add_document d) es) ≡ own_jobs u es
others_document u caller d [] other number = refl
others_document u caller d (e ∷ es) other number =
    let rest : own_jobs u (map (add_document d) es) ≡ own_jobs u es = others_document u caller d es other number.1 in
    ap (λ r. cond (bytes_eq r.owner u) (add_document d e ∷ own_jobs u (map (add_document d) es)) (own_jobs u (map (add_document d) es))) (document_row d e)
    ∙ elim (bytes_eq e.row.owner u) as (λ b. bytes_eq e.row.owner u ≡ b → cond b (add_document d e ∷ own_jobs u (map (add_document d) es)) (own_jobs u (map (add_document d) es)) ≡ cond b (e ∷ own_jobs u es) (own_jobs u es)) [
      | true ↦ λ mine.
          let same : add_document d e ≡ e =
          elim (nat_eq e.row.number d.job) as (λ t. nat_eq e.row.number d.job ≡ t → cond t (longer d e) e ≡ e) [
            | true ↦ λ is. let no : bytes_eq e.row.owner u ≡ false = ap (λ a. bytes_eq a u) (number.0 (equal e.row.number d.job is)) ∙ other in absurd (cc)
            | false ↦ λ is. refl
          ] refl in
          ap (λ x. x ∷ own_jobs u (map (add_document d) es)) same ∙ ap (λ t. e ∷ t) rest
      | false ↦ λ mine. rest
    ] refl

others_documents : (u caller : List ℕ) (o : Option NewDocument) (es : List Entry) → bytes_eq caller u ≡ false → IfSome o (λ d. IsNumberOf caller d.job es) → own_jobs u (with_document es o) ≡ own_jobs u es
others_documents u caller None es other number = refl
others_documents u caller (Some d) es other number = others_document u caller d es other number

own_documents : (u : List ℕ) (o : Option NewDocument) (es : List Entry) → own_jobs u (with_document es o) ≡ with_document (own_jobs u es) o
own_documents u None es = refl
own_documents u (Some d) es = own_document u d es

document_stays : (caller : List ℕ) (xs : List Job) (es : List Entry) (o : Option NewDocument) → Each (IsRowBy caller es) xs → IfSome o (λ d. IsNumberOf caller d.job es) → IfSome o (λ d. IsNumberOf caller d.job (fold with_row es xs))
document_stays caller xs es None each number = tt
document_stays caller xs es (Some d) each number = numbers_stay caller d.job xs es each number

-- ---- the caller's own rows

own_row : (u : List ℕ) (x : Job) (es : List Entry) → x.owner ≡ u → IsNumberOf u x.number es → own_jobs u (with_row es x) ≡ with_row (own_jobs u es) x
own_row u x [] own number = ap (λ b. cond b (fresh x ∷ []) []) (own_key x.owner u own)
own_row u x (e ∷ es) own number =
    elim (nat_eq e.row.number x.number) as (λ t. nat_eq e.row.number x.number ≡ t → own_jobs u (cond t (record e { row = x } ∷ es) (e ∷ with_row es x)) ≡ with_row (cond (bytes_eq e.row.owner u) (e ∷ own_jobs u es) (own_jobs u es)) x) [
      | true ↦ λ is.
          ap (λ b. cond b (record e { row = x } ∷ own_jobs u es) (own_jobs u es)) (own_key x.owner u own)
          ∙ sym (ap (λ b. with_row (cond b (e ∷ own_jobs u es) (own_jobs u es)) x) (own_key e.row.owner u (number.0 (equal e.row.number x.number is)))
          ∙ ap (λ t. cond t (record e { row = x } ∷ own_jobs u es) (e ∷ with_row (own_jobs u es) x)) is)
      | false ↦ λ is.
          elim (bytes_eq e.row.owner u) as (λ b. cond b (e ∷ own_jobs u (with_row es x)) (own_jobs u (with_row es x)) ≡ with_row (cond b (e ∷ own_jobs u es) (own_jobs u es)) x) [
            | true ↦ ap (λ t. e ∷ t) (own_row u x es own number.1) ∙ sym (ap (λ t. cond t (record e { row = x } ∷ own_jobs u es) (e ∷ with_row (own_jobs u es) x)) is)
            | false ↦ own_row u x es own number.1
          ]
    ] refl

own_rows : (u : List ℕ) (xs : List Job) (es : List Entry) → Each (IsRowBy u es) xs → own_jobs u (fold with_row es xs) ≡ fold with_row (own_jobs u es) xs
own_rows u [] es each = refl
own_rows u (x ∷ xs) es each = own_rows u xs (with_row es x) (rows_stay u x es xs each.0.0 each.1) ∙ ap (λ t. fold with_row t xs) (own_row u x es each.0.0 each.0.1)

-- ---- free pages

-- the account's free pages once the rows are put
abbrev pub free_after : List ℕ → Option ℤ → FreeRow → Option ℤ
free_after u o a = cond (bytes_eq u a.account) (Some a.free) o

pub own_free : (u : List ℕ) (fs : List FreeRow) (m : FinMap text_cmp ℤ) → get (fold put_free m fs) u ≡ fold (free_after u) (get m u) fs
own_free u [] m = refl
own_free u (a ∷ fs) m = own_free u fs (put_free m a) ∙ ap (λ o. fold (free_after u) o fs) (one_row m a u)

others_free : (u caller : List ℕ) (fs : List FreeRow) (m : FinMap text_cmp ℤ) → bytes_eq caller u ≡ false → Each (λ (a : FreeRow). a.account ≡ caller) fs → get (fold put_free m fs) u ≡ get m u
others_free u caller [] m other each = refl
others_free u caller (a ∷ fs) m other each =
    others_free u caller fs (put_free m a) other each.1
    ∙ one_row m a u
    ∙ ap (λ t. cond t (Some a.free) (get m u)) (nat_list_eq_equiv.symm u a.account ∙ ap (λ t. bytes_eq t u) each.0 ∙ other)

-- ---- another caller's change

-- a number whose jobs are another's is no number of u's
others_number : (u caller : List ℕ) (n : ℕ) (es : List Entry) → bytes_eq caller u ≡ false → IsNumberOf caller n es → has_number n (own_jobs u es) ≡ false
others_number u caller n [] other number = refl
others_number u caller n (e ∷ es) other number =
    elim (bytes_eq e.row.owner u) as (λ b. bytes_eq e.row.owner u ≡ b → has_number n (cond b (e ∷ own_jobs u es) (own_jobs u es)) ≡ false) [
      | true ↦ λ mine.
          elim (nat_eq e.row.number n) as (λ t. nat_eq e.row.number n ≡ t → (t || has_number n (own_jobs u es)) ≡ false) [
            | true ↦ λ is. let no : bytes_eq e.row.owner u ≡ false = ap (λ a. bytes_eq a u) (number.0 (equal e.row.number n is)) ∙ other in absurd (cc)
            | false ↦ λ is. others_number u caller n es other number.1
          ] refl
      | false ↦ λ mine. others_number u caller n es other number.1
    ] refl

-- a report of another number is not looked at
other_report : (es : List Entry) (n : ℕ) (k : KeptReport) (kept : FinMap report_cmp KeptReport) → has_number k.report.job es ≡ false → (s : ℕ) → cond (has_number n es) (get (insert kept (k.report.job, k.report.seq) k) (n, s)) None ≡ cond (has_number n es) (get kept (n, s)) None
other_report es n k kept none s =
    elim (has_number n es) as (λ b. has_number n es ≡ b → cond b (get (insert kept (k.report.job, k.report.seq) k) (n, s)) None ≡ cond b (get kept (n, s)) None) [
      | true ↦ λ has.
          get-insert report_total kept (k.report.job, k.report.seq) k (n, s)
          ∙ elim (is_report_key (n, s) (k.report.job, k.report.seq)) as (λ t. is_report_key (n, s) (k.report.job, k.report.seq) ≡ t → cond t (Some k) (get kept (n, s)) ≡ get kept (n, s)) [
            | true ↦ λ is. let no : has_number n es ≡ false = ap (λ i. has_number i es) (report_key n s k.report.job k.report.seq is).0 ∙ none in absurd (cc)
            | false ↦ λ is. refl
          ] refl
      | false ↦ λ has. refl
    ] refl

others_report : (u caller : List ℕ) (es : List Entry) (o : Option KeptReport) (kept : FinMap report_cmp KeptReport) → bytes_eq caller u ≡ false → IfSome o (λ k. IsNumberOf caller k.report.job es) → reports_of (own_jobs u es) (with_report kept o) ≡ reports_of (own_jobs u es) kept
others_report u caller es None kept other number = refl
others_report u caller es (Some k) kept other number = λ i n s. other_report (own_jobs u es) n k kept (others_number u caller k.report.job es other number) s i

-- it leaves what is u's own, but for the next number
pub others_made : (u caller : List ℕ) (w : World) (c : Change) → bytes_eq caller u ≡ false → IsBy caller w c → own u (made_on c w) ≡ record (own u w) { next = unwrap_or c.next w.next }
others_made u caller w c other by =
    let jobs : own_jobs u (made_on c w).jobs ≡ own_jobs u w.jobs =
    others_documents u caller c.document (fold with_row w.jobs c.jobs) other (document_stays caller c.jobs w.jobs c.document by.jobs by.document)
    ∙ others_rows u caller other c.jobs w.jobs by.jobs in
    let free : get (made_on c w).free u ≡ get w.free u = others_free u caller c.free w.free other by.free in
    let reports : reports_of (own_jobs u (made_on c w).jobs) (made_on c w).reports ≡ reports_of (own_jobs u w.jobs) w.reports =
    ap (λ es. reports_of es (with_report w.reports c.report)) jobs ∙ others_report u caller w.jobs c.report w.reports other by.report in
    let grants : (made_on c w).grants ≡ w.grants = ap (λ gs. fold put_grant w.grants gs) by.grants in
    λ i. record { jobs = jobs i; free = free i; grants = grants i; reports = reports i; next = unwrap_or c.next w.next }

-- ---- the caller's own change

has_after : (n : ℕ) (x : Job) (es : List Entry) → has_number n (with_row es x) ≡ true → has_number n es ≡ false → x.number ≡ n
has_after n x [] has none = equal x.number n (left (nat_eq x.number n) false has refl)
has_after n x (e ∷ es) has none =
    elim (nat_eq e.row.number x.number) as (λ t. has_number n (cond t (record e { row = x } ∷ es) (e ∷ with_row es x)) ≡ true → x.number ≡ n) [
      | true ↦ λ has. equal x.number n (left (nat_eq x.number n) (has_number n es) has (or_parts (nat_eq e.row.number n) (has_number n es) none).1)
      | false ↦ λ has. has_after n x es (right (nat_eq e.row.number n) (has_number n (with_row es x)) has (or_parts (nat_eq e.row.number n) (has_number n es) none).0) (or_parts (nat_eq e.row.number n) (has_number n es) none).1
    ] has

has_of : (n : ℕ) (u : List ℕ) (ws : List Entry) (xs : List Job) (es : List Entry) → has_number n (fold with_row es xs) ≡ true → has_number n es ≡ false → Each (IsRowBy u ws) xs → IsNumberOf u n ws
has_of n u ws [] es has none each = absurd (cc)
has_of n u ws (x ∷ xs) es has none each =
    elim (has_number n (with_row es x)) as (λ b. has_number n (with_row es x) ≡ b → IsNumberOf u n ws) [
      | true ↦ λ is. subst (λ m. IsNumberOf u m ws) (has_after n x es is none) each.0.1
      | false ↦ λ is. has_of n u ws xs (with_row es x) has is each.1
    ] refl

has_document : (n : ℕ) (o : Option NewDocument) (es : List Entry) → has_number n (with_document es o) ≡ has_number n es
has_document n None es = refl
has_document n (Some d) [] = refl
has_document n (Some d) (e ∷ es) = ap (λ r. nat_eq r.number n || has_number n (map (add_document d) es)) (document_row d e) ∙ ap (λ b. nat_eq e.row.number n || b) (has_document n (Some d) es)

-- a job of that number, where such jobs are u's, is u's
own_number : (u : List ℕ) (n : ℕ) (es : List Entry) → IsNumberOf u n es → IsSome (at n es) → has_number n (own_jobs u es) ≡ true
own_number u n [] number there = absurd (cc)
own_number u n (e ∷ es) number there =
    elim (nat_eq e.row.number n) as (λ t. nat_eq e.row.number n ≡ t → IsSome (cond t (Some e.row) (at n es)) → has_number n (own_jobs u (e ∷ es)) ≡ true) [
      | true ↦ λ is there. ap (λ b. has_number n (cond b (e ∷ own_jobs u es) (own_jobs u es))) (own_key e.row.owner u (number.0 (equal e.row.number n is))) ∙ ap (λ b. b || has_number n (own_jobs u es)) is
      | false ↦ λ is there.
          elim (bytes_eq e.row.owner u) as (λ b. has_number n (cond b (e ∷ own_jobs u es) (own_jobs u es)) ≡ true) [
            | true ↦ ap (λ b. b || has_number n (own_jobs u es)) is ∙ own_number u n es number.1 there
            | false ↦ own_number u n es number.1 there
          ]
    ] refl there

-- a report of a number whose jobs are u's is of a job of u's
no_report : (u : List ℕ) (w : World) (n seq : ℕ) (o : Option KeptReport) → IsNumberOf u n w.jobs → has_number n (own_jobs u w.jobs) ≡ false → IfSome o (IsKept w n seq) → o ≡ None
no_report u w n seq None number none kept = refl
no_report u w n seq (Some k) number none kept = let has : has_number n (own_jobs u w.jobs) ≡ true = own_number u n w.jobs number kept.there in absurd (cc)

-- what the change makes of what is the caller's own
abbrev pub jobs_made : Change → List Entry → List Entry
jobs_made c es = with_document (fold with_row es c.jobs) c.document

abbrev pub with_own_report : Option KeptReport → (ℕ → ℕ → Option KeptReport) → ℕ → ℕ → Option KeptReport
with_own_report None f n seq = f n seq
with_own_report (Some k) f n seq = cond (is_report_key (n, seq) (k.report.job, k.report.seq)) (Some k) (f n seq)

abbrev pub own_made_on : List ℕ → Change → Own → Own
own_made_on u c o = record {
  jobs = jobs_made c o.jobs;
  free = fold (free_after u) o.free c.free;
  grants = o.grants;
  reports = λ n seq. cond (has_number n (jobs_made c o.jobs)) (with_own_report c.report o.reports n seq) None;
  next = unwrap_or c.next o.next;
}

inside : (b : Bool) (x y : Option KeptReport) (t : Bool) (k : KeptReport) → cond b x None ≡ cond b y None → cond b (cond t (Some k) x) None ≡ cond b (cond t (Some k) y) None
inside true x y t k e = ap (λ o. cond t (Some k) o) e
inside false x y t k e = refl

own_kept : (b : Bool) (n seq : ℕ) (kept : FinMap report_cmp KeptReport) (f : ℕ → ℕ → Option KeptReport) (o : Option KeptReport) → cond b (get kept (n, seq)) None ≡ cond b (f n seq) None → cond b (get (with_report kept o) (n, seq)) None ≡ cond b (with_own_report o f n seq) None
own_kept b n seq kept f None e = e
own_kept b n seq kept f (Some k) e =
    ap (λ x. cond b x None) (get-insert report_total kept (k.report.job, k.report.seq) k (n, seq))
    ∙ inside b (get kept (n, seq)) (f n seq) (is_report_key (n, seq) (k.report.job, k.report.seq)) k e

pub own_made : (u : List ℕ) (w : World) (c : Change) → IsSound w → IsBy u w c → own u (made_on c w) ≡ own_made_on u c (own u w)
own_made u w c sound by =
    let mine : List Entry = own_jobs u w.jobs in
    let jobs : own_jobs u (jobs_made c w.jobs) ≡ jobs_made c mine = own_documents u c.document (fold with_row w.jobs c.jobs) ∙ ap (λ t. with_document t c.document) (own_rows u c.jobs w.jobs by.jobs) in
    let free : get (made_on c w).free u ≡ fold (free_after u) (get w.free u) c.free = own_free u c.free w.free in
    let one : (n seq : ℕ) → cond (has_number n (jobs_made c mine)) (get w.reports (n, seq)) None ≡ cond (has_number n (jobs_made c mine)) (reports_of mine w.reports n seq) None =
    λ n seq. elim (has_number n (jobs_made c mine)) as (λ b. has_number n (jobs_made c mine) ≡ b → cond b (get w.reports (n, seq)) None ≡ cond b (reports_of mine w.reports n seq) None) [
      | true ↦ λ has.
          elim (has_number n mine) as (λ b. has_number n mine ≡ b → get w.reports (n, seq) ≡ cond b (get w.reports (n, seq)) None) [
            | true ↦ λ is. refl
            | false ↦ λ is. no_report u w n seq (get w.reports (n, seq)) (has_of n u w.jobs c.jobs mine (sym (has_document n c.document (fold with_row mine c.jobs)) ∙ has) is by.jobs) is (sound.reports n seq)
          ] refl
      | false ↦ λ has. refl
    ] refl in
    let reports : reports_of (own_jobs u (jobs_made c w.jobs)) (with_report w.reports c.report) ≡ (λ n seq. cond (has_number n (jobs_made c mine)) (with_own_report c.report (reports_of mine w.reports) n seq) None) =
    ap (λ es. reports_of es (with_report w.reports c.report)) jobs ∙ (λ i n seq. own_kept (has_number n (jobs_made c mine)) n seq w.reports (reports_of mine w.reports) c.report (one n seq) i) in
    let grants : (made_on c w).grants ≡ w.grants = ap (λ gs. fold put_grant w.grants gs) by.grants in
    λ i. record { jobs = jobs i; free = free i; grants = grants i; reports = reports i; next = unwrap_or c.next w.next }
