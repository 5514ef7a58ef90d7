-- A queue as a whole: its jobs with their documents, accounts, grants and reports; and what a change makes of it.
use Rattle.std.specs.Prelude.{◌≡◌, ⊤, ℕ, ℤ, sum_by, List, [], ◌∷◌, ◌++◌, Option, Some, None, map, filter, find, fold, count_by, ◌==◌, ◌&&◌, ◌+◌, bytes_eq, nat_le, nat_lt, not, Bool, if◌then◌else◌, unwrap_or}
use Rattle.std.specs.List.{list_any}
use Rattle.std.specs.declared.cmp.Ordering.{Ordering}
use Rattle.std.specs.Ordering.{nat_cmp, ordering_then}
use Rattle.std.specs.Cmp.{IsTotalOrder, nat_cmp_total, on_total, then_total}
use Rattle.std.specs.Cmp.Lexicographic.{nat_list_cmp_total, slice_cmp}
use Rattle.std.specs.Coded.{Coded, coded×, coded_list, coded_ℕ, coded_ℤ}
use Rattle.std.specs.FinMap.{code, FinMap, empty, entries, insert, get}
use Rattle.queue_types.specs.Operators.{is_operator}
use Rattle.queue_types.specs.Settings.{SettingValues}
use Rattle.queue_types.specs.Job.{is_live, is_running, is_stopped, state}
use Rattle.queue_core.specs.Visible.{visible}
use Rattle.queue_types.specs.Event.{NewDocument, Change, Event, Call, ask, tell, grant, expire, print_job, validate_job, create_job, send_document, cancel_job, cancel_my_jobs, hold_job, release_job, get_job_attributes, get_jobs, get_printer_attributes}
use Rattle.queue_types.specs.declared.job.Job.{Job}
use Rattle.queue_types.specs.declared.document.Document.{Document}
use Rattle.queue_types.specs.declared.event.FreeRow.{FreeRow}
use Rattle.queue_types.specs.declared.event.GrantRow.{GrantRow}
use Rattle.queue_types.specs.declared.event.KeptReport.{KeptReport}
use Rattle.queue_types.specs.declared.event.KnownGrant.{KnownGrant}
use Rattle.queue_types.specs.declared.event.Scene.{Scene}
use Rattle.queue_types.specs.declared.event.QueueCounts.{QueueCounts}

-- a job with its documents, in the order in which they came
pub record Entry : Type 0 where
  pub row : Job
  pub documents : List Document

abbrev pub text_cmp : List ℕ → List ℕ → Ordering
text_cmp = slice_cmp nat_cmp

-- by batch, then by account
abbrev pub grant_cmp : List ℕ × List ℕ → List ℕ × List ℕ → Ordering
grant_cmp a b = ordering_then (text_cmp a.0 b.0) (text_cmp a.1 b.1)

-- by job, then by sequence number
abbrev pub report_cmp : ℕ × ℕ → ℕ × ℕ → Ordering
report_cmp a b = ordering_then (nat_cmp a.0 b.0) (nat_cmp a.1 b.1)

-- both are total orders
pub grant_total : IsTotalOrder grant_cmp
grant_total = then_total (on_total (λ (p : List ℕ × List ℕ). p.0) nat_list_cmp_total) (on_total (λ (p : List ℕ × List ℕ). p.1) nat_list_cmp_total)

pub report_total : IsTotalOrder report_cmp
report_total = then_total (on_total (λ (p : ℕ × ℕ). p.0) nat_cmp_total) (on_total (λ (p : ℕ × ℕ). p.1) nat_cmp_total)

pub record World : Type 0 where
  pub settings : SettingValues
  -- by number
  pub jobs : List Entry
  -- the number of the next new job
  pub next : ℕ
  -- pages by batch and account
  pub grants : FinMap grant_cmp ℕ
  -- free pages by account
  pub free : FinMap text_cmp ℤ
  -- accepted reports by job and sequence number
  pub reports : FinMap report_cmp KeptReport

-- a queue without jobs, accounts and reports
abbrev pub empty_queue : SettingValues → World
empty_queue settings = record { settings = settings; jobs = []; next = 1; grants = empty; free = empty; reports = empty }

-- the jobs as rows
abbrev pub rows : World → List Job
rows w = map (λ e. e.row) w.jobs

-- the job of that number
abbrev pub job_at : ℕ → List Job → Option Job
job_at n js = find (λ j. j.number == n) js

-- a job has this number
abbrev pub has_number : ℕ → List Entry → Bool
has_number n es = list_any (λ e. e.row.number == n) es

-- ---- what a change makes of a world

-- the job of that number is this row, and the other jobs stay; a new number stands last
abbrev pub with_row : List Entry → Job → List Entry
with_row [] row = record { row = row; documents = [] } ∷ []
with_row (e ∷ es) row = if e.row.number == row.number then record e { row = row } ∷ es else e ∷ with_row es row

-- the job of that number has this document after its others
abbrev pub add_document : NewDocument → Entry → Entry
add_document d e = if e.row.number == d.job then record e { documents = e.documents ++ record { format = d.format; bytes = d.bytes } ∷ [] } else e

abbrev pub with_document : List Entry → Option NewDocument → List Entry
with_document es None = es
with_document es (Some d) = map (add_document d) es

abbrev pub put_free : FinMap text_cmp ℤ → FreeRow → FinMap text_cmp ℤ
put_free m a = insert m a.account a.free

abbrev pub put_grant : FinMap grant_cmp ℕ → GrantRow → FinMap grant_cmp ℕ
put_grant m g = insert m (g.batch, g.account) g.pages

-- each of these grants is under a batch and an account that has none, in turn
abbrev pub AreNew : FinMap grant_cmp ℕ → List GrantRow → Type 0
AreNew m [] = ⊤
AreNew m (g ∷ rows) = (get m (g.batch, g.account) ≡ None) × AreNew (put_grant m g) rows

abbrev pub with_report : FinMap report_cmp KeptReport → Option KeptReport → FinMap report_cmp KeptReport
with_report m None = m
with_report m (Some k) = insert m (k.report.job, k.report.seq) k

-- each row of the change is put in turn
abbrev pub made_on : Change → World → World
made_on c w = record w {
  jobs = with_document (fold with_row w.jobs c.jobs) c.document;
  next = unwrap_or c.next w.next;
  free = fold put_free w.free c.free;
  grants = fold put_grant w.grants c.grants;
  reports = with_report w.reports c.report;
}

-- ---- what of a world an event needs

-- the job of that number, in a list of all of them
abbrev pub numbered : ℕ → List Job → List Job
numbered n js = filter (λ j. j.number == n) js

-- the job has one of these numbers
unfoldable pub is_one_of : List ℕ → Job → Bool
is_one_of numbers j = list_any (λ n. n == j.number) numbers

-- an operator is shown the jobs of all owners unless it asks for its own alone
abbrev pub shows_all : List (List ℕ) → List ℕ → Bool → Bool
shows_all operators caller mine = is_operator operators caller && not mine

-- of all jobs those that a caller's call speaks of, for these operators
abbrev pub jobs_for : List (List ℕ) → List ℕ → Call → List Job → List Job
jobs_for operators caller (print_job new format payload) js = []
jobs_for operators caller (validate_job new) js = []
jobs_for operators caller (create_job new) js = []
jobs_for operators caller (send_document n format payload last) js = numbered n js
jobs_for operators caller (cancel_job n) js = numbered n js
jobs_for operators caller (cancel_my_jobs (Some numbers)) js = filter (λ j. bytes_eq j.owner caller && is_one_of numbers j) js
jobs_for operators caller (cancel_my_jobs None) js = filter (λ j. bytes_eq j.owner caller && is_live j) js
jobs_for operators caller (hold_job n) js = numbered n js
jobs_for operators caller (release_job n) js = numbered n js
jobs_for operators caller (get_job_attributes n) js = numbered n js
jobs_for operators caller (get_jobs which limit mine) js = visible (shows_all operators caller mine) caller which limit js
jobs_for operators caller get_printer_attributes js = []

-- how many jobs of the caller are in states 3 to 6
abbrev pub live_jobs : List ℕ → List Job → ℕ
live_jobs caller js = count_by (λ j. bytes_eq j.owner caller && is_live j) js

-- the job is in state 4, and at least `keep` seconds have passed since it was created; with 0 seconds no job expires
unfoldable pub has_expired : ℕ → ℕ → Job → Bool
has_expired keep now j = nat_lt 0 keep && (nat_le (j.created + keep) now && state j == 4)

-- the jobs that the event is about at that moment
abbrev pub jobs_of : ℕ → Event → World → List Job
jobs_of now (ask caller call) w = jobs_for w.settings.operators caller call (rows w)
jobs_of now (tell r) w = numbered r.job (rows w)
jobs_of now (grant new) w = []
jobs_of now expire w = filter (has_expired w.settings.keep now) (rows w)

-- a caller's live jobs are counted where a new one is asked for, and else not
abbrev pub live_for : List ℕ → Call → List Job → ℕ
live_for caller (print_job new format payload) js = live_jobs caller js
live_for caller (validate_job new) js = live_jobs caller js
live_for caller (create_job new) js = live_jobs caller js
live_for caller (send_document n format payload last) js = 0
live_for caller (cancel_job n) js = 0
live_for caller (cancel_my_jobs numbers) js = 0
live_for caller (hold_job n) js = 0
live_for caller (release_job n) js = 0
live_for caller (get_job_attributes n) js = 0
live_for caller (get_jobs which limit mine) js = 0
live_for caller get_printer_attributes js = 0

abbrev pub live_of : Event → World → ℕ
live_of (ask caller call) w = live_for caller call (rows w)
live_of (tell r) w = 0
live_of (grant new) w = 0
live_of expire w = 0

abbrev pub queue_counts : List Job → QueueCounts
queue_counts js = record { running = count_by is_running js; stopped = count_by is_stopped js; queued = count_by is_live js }

-- all jobs are counted for Get-Printer-Attributes, and else none
abbrev pub counts_for : Call → List Job → QueueCounts
counts_for get_printer_attributes js = queue_counts js
counts_for (print_job new format payload) js = queue_counts []
counts_for (validate_job new) js = queue_counts []
counts_for (create_job new) js = queue_counts []
counts_for (send_document n format payload last) js = queue_counts []
counts_for (cancel_job n) js = queue_counts []
counts_for (cancel_my_jobs numbers) js = queue_counts []
counts_for (hold_job n) js = queue_counts []
counts_for (release_job n) js = queue_counts []
counts_for (get_job_attributes n) js = queue_counts []
counts_for (get_jobs which limit mine) js = queue_counts []

abbrev pub counts_of : Event → World → QueueCounts
counts_of (ask caller call) w = counts_for call (rows w)
counts_of (tell r) w = queue_counts []
counts_of (grant new) w = queue_counts []
counts_of expire w = queue_counts []

-- the account with its free pages, where it is there
abbrev pub found_row : List ℕ → Option ℤ → List FreeRow
found_row account None = []
found_row account (Some free) = record { account = account; free = free } ∷ []

-- the account of the first job's owner
abbrev pub owner_row : FinMap text_cmp ℤ → List Job → List FreeRow
owner_row free [] = []
owner_row free (j ∷ js) = found_row j.owner (get free j.owner)

-- these names, then the owners of these jobs that are not among them yet
abbrev pub owners_after : List (List ℕ) → List Job → List (List ℕ)
owners_after names [] = names
owners_after names (j ∷ js) = owners_after (if list_any (λ a. bytes_eq j.owner a) names then names else names ++ j.owner ∷ []) js

-- the owners of these jobs, each once, in the order in which they first come
abbrev pub owners : List Job → List (List ℕ)
owners js = owners_after [] js

-- the accounts of these names that are there
abbrev pub rows_of_accounts : FinMap text_cmp ℤ → List (List ℕ) → List FreeRow
rows_of_accounts free [] = []
rows_of_accounts free (a ∷ names) = found_row a (get free a) ++ rows_of_accounts free names

-- an account is looked up where pages may be set aside or come back, and else not: for Cancel-Job that of the owner of the job that
-- it is about, and else the caller's
abbrev pub free_for : List ℕ → Call → List Job → FinMap text_cmp ℤ → List FreeRow
free_for caller (print_job new format payload) js free = []
free_for caller (validate_job new) js free = []
free_for caller (create_job new) js free = []
free_for caller (send_document n format payload last) js free = []
free_for caller (cancel_job n) js free = owner_row free js
free_for caller (cancel_my_jobs numbers) js free = found_row caller (get free caller)
free_for caller (hold_job n) js free = found_row caller (get free caller)
free_for caller (release_job n) js free = found_row caller (get free caller)
free_for caller (get_job_attributes n) js free = []
free_for caller (get_jobs which limit mine) js free = []
free_for caller get_printer_attributes js free = []

-- the account of the caller or of the job's owner, where it is looked up, or the accounts of all owners of the jobs that end
abbrev pub free_of : ℕ → Event → World → List FreeRow
free_of now (ask caller call) w = free_for caller call (jobs_of now (ask caller call) w) w.free
free_of now (tell r) w = owner_row w.free (numbered r.job (rows w))
free_of now (grant new) w = []
free_of now expire w = rows_of_accounts w.free (owners (jobs_of now expire w))

-- the next number is looked up where a job may enter, or where it is told whether one may; else it is that of a queue without jobs
abbrev pub next_for : Call → ℕ → ℕ
next_for (print_job new format payload) next = next
next_for (validate_job new) next = next
next_for (create_job new) next = next
next_for (send_document n format payload last) next = 1
next_for (cancel_job n) next = 1
next_for (cancel_my_jobs numbers) next = 1
next_for (hold_job n) next = 1
next_for (release_job n) next = 1
next_for (get_job_attributes n) next = 1
next_for (get_jobs which limit mine) next = 1
next_for get_printer_attributes next = next

-- An account file is decided without it. It is looked up all the same, so that a book in tables reads them for every event, also for a file without
-- rows, and a book that is shut refuses each.
abbrev pub next_of : Event → World → ℕ
next_of (ask caller call) w = next_for call w.next
next_of (tell r) w = 1
next_of (grant new) w = w.next
next_of expire w = 1

-- the report that was accepted of the same job under the same sequence number
abbrev pub report_of : Event → World → Option KeptReport
report_of (ask caller call) w = None
report_of (tell r) w = get w.reports (r.job, r.seq)
report_of (grant new) w = None
report_of expire w = None

-- the pages granted to an account in all
abbrev pub granted_in : List ℕ → FinMap grant_cmp ℕ → ℕ
granted_in a m = sum_by (λ g. if bytes_eq g.0.1 a then g.1 else 0) (entries m)

abbrev pub granted : List ℕ → World → ℕ
granted a w = granted_in a w.grants

-- what is known of a row's batch and account
abbrev pub known_grant : World → GrantRow → KnownGrant
known_grant w g = record { pages = get w.grants (g.batch, g.account); granted = granted g.account w; free = get w.free g.account }

abbrev pub known_of : Event → World → List KnownGrant
known_of (ask caller call) w = []
known_of (tell r) w = []
known_of (grant new) w = map (known_grant w) new
known_of expire w = []

-- the scene of jobs and accounts alone
abbrev pub jobs_scene : SettingValues → List Job → List FreeRow → Scene
jobs_scene settings jobs free = record {
  settings = settings;
  jobs = jobs;
  free = free;
  live = 0;
  counts = queue_counts [];
  report = None;
  known = [];
  next = 1;
}

-- the scene of a call that asks for a new job
abbrev pub new_scene : World → List ℕ → Scene
new_scene w caller = record (jobs_scene w.settings [] []) { live = live_jobs caller (rows w); next = w.next }

-- the rows that the event needs at that moment
abbrev pub cut : World → ℕ → Event → Scene
cut w now e = record {
  settings = w.settings;
  jobs = jobs_of now e w;
  free = free_of now e w;
  live = live_of e w;
  counts = counts_of e w;
  report = report_of e w;
  known = known_of e w;
  next = next_of e w;
}

-- ---- codes of the maps, for a type whose content is a world

abbrev pub grants_code : Coded (FinMap grant_cmp ℕ)
grants_code = code (coded× (coded_list coded_ℕ) (coded_list coded_ℕ)) coded_ℕ

abbrev pub free_code : Coded (FinMap text_cmp ℤ)
free_code = code (coded_list coded_ℕ) coded_ℤ

abbrev pub reports_code : Coded KeptReport → Coded (FinMap report_cmp KeptReport)
reports_code kept = code (coded× coded_ℕ coded_ℕ) kept
