-- Jobs as their owners speak of them (RFC 8011, section 5.3.7).
use Rattle.std.specs.Prelude.{◌≡◌, ◌≤◌, ℕ, List, Bool, ◌==◌, ◌&&◌, ◌||◌, bytes_eq, count_by, filter, nat_le, nat_lt, not, Option, Some, None, take, if◌then◌else◌}
use Rattle.std.specs.List.{list_all, list_any}
use Rattle.queue_types.specs.Job.{state, owed}
use Rattle.queue_core.specs.World.{Entry}
use Rattle.queue_types.specs.declared.event.WhichJobs.{WhichJobs}
use Rattle.queue_types.specs.declared.event.WhichJobs.TheVariants.{NotCompleted, Completed}
use Rattle.queue_types.specs.declared.job.Job.{Job}
use Rattle.queue_types.specs.declared.states.PrinterState.{PrinterState}
use Rattle.queue_types.specs.declared.states.PrinterState.TheVariants.{Idle, Processing as PrinterProcessing, Stopped as PrinterStopped}

abbrev pub is_owned_by : List ℕ → Job → Bool
is_owned_by caller j = bytes_eq j.owner caller

-- pending and pending-held, states 3 and 4
abbrev pub Waits : Job → Type 0
Waits j = state j ≤ 4

-- processing and processing-stopped, states 5 and 6: the device has it
abbrev pub IsAtDevice : Job → Type 0
IsAtDevice j = (5 ≤ state j) × (state j ≤ 6)

-- canceled, aborted and completed, states 7 to 9
abbrev pub HasEnded : Job → Type 0
HasEnded j = 7 ≤ state j

-- the device may start it or has it: states 3, 5 and 6
abbrev pub is_for_device : Job → Bool
is_for_device j = state j == 3 || state j == 5 || state j == 6

-- states 3 to 6
abbrev pub is_unfinished : Job → Bool
is_unfinished j = nat_le 3 (state j) && nat_le (state j) 6

-- states 7 to 9
abbrev pub is_finished : Job → Bool
is_finished j = nat_le 7 (state j) && nat_le (state j) 9

abbrev pub is_of_kind : WhichJobs → Job → Bool
is_of_kind NotCompleted j = is_unfinished j
is_of_kind Completed j = is_finished j

-- pages are set aside for it, or were printed of it
abbrev pub takes_pages : Job → Bool
takes_pages j = nat_lt 0 (owed j) || nat_lt 0 j.count

-- the caller's own of that kind, of all jobs
abbrev pub own_of_kind : List ℕ → WhichJobs → List Job → List Job
own_of_kind caller which js = filter (λ j. is_owned_by caller j && is_of_kind which j) js

-- the caller's own that wait, in states 3 and 4
abbrev pub waiting_of : List ℕ → List Job → List Job
waiting_of caller js = filter (λ j. is_owned_by caller j && nat_le (state j) 4) js

-- how many jobs of the caller's own are not finished
abbrev pub unfinished_of : List ℕ → List Job → ℕ
unfinished_of caller js = count_by (λ j. is_owned_by caller j && is_unfinished j) js

-- the caller has a job of that number
abbrev pub has_job : List ℕ → ℕ → List Job → Bool
has_job caller n js = list_any (λ j. j.number == n && is_owned_by caller j) js

-- the caller has a job of each of these numbers
abbrev pub has_jobs : List ℕ → List ℕ → List Job → Bool
has_jobs caller numbers js = list_all (λ n. has_job caller n js) numbers

-- the first so many, where a limit is given
abbrev pub up_to : Option ℕ → List Job → List Job
up_to None js = js
up_to (Some n) js = take n js

-- processing while a job is in state 5; else stopped while one is in state 6; else idle (RFC 8011, section 5.4.11)
abbrev pub printer_state : List Job → PrinterState
printer_state js = if list_any (λ j. state j == 5) js then PrinterProcessing else (if list_any (λ j. state j == 6) js then PrinterStopped else Idle)

-- the jobs of other numbers, with their documents
abbrev pub jobs_but : ℕ → List Entry → List Entry
jobs_but n es = filter (λ e. not (e.row.number == n)) es

-- the one is the other but for what may be asked of it: whether it is held, open for documents, stopping or canceled, and
-- its documents
abbrev pub IsSameWork : Job → Job → Type 0
IsSameWork k j = record k { phase = j.phase; hold = j.hold; incoming = j.incoming; stopping = j.stopping; ended = j.ended; documents = j.documents; octets = j.octets } ≡ j

-- the one is the other but for whether it is stopping
abbrev pub IsSameButStopping : Job → Job → Type 0
IsSameButStopping k j = record k { stopping = j.stopping } ≡ j
