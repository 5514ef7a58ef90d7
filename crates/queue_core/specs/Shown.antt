-- What of a world the device and the office are shown.
use Rattle.std.specs.Prelude.{Bool, ℕ, ◌-◌, ◌==◌, ◌&&◌, ◌||◌, nat_lt, bytes_eq, List, Option, Some, None, find, filter, length, option_map, slice_get, if◌then◌else◌}
use Rattle.std.specs.FinMap.{get}
use Rattle.queue_types.specs.Job.{state, owed}
use Rattle.queue_core.specs.Sound.{reserved, printed}
use Rattle.queue_core.specs.World.{World, Entry, rows, granted}
use Rattle.queue_types.specs.declared.job.Job.{Job}
use Rattle.queue_types.specs.declared.document.Document.{Document}
use Rattle.queue_types.specs.declared.document.DocumentHead.{DocumentHead}
use Rattle.queue_types.specs.declared.sheet.AccountSheet.{AccountSheet}

-- the jobs that the device may start, in state 3, by number
unfoldable pub pending_in : List Job → List Job
pending_in js = filter (λ j. state j == 3) js

abbrev pub pending_jobs : World → List Job
pending_jobs w = pending_in (rows w)

-- the device may fetch the job's documents: it is pending, processing or processing-stopped (RFC 8011, section 5.3.7)
abbrev pub may_be_fetched : Job → Bool
may_be_fetched j = state j == 3 || state j == 5 || state j == 6

-- document n, from 1, of a job whose documents the device may fetch
abbrev pub document_of : Option Entry → ℕ → Option Document
document_of None n = None
document_of (Some e) n = if may_be_fetched e.row && nat_lt 0 n then slice_get e.documents (n - 1) else None

unfoldable pub document_at : World → ℕ → ℕ → Option Document
document_at w job n = document_of (find (λ (e : Entry). e.row.number == job) w.jobs) n

abbrev pub head_of : Document → DocumentHead
head_of d = record { format = d.format; octets = length d.bytes }

-- a job for which pages are set aside, or of which pages were printed
abbrev pub is_charged : Job → Bool
is_charged j = nat_lt 0 (owed j) || nat_lt 0 j.count

-- those of these jobs that are charged to the account
abbrev pub charged_to : List ℕ → List Job → List Job
charged_to a js = filter (λ j. bytes_eq j.owner a && is_charged j) js

-- by number
abbrev pub sheet_jobs : World → List ℕ → List Job
sheet_jobs w a = charged_to a (rows w)

-- what is granted to an account, what of it is free, reserved and printed, where the account is there
unfoldable pub sheet_of : World → List ℕ → Option AccountSheet
sheet_of w a = option_map (λ free. record { account = a; granted = granted a w; free = free; reserved = reserved a w; printed = printed a w; jobs = sheet_jobs w a }) (get w.free a)
