-- What an operation on one job makes of it.
use Rattle.std.specs.Prelude.{◌≡◌, ℕ, ◌==◌, ◌≤◌, ◌+◌, List, [], ◌∷◌, ◌++◌, Option, Some, Bool, true, false, filter, find, length, not}
use Rattle.std.specs.List.{list_any, AllByRecursion as Each}
use Rattle.queue_types.specs.Event.{ask, cancel_job}
use Rattle.queue_core.specs.Machine.{Step}
use Rattle.queue_core.specs.World.{World, Entry}
use Rattle.queue_types.specs.declared.document.Document.{Document}
use Rattle.queue_types.specs.declared.event.Reply.TheVariants.{Done, Jobs}
use Rattle.queue_types.specs.declared.job.Job.{Job}
use Rattle.queue_types.specs.declared.job.Phase.TheVariants.{Canceled}
use Rattle.queue_types.specs.declared.job.Why.TheVariants.{ByUser}
use Rattle.queue_laws.specs.Entering.{documents_of}
use Rattle.queue_laws.specs.Jobs.{is_owned_by, waiting_of, Waits}
use Rattle.queue_laws.specs.Steps.{answer}

-- the job of that number with its documents
abbrev pub entry_at : ℕ → List Entry → Option Entry
entry_at n es = find (λ e. e.row.number == n) es

-- the job of that number is the same in both, with its documents
abbrev pub IsSameAt : ℕ → World → World → Type 0
IsSameAt n v w = entry_at n v.jobs ≡ entry_at n w.jobs

-- the job of number n is e, the caller's own
pub record HasOwn (caller : List ℕ) (n : ℕ) (e : Entry) (w : World) : Type 0 where
  pub there : entry_at n w.jobs ≡ Some e
  pub owned : is_owned_by caller e.row ≡ true

-- likewise, and it waits on hold
pub record HasHeld (caller : List ℕ) (n : ℕ) (e : Entry) (w : World) : Type 0 where
  pub own : HasOwn caller n e w
  pub waits : Waits e.row
  pub held : e.row.hold ≡ true

-- done: the job e of number n is j now, with its documents as they were
pub record IsDone (n : ℕ) (e : Entry) (j : Job) (s : Step) : Type 0 where
  pub job : entry_at n s.world.jobs ≡ Some (record e { row = j })
  pub reply : s.reply ≡ Done

-- canceled by its user at that moment, and neither held nor open for documents any more
abbrev pub canceled_by_user : ℕ → Job → Job
canceled_by_user now j = record j { phase = Canceled ByUser; hold = false; incoming = false; ended = Some now }

-- its documents with the payload d behind them
abbrev pub documents_with : Entry → Document → List Document
documents_with e d = e.documents ++ documents_of d.format d.bytes

-- the job is open for documents, and has at most 16 with this one
pub record IsOpenFor (e : Entry) (d : Document) : Type 0 where
  pub incoming : e.row.incoming ≡ true
  pub few : length (documents_with e d) ≤ 16

-- the payload is the job's next document, where it is not empty, and after the last one no more may come
abbrev pub sent_to : Entry → Document → Bool → Entry
sent_to e d last = record {
  row = record e.row { documents = e.row.documents + length (documents_of d.format d.bytes); octets = e.row.octets + length d.bytes; incoming = not last };
  documents = documents_with e d;
}

-- the job of number n is e now, and the caller is told of it
pub record IsSent (n : ℕ) (e : Entry) (s : Step) : Type 0 where
  pub job : entry_at n s.world.jobs ≡ Some e
  pub reply : s.reply ≡ Jobs (e.row ∷ [])

-- it is one of these numbers
abbrev pub is_among : List ℕ → ℕ → Bool
is_among numbers n = list_any (λ m. m == n) numbers

-- the caller's own that wait, of these numbers
abbrev pub waiting_among : List ℕ → List ℕ → List Job → List Job
waiting_among numbers caller js = filter (λ j. is_among numbers j.number) (waiting_of caller js)

-- Cancel-Job of each of these numbers would be done
abbrev pub AreCancelable : World → ℕ → List ℕ → List ℕ → Type 0
AreCancelable w now caller numbers = Each (λ n. answer w now (ask caller (cancel_job n)) ≡ Done) numbers
