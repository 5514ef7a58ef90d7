-- The documents of a job.
use Rattle.std.specs.Prelude.{◌≡◌, ℕ, ◌==◌, List, [], ◌++◌, Some, if◌then◌else◌}
use Rattle.std.specs.Option.{option_map_or}
use Rattle.queue_types.specs.Event.{Event, Call, ask, tell, grant, expire, print_job, validate_job, create_job, send_document, cancel_job, cancel_my_jobs, hold_job, release_job, get_job_attributes, get_jobs, get_printer_attributes}
use Rattle.queue_core.specs.Runs.{Place, run}
use Rattle.queue_core.specs.Shown.{document_at}
use Rattle.queue_core.specs.World.{World, Entry}
use Rattle.queue_types.specs.declared.document.Document.{Document}
use Rattle.queue_laws.specs.Doing.{entry_at}
use Rattle.queue_laws.specs.Entering.{documents_of}

-- the documents of the job of that number, none where there is no such job
abbrev pub documents_at : ℕ → List Entry → List Document
documents_at n es = option_map_or (λ (e : Entry). e.documents) (entry_at n es) []

-- the document that a call sends to the job of number n: its payload, where that is not empty; next is a new job's number
abbrev pub sent_by : ℕ → ℕ → Call → List Document
sent_by next n (print_job new format payload) = if next == n then documents_of format payload else []
sent_by next n (send_document m format payload last) = if m == n then documents_of format payload else []
sent_by next n (validate_job new) = []
sent_by next n (create_job new) = []
sent_by next n (cancel_job m) = []
sent_by next n (cancel_my_jobs numbers) = []
sent_by next n (hold_job m) = []
sent_by next n (release_job m) = []
sent_by next n (get_job_attributes m) = []
sent_by next n (get_jobs which limit mine) = []
sent_by next n get_printer_attributes = []

abbrev pub sent_in : ℕ → ℕ → Event → List Document
sent_in next n (ask caller call) = sent_by next n call
sent_in next n (tell r) = []
sent_in next n (grant file) = []
sent_in next n expire = []

-- the job of that number is there, with these documents, and maybe more behind them
pub record HasFirst (n : ℕ) (first : List Document) (es : List Entry) : Type 0 where
  pub entry : Entry
  pub more : List Document
  pub there : entry_at n es ≡ Some entry
  pub documents : entry.documents ≡ first ++ more

-- whatever comes after w: where the job's document at that place, from 1, can be fetched, it is d
abbrev pub IsFetchedAs : World → ℕ → ℕ → Document → Type 0
IsFetchedAs w n place d = (places : List Place) (x : Document) → document_at (run w places) n place ≡ Some x → x ≡ d
