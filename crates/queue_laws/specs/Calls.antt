-- What a call asks for.
use Rattle.std.specs.Prelude.{ℕ, List, Some, Bool, true, false}
use Rattle.queue_types.specs.Event.{Event, Call, NewJob, ask, print_job, validate_job, create_job, send_document, cancel_job, cancel_my_jobs, hold_job, release_job, get_job_attributes, get_jobs, get_printer_attributes}
use Rattle.queue_types.specs.declared.document.Document.{Document}

-- a new job, or whether there may be one
abbrev pub asks_new_job : Call → Bool
asks_new_job (print_job new format payload) = true
asks_new_job (validate_job new) = true
asks_new_job (create_job new) = true
asks_new_job (send_document n format payload last) = false
asks_new_job (cancel_job n) = false
asks_new_job (cancel_my_jobs numbers) = false
asks_new_job (hold_job n) = false
asks_new_job (release_job n) = false
asks_new_job (get_job_attributes n) = false
asks_new_job (get_jobs which limit mine) = false
asks_new_job get_printer_attributes = false

-- a new job, under a number of its own
abbrev pub draws_number : Call → Bool
draws_number (print_job new format payload) = true
draws_number (create_job new) = true
draws_number (validate_job new) = false
draws_number (send_document n format payload last) = false
draws_number (cancel_job n) = false
draws_number (cancel_my_jobs numbers) = false
draws_number (hold_job n) = false
draws_number (release_job n) = false
draws_number (get_job_attributes n) = false
draws_number (get_jobs which limit mine) = false
draws_number get_printer_attributes = false

-- an operation that an operator may ask of any job
abbrev pub is_on_any : Call → Bool
is_on_any (cancel_job n) = true
is_on_any (get_job_attributes n) = true
is_on_any (print_job new format payload) = false
is_on_any (validate_job new) = false
is_on_any (create_job new) = false
is_on_any (send_document n format payload last) = false
is_on_any (cancel_my_jobs numbers) = false
is_on_any (hold_job n) = false
is_on_any (release_job n) = false
is_on_any (get_jobs which limit mine) = false
is_on_any get_printer_attributes = false

-- ---- requests

-- Print-Job, with a payload and its format
abbrev pub prints : List ℕ → NewJob → Document → Event
prints caller new d = ask caller (print_job new d.format d.bytes)

-- Send-Document, likewise, and whether it is the last
abbrev pub sends : List ℕ → ℕ → Document → Bool → Event
sends caller n d last = ask caller (send_document n d.format d.bytes last)

-- Cancel-My-Jobs with job numbers
abbrev pub cancels : List ℕ → List ℕ → Event
cancels caller numbers = ask caller (cancel_my_jobs (Some numbers))
