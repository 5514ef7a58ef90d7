-- The numbers of the states of a job (RFC 8011, section 5.3.7) and of the printer (section 5.4.11).
use Rattle.std.specs.Prelude.{ℕ}
use Rattle.queue_types.specs.declared.states.JobState.{JobState}
use Rattle.queue_types.specs.declared.states.JobState.TheVariants.{Pending, PendingHeld, Processing, ProcessingStopped, Canceled, Aborted, Completed}
use Rattle.queue_types.specs.declared.states.PrinterState.{PrinterState}
use Rattle.queue_types.specs.declared.states.PrinterState.TheVariants.{Idle, Processing as PrinterProcessing, Stopped}

abbrev pub job_state_number : JobState → ℕ
job_state_number Pending = 3
job_state_number PendingHeld = 4
job_state_number Processing = 5
job_state_number ProcessingStopped = 6
job_state_number Canceled = 7
job_state_number Aborted = 8
job_state_number Completed = 9

abbrev pub printer_state_number : PrinterState → ℕ
printer_state_number Idle = 3
printer_state_number PrinterProcessing = 4
printer_state_number Stopped = 5
