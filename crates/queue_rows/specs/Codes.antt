-- The numbers that stand in columns for what has a name.
use Rattle.std.specs.Prelude.{◌≡◌, ℕ, ℤ, pos, Bool, true, false, Option, None, Some, is_some}
pub use Rattle.queue_types.specs.Event.{kind_number}
pub use Rattle.queue_types.specs.States.{job_state_number}
use Rattle.queue_types.specs.declared.job.Phase.{Phase}
use Rattle.queue_types.specs.declared.job.Phase.TheVariants.{Waiting, Running, Stopped, Canceled, Aborted, Completed}
use Rattle.queue_types.specs.declared.job.Why.{Why}
use Rattle.queue_types.specs.declared.job.Why.TheVariants.{ByUser, AtDevice, ByOperator}

-- ended phases have the numbers of their states
abbrev pub phase_number : Phase → ℕ
phase_number Waiting = 0
phase_number Running = 1
phase_number Stopped = 2
phase_number (Canceled why) = 7
phase_number Aborted = 8
phase_number Completed = 9

-- who cancels, 0 where nobody does
abbrev pub cause_number : Option Why → ℕ
cause_number None = 0
cause_number (Some ByUser) = 1
cause_number (Some AtDevice) = 2
cause_number (Some ByOperator) = 3

-- who canceled a job, or stops it
abbrev pub cause_of : Phase → Option Why → Option Why
cause_of Waiting stopping = stopping
cause_of Running stopping = stopping
cause_of Stopped stopping = stopping
cause_of (Canceled why) stopping = Some why
cause_of Aborted stopping = stopping
cause_of Completed stopping = stopping

abbrev pub why_number : Phase → Option Why → ℕ
why_number phase stopping = cause_number (cause_of phase stopping)

abbrev pub flag_number : Bool → ℕ
flag_number false = 0
flag_number true = 1

-- whether a job is stopping; of a canceled one, which never is, whoever would stop it, so that these three numbers always tell a job's course
abbrev pub stopping_number : Phase → Option Why → ℕ
stopping_number Waiting stopping = flag_number (is_some stopping)
stopping_number Running stopping = flag_number (is_some stopping)
stopping_number Stopped stopping = flag_number (is_some stopping)
stopping_number (Canceled why) stopping = cause_number stopping
stopping_number Aborted stopping = flag_number (is_some stopping)
stopping_number Completed stopping = flag_number (is_some stopping)

-- the columns phase, why and stopping of a job in this phase that these stop
pub record AreCourse (phase why stopping : ℤ) (p : Phase) (s : Option Why) : Type 0 where
  pub phase_is : phase ≡ pos (phase_number p)
  pub why_is : why ≡ pos (why_number p s)
  pub stopping_is : stopping ≡ pos (stopping_number p s)
