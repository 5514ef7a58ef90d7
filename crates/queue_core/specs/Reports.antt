-- What a device's reports make of a job.
use Rattle.std.specs.Prelude.{ℕ, ◌==◌, ◌&&◌, ◌||◌, Option, Some, None, is_some, max, unwrap_or, Bool, if◌then◌else◌}
use Rattle.queue_types.specs.Event.{kind_number}
use Rattle.queue_types.specs.declared.event.Kind.{Kind}
use Rattle.queue_types.specs.declared.event.Kind.TheVariants.{Start, Stop, Resume, Count, Done, Fail, Halt}
use Rattle.queue_types.specs.declared.event.Report.{Report}
use Rattle.queue_types.specs.declared.job.Job.{Job}
use Rattle.queue_types.specs.declared.job.Phase.{Phase}
use Rattle.queue_types.specs.declared.job.Phase.TheVariants.{Waiting, Running, Stopped, Canceled, Aborted, Completed}
use Rattle.queue_types.specs.declared.job.Why.{Why}
use Rattle.queue_types.specs.declared.job.Why.TheVariants.{AtDevice}

-- of one job and sequence number, the same report
abbrev pub is_same_report : Report → Report → Bool
is_same_report a b = kind_number a.kind == kind_number b.kind && a.count == b.count

-- the greatest count that was reported
abbrev pub counted : ℕ → Job → Job
counted count j = record j { count = max j.count count }

abbrev pub ended_as : Phase → ℕ → Job → Job
ended_as phase now j = record j { phase = phase; stopping = None; ended = Some now }

-- whoever asked to cancel it ended it, and if nobody did, the device
abbrev pub why_halted : Option Why → Why
why_halted stopping = unwrap_or stopping AtDevice

-- what becomes of a job in that phase, where a report of that kind is taken of it
abbrev pub moved_by : Kind → Phase → ℕ → Job → Option Job
moved_by Start Waiting now j = if j.hold || j.incoming then None else Some (record j { phase = Running; begun = Some now })
moved_by Stop Running now j = Some (record j { phase = Stopped })
moved_by Resume Stopped now j = Some (record j { phase = Running })
moved_by Count phase now j = if is_some j.begun then Some j else None
moved_by Done Running now j = Some (ended_as Completed now j)
moved_by Fail Running now j = Some (ended_as Aborted now j)
moved_by Fail Stopped now j = Some (ended_as Aborted now j)
moved_by Halt Running now j = Some (ended_as (Canceled (why_halted j.stopping)) now j)
moved_by Halt Stopped now j = Some (ended_as (Canceled (why_halted j.stopping)) now j)
moved_by _ _ now j = None

-- the job after the report, where it is taken
abbrev pub reported : Report → ℕ → Job → Option Job
reported r now j = moved_by r.kind j.phase now (counted r.count j)
