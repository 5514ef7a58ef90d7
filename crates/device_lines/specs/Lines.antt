-- What a line of the device says: JOB SEQ KIND COUNT and a line feed.
use Rattle.std.specs.Prelude.{◌≡◌, ◌<◌, ◌^◌, ◌++◌, ℕ, List, Result, Ok, Err, codes, decimal}
use Rattle.queue_core.specs.Limits.{IsReport}
use Rattle.queue_types.specs.declared.event.Kind.{Kind}
use Rattle.queue_types.specs.declared.event.Kind.TheVariants.{Start, Stop, Resume, Count, Done, Fail, Halt}
use Rattle.queue_types.specs.declared.event.Report.{Report}
use Rattle.device_lines.specs.declared.line.LineFault.{LineFault}
use Rattle.device_lines.specs.declared.line.LineFault.TheVariants.{Syntax, Range}

abbrev pub kind_word : Kind → List ℕ
kind_word Start = codes "start"
kind_word Stop = codes "stop"
kind_word Resume = codes "resume"
kind_word Count = codes "count"
kind_word Done = codes "done"
kind_word Fail = codes "fail"
kind_word Halt = codes "halt"

-- a report as a line, its numbers in decimal without leading zeros
abbrev pub line_of : Report → List ℕ
line_of r = decimal r.job ++ codes " " ++ decimal r.seq ++ codes " " ++ kind_word r.kind ++ codes " " ++ decimal r.count ++ codes "\n"

-- the line has the form of this report, whose numbers are of one to ten digits
pub record Spells (line : List ℕ) (r : Report) : Type 0 where
  pub job : r.job < 10 ^ 10
  pub seq : r.seq < 10 ^ 10
  pub count : r.count < 10 ^ 10
  pub bytes : line ≡ line_of r

-- what a line is read as: the report that it spells, where that is within the limits; the form comes before the limits
abbrev pub Reads : List ℕ → Result Report LineFault → Type 0
Reads line (Ok r) = Spells line r × IsReport r
Reads line (Err Syntax) = (r : Report) → Spells line r → ⊥
Reads line (Err Range) = (r : Report) × Spells line r × (IsReport r → ⊥)
