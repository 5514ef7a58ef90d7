-- Why a body is not there.
use Rattle.std.specs.Prelude.{⊤}
use Rattle.http_head.specs.declared.end.Finish.{Finish}
use Rattle.http_wire.specs.declared.fault.BodyFault.{BodyFault}
use Rattle.http_wire.specs.declared.fault.BodyFault.TheVariants.{Ended, Read, Memory}

-- where the connection ends, this holds of how it ends; nothing is said of failed reads and want of memory
abbrev pub IfEnded : BodyFault → (Finish → Type 0) → Type 0
IfEnded (Ended end) P = P end
IfEnded Read P = ⊤
IfEnded Memory P = ⊤
