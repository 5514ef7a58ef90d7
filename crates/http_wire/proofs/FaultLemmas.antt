-- How a connection ends, told of another part.
use Rattle.std.proofs.Common.{Ok, Err, IfErr}
use Rattle.std.specs.Prelude.{Result}
use Rattle.http_head.specs.declared.end.Finish.{Finish}
use Rattle.http_wire.specs.Fault.{IfEnded}
use Rattle.http_wire.specs.declared.fault.BodyFault.{BodyFault}
use Rattle.http_wire.specs.declared.fault.BodyFault.TheVariants.{Ended}

pub ended_so : (f : BodyFault) (P Q : Finish → Type 0) → ((end : Finish) → P end → Q end) → IfEnded f P → IfEnded f Q
ended_so (Ended end) P Q to h = to end h
ended_so _ P Q to h = tt

pub ended_result : (A : Type 0) (r : Result A BodyFault) (P Q : Finish → Type 0) → ((end : Finish) → P end → Q end) → IfErr r (λ f. IfEnded f P) → IfErr r (λ f. IfEnded f Q)
ended_result A (Ok v) P Q to h = tt
ended_result A (Err f) P Q to h = ended_so f P Q to h
