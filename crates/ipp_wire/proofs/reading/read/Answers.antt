use Rattle.std.proofs.Common.{◌≡◌, ◌≤◌, ◌++◌, List, ℕ, length, drop, subst, ap, arith, length-append}
use Rattle.std.proofs.lemmas.List.{take_rest}
use Rattle.ipp_wire.specs.Message.{head_bytes}
use Rattle.ipp_wire.specs.Reading.{GroupsStuck}
use Rattle.ipp_wire.proofs.Spelled.{stuck_behind}
use Rattle.ipp_wire.proofs.reading.read.Goals as goal

pub returns-in-Err-Stuck-clause-fault : goal.returns-in-Err-Stuck-clause-fault
returns-in-Err-Stuck-clause-fault c =
    let b = c.args.bytes.now in
    let h = c.in-Some.head in
    let told = rw c.in-Err-Stuck.field-0-is at c.in-Err-Stuck.ensures.stuck in
    let parts : b ≡ head_bytes h ++ drop 8 b = c.in-Some.ensures.spelled in
    let long : 8 ≤ length b = omega (arith, ap length parts, length-append (head_bytes h) (drop 8 b)) in
    let behind : GroupsStuck (drop 8 b) c.in-Err-Stuck.left = subst (λ (x : List ℕ). GroupsStuck x c.in-Err-Stuck.left) (take_rest b 8) told in
    rw c.in-Err-Stuck.field-0-is (stuck_behind b h c.in-Err-Stuck.left c.in-Some.ensures.fits long parts behind)
