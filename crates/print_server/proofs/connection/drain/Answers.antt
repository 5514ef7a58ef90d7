use Rattle.std.proofs.Common.{◌≡◌, ◌+◌, ◌*◌, ◌≤◌, ◌++◌, ℕ, List, Option, Result, Ok, Err, length, take, arith, length-append}
use Rattle.std.specs.Io.{ReadsAtMost}
use Rattle.std.specs.Io.KnownBytes.{Consumes, ReadConsumes}
use Rattle.std.proofs.KnownBytes.{Consumes-kept, Consumes-trans}
use Rattle.print_server.proofs.connection.drain.Goals as goal

-- one read more
passed_on : {E : Type 0} (x y z : Option (List ℕ)) (r : Result ℕ E) (room : List ℕ) (k : ℕ) → ReadsAtMost r room → ReadConsumes y z r room → length room ≡ 65536
    → (passed : List ℕ) × Consumes x y passed × (length passed ≤ k * 65536) → (passed : List ℕ) × Consumes x z passed × (length passed ≤ (k + 1) * 65536)
passed_on x y z (Ok n) room k bound bytes has before =
    let more = length-append before.0 (take n room) in
    let few = before.2 in
    let most = bound.0 in
    let taken = bound.1 in
    (before.0 ++ take n room, Consumes-trans x y z before.0 (take n room) before.1 bytes.0, omega (arith, more, few, most, taken))
passed_on x y z (Err e) room k bound bytes has before =
    let few = before.2 in
    (before.0, Consumes-kept x y z before.0 before.1 bytes, omega (arith, few))

pub loop-round-preserved : goal.loop-round-preserved
loop-round-preserved g c = passed_on _ _ _ c.read.result c.read.new.buf c.loop-round._round c.read.ensures.bound c.read.ensures.bytes (omega arith) c.loop-round.invariant
