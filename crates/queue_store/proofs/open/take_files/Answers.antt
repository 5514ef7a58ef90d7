use Rattle.std.proofs.Common.{arith}
use Rattle.std.proofs.Math.Logic.{∥∥₁_map}
use Rattle.queue_store.proofs.Closing.{clean_store, image_holds}
use Rattle.queue_store.proofs.open.take_files.Goals as goal

pub returns-clause-clean : goal.returns-clause-clean
returns-clause-clean g c clean =
    let sure = clean_store c.into_store.result c.close.result.log c.close.result.db c.close.ensures clean in
    omega (arith, sure, c.into_store.ensures.quiet.clean)

pub returns-clause-left : goal.returns-clause-left
returns-clause-left g c clean = λ image may.
    let it = c.into_store.result in
    let sure = clean_store it c.close.result.log c.close.result.db c.close.ensures clean in
    ∥∥₁_map (image_holds it c.close.result.log c.close.result.db c.close.ensures clean (c.into_store.ensures.numbered sure) (c.into_store.ensures.sound sure) image may)
    (λ found. (found.0, c.into_store.ensures.quiet.outcomes found.0 found.1, found.2))
