use Rattle.std.proofs.Common.{◌≤◌, length, rules}
use Rattle.httparse.specs.Grammar.{HasNoChunkLine, MayBecomeChunkLine}
use Rattle.http_head.specs.Reads.{come}
use Rattle.http_wire.proofs.LineLemmas.{line_found, line_never, line_endless}
use Rattle.http_wire.proofs.chunk.find_line.Goals as goal

pub returns-in-Ok-Complete-clause-found : goal.returns-in-Ok-Complete-clause-found
returns-in-Ok-Complete-clause-found g c = line_found (come c.fill.input) c.front.result.now c.args.bound.limit c.in-Ok-Complete.len c.in-Ok-Complete.size (search rules) (search rules)

pub returns-in-Err-clause-ended : goal.returns-in-Err-clause-ended
returns-in-Err-clause-ended g c = line_never _ _ (come c.fill.input) c.front.result.now c.args.bound c.fill.invariant.kept (search rules) c.in-Err.ensures.invalid

pub returns-then-bytes-bound-clause-ended : goal.returns-then-bytes-bound-clause-ended
returns-then-bytes-bound-clause-ended g c =
    let none : HasNoChunkLine c.front.result.now = search rules in
    let may : MayBecomeChunkLine c.front.result.now = search rules in
    let full : c.args.bound.limit ≤ length (come c.fill.input) = search rules in
    line_endless _ _ (come c.fill.input) c.front.result.now c.args.bound c.fill.invariant.kept full (search rules) none may
