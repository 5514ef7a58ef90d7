use Rattle.std.proofs.Common.{rules}
use Rattle.http_head.specs.Reads.{bytes_left}
use Rattle.http_wire.specs.Bodies.{TakesMore}
use Rattle.http_wire.proofs.ChunkLemmas.{chunk_end}
use Rattle.http_wire.proofs.FaultLemmas.{ended_result}
use Rattle.http_wire.proofs.chunk.take_chunk.Goals as goal

pub returns-clause-ended : goal.returns-clause-ended
returns-clause-ended g c =
    let a = bytes_left g.R.Read c.args.input.now in
    let b = bytes_left g.R.Read c.take_more.new.input in
    let more : TakesMore c.args.size a b c.args.content.now.items c.take_more.new.content.items = search rules in
    ended_result _ c.take_line_end.result _ _ (λ end h. chunk_end a b c.args.size more.more end more.taken more.size h) c.take_line_end.ensures.ended
