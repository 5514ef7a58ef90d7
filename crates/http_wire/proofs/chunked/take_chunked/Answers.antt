use Rattle.std.proofs.Common.{IfSome, rules, subst}
use Rattle.std.proofs.lemmas.Result.{err_from_is_err_and}
use Rattle.http_head.specs.Reads.{bytes_left}
use Rattle.http_wire.specs.ChunkEnds.{EndsAtTrailers}
use Rattle.http_wire.specs.ChunkParts.{TakesToLast, TakesTrailers}
use Rattle.http_wire.specs.declared.chunk.Bound.{Bound}
use Rattle.http_wire.proofs.ChunkLemmas.{body_taken, ended_at_trailers}
use Rattle.http_wire.proofs.FaultLemmas.{ended_so}
use Rattle.http_wire.proofs.chunked.take_chunked.Goals as goal

pub returns-in_err-take_trailers-clause-ended : goal.returns-in_err-take_trailers-clause-ended
returns-in_err-take_trailers-clause-ended g c =
    let p = err_from_is_err_and c.from_residual-in_err-take_trailers.result c.from_residual-in_err-take_trailers.ensures.1 in
    let a = bytes_left g.R.Read c.args.input.now in
    let m = bytes_left g.R.Read c.take_chunks.new.input in
    let run : TakesToLast a m c.in_ok-raw.raw c.take_chunks.new.content.items = search rules in
    rw (p.1, p.2)
    (ended_so c.in_err-take_trailers.field-0.0 _ _
    (λ end h. ended_at_trailers a m c.in_ok-raw.raw c.take_chunks.new.content.items end run
    (subst (λ (x : Bound). IfSome m (λ xs. EndsAtTrailers x xs end)) c.bound_behind.ensures.value h)) c.in_err-take_trailers.ensures.ended)

pub returns-clause-taken : goal.returns-clause-taken
returns-clause-taken g c =
    let a = bytes_left g.R.Read c.args.input.now in
    let m = bytes_left g.R.Read c.take_chunks.new.input in
    let d = bytes_left g.R.Read c.take_trailers.new.input in
    let run : TakesToLast a m c.in_ok-raw.raw c.take_chunks.new.content.items = search rules in
    let trailers : TakesTrailers c.bound_behind.result.limit m d = search rules in
    body_taken a m d c.in_ok-raw.raw c.bound_behind.result.limit c.take_chunks.new.content.items run trailers (c.bound_behind.ensures.whole run.raw_fits)
