use Rattle.std.proofs.Common.{◌+◌, ◌<◌, ◌≤◌, ◌⊎◌, IfSome, length, length-append, ap, subst, refl, arith, rules}
use Rattle.std.proofs.lemmas.Result.{err_from_is_err_and}
use Rattle.http_head.specs.Reads.{bytes_left}
use Rattle.http_head.specs.Limits.{content_limit, raw_limit}
use Rattle.http_wire.specs.ChunkEnds.{EndsAtLine}
use Rattle.http_wire.specs.ChunkParts.{TakesChunk, TakesLine}
use Rattle.http_wire.specs.Fault.{IfEnded}
use Rattle.http_wire.specs.declared.chunk.Bound.{Bound}
use Rattle.http_wire.proofs.ChunkLemmas.{chunks_none, chunks_more, ended_at_line, ended_too_large, ended_in_chunk}
use Rattle.http_wire.proofs.FaultLemmas.{ended_so}
use Rattle.http_wire.proofs.chunked.take_chunks.Goals as goal

pub chunks-init : goal.chunks-init
chunks-init g c = record {
  raw_fits = omega arith;
  content_fits = let e = ap length c.requires in omega (arith, e);
  chunks = chunks_none (bytes_left g.R.Read c.args.input.now) c.args.content.now.items c.requires;
  never_more = search rules;
}

pub returns-in_err-line-clause-ended : goal.returns-in_err-line-clause-ended
returns-in_err-line-clause-ended g c =
    let p = err_from_is_err_and c.from_residual.result c.from_residual.ensures.1 in
    let a = bytes_left g.R.Read c.args.input.now in
    let b = bytes_left g.R.Read c.chunks.input in
    let here : IfEnded c.in_err-line.field-0.0 (λ end. IfSome b (λ xs. EndsAtLine c.bound_behind.result xs end)) = c.in_err-line.ensures.ended in
    rw (p.1, p.2)
    (ended_so c.in_err-line.field-0.0 _ _
    (λ end h. ended_at_line a b c.chunks.raw c.chunks.content.items end c.chunks.invariant.chunks
    (subst (λ (x : Bound). IfSome b (λ xs. EndsAtLine x xs end)) c.bound_behind.ensures.value h)) here)

pub returns-then-is_too_large-clause-ended : goal.returns-then-is_too_large-clause-ended
returns-then-is_too_large-clause-ended g c =
    let b = bytes_left g.R.Read c.chunks.input in
    let r = bytes_left g.R.Read c.take_line.new.input in
    let line : TakesLine c.bound_behind.result.limit b r c.in_ok-line.line.len c.in_ok-line.line.size = search rules in
    let over : (content_limit < length c.chunks.content.items + c.in_ok-line.line.size) ⊎ (raw_limit < c.chunks.raw + c.in_ok-line.line.len + c.in_ok-line.line.size + 2) = search rules in
    ended_too_large (bytes_left g.R.Read c.args.input.now) b r c.bound_behind.result.limit c.chunks.raw c.in_ok-line.line.len c.in_ok-line.line.size c.chunks.content.items
    c.chunks.invariant.chunks line (search rules) over

pub returns-in_err-take_chunk-clause-ended : goal.returns-in_err-take_chunk-clause-ended
returns-in_err-take_chunk-clause-ended g c =
    let p = err_from_is_err_and c.from_residual-in_err-take_chunk.result c.from_residual-in_err-take_chunk.ensures.1 in
    let b = bytes_left g.R.Read c.chunks.input in
    let r = bytes_left g.R.Read c.take_line.new.input in
    let line : TakesLine c.bound_behind.result.limit b r c.in_ok-line.line.len c.in_ok-line.line.size = search rules in
    let some : 0 < c.in_ok-line.line.size = search rules in
    let room : length c.chunks.content.items + c.in_ok-line.line.size ≤ content_limit = search rules in
    let fits : c.chunks.raw + c.in_ok-line.line.len + c.in_ok-line.line.size + 2 ≤ raw_limit = search rules in
    rw (p.1, p.2)
    (ended_so c.in_err-take_chunk.field-0.0 _ _
    (λ end h. ended_in_chunk (bytes_left g.R.Read c.args.input.now) b r c.bound_behind.result.limit c.chunks.raw c.in_ok-line.line.len c.in_ok-line.line.size
    c.chunks.content.items end c.chunks.invariant.chunks line some room fits h) c.in_err-take_chunk.ensures.ended)

pub chunks-preserved : goal.chunks-preserved
chunks-preserved g c =
    let b = bytes_left g.R.Read c.chunks.input in
    let r = bytes_left g.R.Read c.take_line.new.input in
    let d = bytes_left g.R.Read c.take_chunk.new.input in
    let line : TakesLine c.bound_behind.result.limit b r c.in_ok-line.line.len c.in_ok-line.line.size = search rules in
    let taken : TakesChunk c.in_ok-line.line.size r d c.chunks.content.items c.take_chunk.new.content.items = search rules in
    let room : length c.chunks.content.items + c.in_ok-line.line.size ≤ content_limit = search rules in
    let fits : c.chunks.raw + c.in_ok-line.line.len + c.in_ok-line.line.size + 2 ≤ raw_limit = search rules in
    record {
      raw_fits = omega (arith, fits);
      content_fits = let e = ap length taken.after_is in let f = length-append c.chunks.content.items taken.more in omega (arith, e, f, taken.size_is, room);
      chunks = chunks_more (bytes_left g.R.Read c.args.input.now) b r d c.bound_behind.result.limit c.chunks.raw c.in_ok-line.line.len c.in_ok-line.line.size _
          c.chunks.content.items taken.more c.take_chunk.new.content.items c.chunks.invariant.chunks line (search rules) taken.size_is taken.after_is taken.taken room fits refl;
      never_more = omega (arith, c.chunks.invariant.never_more, c.in_ok-line.ensures.never_more, c.in_ok-take_chunk.ensures.never_more);
    }
