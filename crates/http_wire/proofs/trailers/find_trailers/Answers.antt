use Rattle.std.proofs.Common.{◌≡◌, ◌≤◌, arith, length, rules}
use Rattle.httparse.specs.Grammar.{HasNoSection, MayBecomeSection}
use Rattle.httparse.specs.Spans.{SectionOverflows, IsSectionOf}
use Rattle.http_head.specs.Reads.{come}
use Rattle.http_wire.specs.ChunkEnds.{HasWrongLines}
use Rattle.http_wire.proofs.LineLemmas.{trailers_found, trailers_refused, trailers_endless, trailers_wrong}
use Rattle.http_wire.proofs.trailers.find_trailers.Goals as goal

pub returns-in-Ok-Complete-clause-found : goal.returns-in-Ok-Complete-clause-found
returns-in-Ok-Complete-clause-found g c =
    let whole : IsSectionOf c.front.result.now 0 c.parse_headers.new.headers (c.in-Ok-Complete.len, c.in-Ok-Complete.field-0-0-1) = search rules in
    let room : length c.parse_headers.new.headers ≡ 64 = search rules in
    trailers_found (come c.fill.input) c.front.result.now c.parse_headers.new.headers c.args.bound.limit c.in-Ok-Complete.len c.in-Ok-Complete.field-0-0-1 (search rules) c.requires room whole

pub returns-in-Err-clause-ended : goal.returns-in-Err-clause-ended
returns-in-Err-clause-ended g c =
    let over : SectionOverflows 64 c.front.result.now = search rules in
    let wrong : HasWrongLines c.front.result.now = grind (arith, trailers_wrong, c.parse_headers.ensures.invalid, c.parse_headers.ensures.too_many) in
    trailers_refused _ _ (come c.fill.input) c.front.result.now c.args.bound c.fill.invariant.kept (search rules) over wrong

pub returns-then-bytes-bound-clause-ended : goal.returns-then-bytes-bound-clause-ended
returns-then-bytes-bound-clause-ended g c =
    let none : HasNoSection c.front.result.now = search rules in
    let may : MayBecomeSection c.front.result.now = search rules in
    let full : c.args.bound.limit ≤ length (come c.fill.input) = search rules in
    trailers_endless _ _ (come c.fill.input) c.front.result.now c.args.bound c.fill.invariant.kept full (search rules) none may
