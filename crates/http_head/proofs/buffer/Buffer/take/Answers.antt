use Rattle.std.proofs.Common.{◌+◌, ◌≤◌, length, drop, arith, ap, ◌∙◌}
use Rattle.http_head.proofs.LeftLemmas.{range_drop, range_length}
use Rattle.http_head.proofs.buffer.Buffer.take.Goals as goal

pub returns : goal.returns
returns c =
    let e = range_length c.self.inside.bytes c.self.inside.start c.self.inside.end in
    let small : c.self.inside.start + c.args.n ≤ c.self.inside.end = omega (arith, e, ap length c.self.view_is, c.self.invariant, c.requires) in
    range_drop _ c.self.inside.start c.self.inside.end c.args.n small ∙ ap (drop c.args.n) c.self.view_is
