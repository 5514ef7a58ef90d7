use Rattle.std.proofs.Common.{◌+◌, ◌++◌, slice_range, ap, ◌∙◌}
use Rattle.http_head.proofs.LeftLemmas.{fill_keeps, packed_alone, packed_and_read, packed_front}
use Rattle.http_head.proofs.buffer.Buffer.fill.Goals as goal

pub returns-clause-kept : goal.returns-clause-kept
returns-clause-kept g c =
    let at = c.pack-self-inside.result in
    let n = c.in_ok-n.n in
    let got = slice_range c.read_at.new.bytes at (at + n) in
    fill_keeps _ _ c.args.self.now _ got c.in_ok-n.ensures.got
    (packed_and_read c.self.inside.bytes c.pack-self-inside.new.bytes c.read_at.new.bytes c.self.inside.start c.self.inside.end at n c.pack-self-inside.ensures.front c.read_at.ensures.kept
    ∙ ap (λ l. l ++ got) c.self.view_is)

pub returns-clause-front : goal.returns-clause-front
returns-clause-front g c =
    packed_front c.self.inside.bytes c.pack-self-inside.new.bytes c.read_at.new.bytes c.args.self.now c.self.inside.start c.self.inside.end c.pack-self-inside.result c.in_ok-n.n
    c.pack-self-inside.ensures.front c.read_at.ensures.kept c.self.view_is

pub returns-in_err-n-clause-front : goal.returns-in_err-n-clause-front
returns-in_err-n-clause-front g c =
    packed_alone c.self.inside.bytes c.pack-self-inside.new.bytes c.read_at.new.bytes c.args.self.now c.self.inside.start c.self.inside.end c.pack-self-inside.result
    c.pack-self-inside.ensures.front c.read_at.ensures.kept c.self.view_is
