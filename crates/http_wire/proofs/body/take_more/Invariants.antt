use Rattle.std.proofs.Common.{◌≡◌, ◌+◌, ◌-◌, ◌≤◌, length}
use Rattle.http_head.specs.Reads.{MakesNoRead, bytes_left, come, reads_left}
use Rattle.http_wire.specs.Bodies.{TakesMore}
use Rattle.http_wire.proofs.body.take_more.Given as goal

abbrev pub invariant-take : goal.invariant-take
invariant-take g l = record {
  within : l.taken ≤ l.n;
  more : TakesMore l.taken (bytes_left g.R.Read l.initial.input) (bytes_left g.R.Read l.input) l.initial.content.items l.content.items;
  never_more : reads_left l.input ≤ reads_left l.initial.input;
  unread : l.n ≤ length (come l.initial.input) → MakesNoRead l.initial.input l.input × (length (come l.input) + l.taken ≡ length (come l.initial.input));
}

abbrev pub decreases-take : goal.decreases-take
decreases-take g l = l.n - l.taken
