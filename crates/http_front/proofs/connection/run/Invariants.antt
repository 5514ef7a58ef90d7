use Rattle.std.proofs.Common.{◌-◌, ◌^◌, ◌<◌, ◌≤◌, ◌≡◌}
use Rattle.http_head.specs.Reads.{bytes_left, reads_left}
use Rattle.http_front.specs.Books.{ComesTo}
use Rattle.http_front.specs.Crash.{CarriesAll}
use Rattle.http_front.specs.Framed.{AreAnswered}
use Rattle.http_front.specs.Turns.{last_request, most_requests}
use Rattle.http_front.proofs.Runs.{RanOn}
use Rattle.http_front.proofs.connection.run.Given as goal

abbrev pub invariant-turns : goal.invariant-turns
invariant-turns g l = record {
  few : l.k ≤ last_request;
  acted_few : l.acted ≤ l.k;
  below : l.faults < 2 ^ l.k;
  never_more : reads_left l.input ≤ reads_left l.initial.input;
  began : g.B.QueueBook.is_honest l.book → g.B.QueueBook.is_honest l.initial.book;
  live : g.B.QueueBook.is_honest l.book → g.B.QueueBook.is_live l.initial.book → l.faults ≡ 0 → g.B.QueueBook.is_live l.book;
  ran : ComesTo g.B.QueueBook l.initial.book l.book l.context.settings.now (λ w u.
      (so_far : RanOn l.k l.context.now w u (bytes_left g.R.Read l.initial.input) (bytes_left g.R.Read l.input)
      (g.W.Write.contents l.initial.writer) (g.W.Write.contents l.writer) l.acted l.faults)
      × CarriesAll (g.B.QueueBook.crash_leaves l.initial.book) (g.B.QueueBook.crash_leaves l.book) l.context.now so_far.run.turns w u);
  answered : AreAnswered (g.W.Write.contents l.initial.writer) (g.W.Write.contents l.writer);
}

abbrev pub decreases-turns : goal.decreases-turns
decreases-turns g l = most_requests - l.k
