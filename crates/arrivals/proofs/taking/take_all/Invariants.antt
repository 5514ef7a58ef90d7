use Rattle.std.proofs.Common.{◌≡◌, ◌≤◌, length, take}
use Rattle.std.specs.List.{AllByRecursion}
use Rattle.std.specs.Prelude.{vec_capacity}
use Rattle.queue_core.specs.World.{World}
use Rattle.arrivals.specs.Taken.{IsFaultless}
use Rattle.arrivals.proofs.HistoryLemmas.{AreTakenOver}
use Rattle.arrivals.proofs.taking.take_all.Given as goal

-- those before the index are taken, and there is room for the outcomes of all
abbrev pub invariant-loop-arrival : goal.invariant-loop-arrival
invariant-loop-arrival g l = record {
  began : g.B.QueueBook.is_honest l.book → g.B.QueueBook.is_honest l.fn.book;
  count : length l.outcomes.items ≡ l.arrival-index;
  room : length l.arrivals ≤ vec_capacity l.outcomes;
  live : g.B.QueueBook.is_honest l.book → g.B.QueueBook.is_live l.fn.book → AllByRecursion IsFaultless l.outcomes.items → g.B.QueueBook.is_live l.book;
  taken : g.B.QueueBook.is_honest l.book → (w : World) → g.B.QueueBook.stands l.fn.book w → l.fn.settings ≡ w.settings
      → AreTakenOver g.B.QueueBook l.fn.book l.book w (take l.arrival-index l.arrivals) l.outcomes.items (g.W.Write.contents l.fn.writer) (g.W.Write.contents l.writer);
}
