use Rattle.std.proofs.Common.{◌≡◌, ℕ, List, length}
use Rattle.std.specs.Io.KnownBytes.{Appends}
use Rattle.queue_core.specs.World.{World}
use Rattle.print_server.specs.Connections.{ServedOver}
use Rattle.print_server.specs.Lines.{served_lines}
use Rattle.print_server.specs.declared.serving.Standing.TheVariants.{Live}
use Rattle.print_server.proofs.serving.Service.serve_connections.Given as goal

abbrev pub invariant-loop-round : goal.invariant-loop-round
invariant-loop-round g l = record {
  began : g.B.QueueBook.is_honest l.book → g.B.QueueBook.is_honest l.initial.book;
  served : g.B.QueueBook.is_honest l.book → (w : World) → g.B.QueueBook.stands l.initial.book w → l.self.settings.now ≡ w.settings
      → (served : ServedOver g.B.QueueBook l.initial.book l.book w) × (length served.counts ≡ l._round)
      × Appends (g.O.Write.contents l.initial.out) (g.O.Write.contents l.out) (served_lines served.counts);
  printed : (counts : List ℕ) × (length counts ≡ l._round) × Appends (g.O.Write.contents l.initial.out) (g.O.Write.contents l.out) (served_lines counts);
  live : g.B.QueueBook.is_honest l.book → g.B.QueueBook.is_live l.initial.book → l.standing ≡ Live → g.B.QueueBook.is_live l.book;
}
