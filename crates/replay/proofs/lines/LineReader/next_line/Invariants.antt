use Rattle.std.proofs.Common.{◌-◌, ◌≤◌, List, ℕ}
use Rattle.std.specs.Io.KnownBytes.{Consumes, Keeps}
use Rattle.replay.specs.Line.{IsFrontOf, IsOneLine}
use Rattle.replay.specs.Unread.{left}
use Rattle.replay.proofs.lines.LineReader.next_line.Given as goal

abbrev pub invariant-pieces : goal.invariant-pieces
invariant-pieces g l = (bytes : List ℕ) × IsOneLine bytes × IsFrontOf bytes l.line
    × Consumes (left l.fn.self (g.R.Read.remaining l.fn.input)) (left l.self (g.R.Read.remaining l.input)) bytes
    × (l.fn.self.reads ≤ l.self.reads)
    × Keeps (g.W.Write.contents l.fn.tied) (g.W.Write.contents l.tied)

abbrev pub decreases-pieces : goal.decreases-pieces
decreases-pieces g l = 4294967295 - l.self.reads
