use Rattle.std.proofs.Common.{◌≡◌, ◌+◌, List, ℕ}
use Rattle.std.specs.Io.KnownBytes.{Appends}
use Rattle.queue_core.specs.Limits.{IsMoment}
use Rattle.queue_core.specs.World.{World}
use Rattle.replay.specs.Replay.{Taken}
use Rattle.replay.specs.Session.{state}
use Rattle.replay.specs.Unread.{left}
use Rattle.replay.proofs.replaying.answer_lines.Given as goal

-- the lines before this one are taken and answered
abbrev pub invariant-loop-number : goal.invariant-loop-number
invariant-loop-number g l = record {
  began : g.B.QueueBook.is_honest l.book → g.B.QueueBook.is_honest l.fn.book;
  moment : IsMoment l.now;
  taken : g.B.QueueBook.is_honest l.book → (w : World) → g.B.QueueBook.stands l.fn.book w → l.first.settings.now ≡ w.settings
      → (u : World) × (count : ℕ) × (text : List ℕ) × (count + 1 ≡ l.number)
      × Taken (left l.fn.lines (g.R.Read.remaining l.fn.input)) (state l.first.now w) count text (left l.lines (g.R.Read.remaining l.input)) (state l.now u)
      × g.B.QueueBook.stands l.book u × (l.first.settings.now ≡ u.settings) × Appends (g.W.Write.contents l.fn.output) (g.W.Write.contents l.output) text;
}
