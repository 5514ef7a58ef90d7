use Rattle.std.proofs.Common.{subst, sym}
use Rattle.arrivals.specs.Books.{IsTakenOver}
use Rattle.arrivals.specs.declared.arrival.Arrived.{Arrived}
use Rattle.arrivals.proofs.taking.take.Goals as goal

pub returns-in-Connection-clause-taken : goal.returns-in-Connection-clause-taken
returns-in-Connection-clause-taken g c = λ honest w s set.
    subst (λ (x : Arrived). IsTakenOver g.B.QueueBook c.args.book.now c.take_connection.new.book w c.args.arrival.moment x c.take_connection.result
    (g.W.Write.contents c.args.writer.now) (g.W.Write.contents c.take_connection.new.writer)) (sym c.in-Connection.is) (c.take_connection.ensures.taken honest w s set)

pub returns-in-Line-clause-taken : goal.returns-in-Line-clause-taken
returns-in-Line-clause-taken g c = λ honest w s set.
    subst (λ (x : Arrived). IsTakenOver g.B.QueueBook c.args.book.now c.take_line.new.book w c.args.arrival.moment x c.take_line.result
    (g.W.Write.contents c.args.writer.now) (g.W.Write.contents c.args.writer.now)) (sym c.in-Line.is) (c.take_line.ensures.taken honest w s (g.W.Write.contents c.args.writer.now))

pub returns-in-AccountFile-clause-taken : goal.returns-in-AccountFile-clause-taken
returns-in-AccountFile-clause-taken g c = λ honest w s set.
    subst (λ (x : Arrived). IsTakenOver g.B.QueueBook c.args.book.now c.take_file.new.book w c.args.arrival.moment x c.take_file.result
    (g.W.Write.contents c.args.writer.now) (g.W.Write.contents c.args.writer.now)) (sym c.in-AccountFile.is) (c.take_file.ensures.taken honest w s (g.W.Write.contents c.args.writer.now))

pub returns-in-Sweep-clause-taken : goal.returns-in-Sweep-clause-taken
returns-in-Sweep-clause-taken g c = λ honest w s set.
    subst (λ (x : Arrived). IsTakenOver g.B.QueueBook c.args.book.now c.take_sweep.new.book w c.args.arrival.moment x c.take_sweep.result
    (g.W.Write.contents c.args.writer.now) (g.W.Write.contents c.args.writer.now)) (sym c.in-Sweep.is) (c.take_sweep.ensures.taken honest w s (g.W.Write.contents c.args.writer.now))
