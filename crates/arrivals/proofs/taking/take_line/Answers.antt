use Rattle.std.proofs.Common.{Some, refl}
use Rattle.device_lines.specs.Reports.{Tells, is_fault_line}
use Rattle.arrivals.specs.Crash.{AsksAt, Carries}
use Rattle.arrivals.specs.declared.arrival.Arrived.TheVariants.{Line}
use Rattle.arrivals.specs.declared.arrival.Outcome.TheVariants.{Told}
use Rattle.arrivals.proofs.CrashLemmas.{carries_one}
use Rattle.arrivals.proofs.TakenLemmas.{line_taken}
use Rattle.arrivals.proofs.taking.take_line.Goals as goal

pub returns-clause-taken : goal.returns-clause-taken
returns-clause-taken g c = λ honest w s v.
    let a = c.report.ensures.crash honest w s in
    line_taken c.lines_are_events.ensures.within c.lines_are_events.ensures.done (g.B.QueueBook.stands c.report.new.book) (Carries (g.B.QueueBook.crash_leaves c.args.book.now) (g.B.QueueBook.crash_leaves c.report.new.book) (AsksAt c.args.now (Line c.args.line) (Told c.report.result)) w)
    c.args.now c.args.line c.report.result w a.0 (is_fault_line c.report.result) refl c.requires a.1 a.2
    (carries_one (g.B.QueueBook.crash_leaves c.args.book.now) (g.B.QueueBook.crash_leaves c.report.new.book) (λ e. Tells c.args.line.now (Some e)) _ c.args.now (Line c.args.line) (Told c.report.result) w a.0
    (λ e. c.lines_are_events.ensures.within c.args.line.now (Some e)) (λ e asks told stays. (asks, told, stays)) c.requires a.3) v
