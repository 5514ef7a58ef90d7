use Rattle.std.proofs.Common.{Some}
use Rattle.grants_csv.specs.Import.{Asks}
use Rattle.arrivals.specs.Crash.{AsksAt, Carries}
use Rattle.arrivals.specs.declared.arrival.Arrived.TheVariants.{AccountFile}
use Rattle.arrivals.specs.declared.arrival.Outcome.TheVariants.{Imported, Refused}
use Rattle.arrivals.proofs.CrashLemmas.{carries_one}
use Rattle.arrivals.proofs.TakenLemmas.{file_refused, file_taken}
use Rattle.arrivals.proofs.taking.take_file.Goals as goal

pub returns-in-Ok-clause-taken : goal.returns-in-Ok-clause-taken
returns-in-Ok-clause-taken g c = λ honest w s v.
    let a = c.in-Ok.ensures.crash honest w s in
    file_taken (g.B.QueueBook.stands c.import.new.book) (Carries (g.B.QueueBook.crash_leaves c.args.book.now) (g.B.QueueBook.crash_leaves c.import.new.book) (AsksAt c.args.now (AccountFile c.args.file) (Imported c.in-Ok.imported)) w)
    c.args.now c.args.file c.in-Ok.imported w a.0 c.requires c.in-Ok.ensures.event a.1 a.2
    (carries_one (g.B.QueueBook.crash_leaves c.args.book.now) (g.B.QueueBook.crash_leaves c.import.new.book) (λ e. Asks c.args.file.now (Some e)) _ c.args.now (AccountFile c.args.file) (Imported c.in-Ok.imported) w a.0
    (λ e. c.files_are_events.ensures c.args.file.now (Some e)) (λ e asks told stays. absurd (cc)) c.requires a.3) v

pub returns-in-Err-clause-taken : goal.returns-in-Err-clause-taken
returns-in-Err-clause-taken g c = λ honest w s v.
    let a = c.in-Err.ensures.crash honest w s in
    file_refused (g.B.QueueBook.stands c.import.new.book) (Carries (g.B.QueueBook.crash_leaves c.args.book.now) (g.B.QueueBook.crash_leaves c.import.new.book) (AsksAt c.args.now (AccountFile c.args.file) (Refused c.in-Err.fault)) w)
    c.args.now c.args.file c.in-Err.fault w a.0 c.requires a.1 a.2
    (carries_one (g.B.QueueBook.crash_leaves c.args.book.now) (g.B.QueueBook.crash_leaves c.import.new.book) (λ e. Asks c.args.file.now (Some e)) _ c.args.now (AccountFile c.args.file) (Refused c.in-Err.fault) w a.0
    (λ e. c.files_are_events.ensures c.args.file.now (Some e)) (λ e asks told stays. (asks, cc, stays)) c.requires a.3) v
