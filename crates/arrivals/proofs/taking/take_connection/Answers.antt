use Rattle.arrivals.proofs.CrashLemmas.{carries_broken, carries_served}
use Rattle.arrivals.proofs.taking.take_connection.Goals as goal

pub returns-in-Ok-clause-taken : goal.returns-in-Ok-clause-taken
returns-in-Ok-clause-taken g c = λ honest w s set.
    let a = c.in-Ok.ensures.served honest w s set in
    let p = c.connections_are_runs.ensures.served c.args.now w a.0 c.args.stream.now a.2.written c.in-Ok.served.acted c.in-Ok.served.faults c.in-Ok.served.end c.requires a.2.answers in record {
      after = a.0;
      stands_after = a.1;
      written = a.2.written;
      appended = a.2.appended;
      places = p.0;
      are = p.2;
      run_is = p.3;
      comes = (a.2.answers, p.1);
      is_left = carries_served c.connections_are_runs.ensures.events (g.B.QueueBook.crash_leaves c.args.book.now) (g.B.QueueBook.crash_leaves c.serve.new.book) c.args.now c.args.stream a.2.written w a.0
          c.in-Ok.served c.requires a.2.answers a.2.carries;
    }

pub returns-in-Err-clause-taken : goal.returns-in-Err-clause-taken
returns-in-Err-clause-taken g c = λ honest w s set.
    let a = c.in-Err.ensures.broken honest w s set in
    let p = c.connections_are_runs.ensures.broken c.args.now w a.0 c.args.stream.now a.2.written c.in-Err.fault.acted c.in-Err.fault.faults c.requires a.2.breaks in record {
      after = a.0;
      stands_after = a.1;
      written = a.2.written;
      appended = a.2.appended;
      places = p.0;
      are = p.2;
      run_is = p.3;
      comes = (a.2.breaks, p.1);
      is_left = carries_broken c.connections_are_runs.ensures.events (g.B.QueueBook.crash_leaves c.args.book.now) (g.B.QueueBook.crash_leaves c.serve.new.book) c.args.now c.args.stream a.2.written w a.0
          c.in-Err.fault c.requires a.2.breaks a.2.carries;
    }
