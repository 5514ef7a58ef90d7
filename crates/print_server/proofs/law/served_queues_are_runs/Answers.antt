use Rattle.http_front.specs.Turns.{most_requests}
use Rattle.print_server.proofs.RunLemmas.{connections_run, left_run}
use Rattle.print_server.proofs.law.served_queues_are_runs.Goals as goal

pub returns-clause-served : goal.returns-clause-served
returns-clause-served c = connections_run (λ now w u acted moment k. let r = c.connections_are_runs.ensures.worked most_requests now w u acted moment k in (r.0, r.2, r.3)) c.run_keeps.ensures.joined

pub returns-clause-crash : goal.returns-clause-crash
returns-clause-crash c = λ w u x counts are left.
    let served = connections_run (λ now w u acted moment k. let r = c.connections_are_runs.ensures.worked most_requests now w u acted moment k in (r.0, r.2, r.3)) c.run_keeps.ensures.joined w u counts are in
    left_run (λ now w u x turns moment turned more. let r = c.connections_are_runs.ensures.crash now w u x turns moment turned more in (r.0, r.1, r.3)) c.run_keeps.ensures.joined w counts u are x served left
