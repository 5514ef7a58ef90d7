use Rattle.std.proofs.Common.{◌++◌}
use Rattle.http_front.proofs.CrashLemmas.{left_places, turn_event, turns_event}
use Rattle.http_front.proofs.PlaceLemmas.{served_places}
use Rattle.http_front.proofs.law.connections_are_runs.Goals as goal

pub returns-clause-served : goal.returns-clause-served
returns-clause-served c = λ now w u stream written acted faults end moment a.
    served_places (c.calls_are_events.ensures.within, c.lines_are_events.ensures.within) (c.calls_are_events.ensures.done, c.lines_are_events.ensures.done) now w u a.turns moment a.are a.world

pub returns-clause-broken : goal.returns-clause-broken
returns-clause-broken c = λ now w u stream written acted faults moment b.
    served_places (c.calls_are_events.ensures.within, c.lines_are_events.ensures.within) (c.calls_are_events.ensures.done, c.lines_are_events.ensures.done) now w u (b.turns ++ b.broken) moment b.are b.world

pub returns-clause-worked : goal.returns-clause-worked
returns-clause-worked c = λ most now w u acted moment k.
    served_places (c.calls_are_events.ensures.within, c.lines_are_events.ensures.within) (c.calls_are_events.ensures.done, c.lines_are_events.ensures.done) now w u k.turns moment k.are k.world

pub returns-clause-asked : goal.returns-clause-asked
returns-clause-asked c = turn_event (c.calls_are_events.ensures.within, c.lines_are_events.ensures.within)

pub returns-clause-events : goal.returns-clause-events
returns-clause-events c = turns_event (c.calls_are_events.ensures.within, c.lines_are_events.ensures.within)

pub returns-clause-crash : goal.returns-clause-crash
returns-clause-crash c = left_places (c.calls_are_events.ensures.within, c.lines_are_events.ensures.within)
