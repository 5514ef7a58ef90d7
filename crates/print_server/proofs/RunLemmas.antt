-- Connections, one after another, as a run of the machine.
use Rattle.std.proofs.Common.{◌≡◌, ◌∙◌, ℕ, List, [], ◌∷◌, ◌++◌, Result, Ok, Err, Some, sym, ap, inl, inr}
use Rattle.queue_types.specs.Event.{expire}
use Rattle.queue_core.specs.Limits.{IsMoment}
use Rattle.queue_core.specs.Runs.{Place, run}
use Rattle.queue_core.specs.Sweep.{Sweeps}
use Rattle.queue_core.specs.World.{World}
use Rattle.queue_core.specs.declared.book.BookFault.{BookFault}
use Rattle.http_front.specs.Connections.{AreTurns, Worked}
use Rattle.http_front.specs.Crash.{IsAtMostOneMore as IsAtMostOneMoreIn}
use Rattle.http_front.specs.Turns.{Turn, most_requests}
use Rattle.http_front.proofs.PlaceLemmas.{each_append}
use Rattle.print_server.specs.Connections.{AreConnections, IsAtMostOneMore, IsRun}

-- one run behind another
run_on : ((w : World) (ps qs : List Place) → run w (ps ++ qs) ≡ run (run w ps) qs) → (w v u : World) → IsRun w v → IsRun v u → IsRun w u
run_on joined w v u front rest = (
  front.0 ++ rest.0,
  each_append front.0 rest.0 front.1 rest.1,
  rest.2 ∙ ap (λ (x : World). run x rest.0) front.2 ∙ sym (joined w front.0 rest.0),
)

-- a sweep is a place of its own, and none where it meets a fault
sweep_run : (w v : World) (now : ℕ) (r : Result ℕ BookFault) → IsMoment now → Sweeps w now v r → IsRun w v
sweep_run w v now (Ok n) moment s = (record { now = now; event = Some expire } ∷ [], ((moment, tt), tt), s.1)
sweep_run w v now (Err e) moment s = ([], tt, s)

pub connections_run : ((now : ℕ) (w u : World) (acted : ℕ) → IsMoment now → Worked most_requests now w u acted → IsRun w u)
    → ((w : World) (ps qs : List Place) → run w (ps ++ qs) ≡ run (run w ps) qs)
    → (w u : World) (counts : List ℕ) → AreConnections w counts u → IsRun w u
connections_run one joined w u [] are = ([], tt, are)
connections_run one joined w u (acted ∷ rest) are =
    let c = are.1 in
    let swept = sweep_run w c.swept c.now c.sweep c.moment c.sweeps in
    let served = run_on joined w c.swept are.0 swept (one c.now c.swept are.0 acted c.moment c.worked) in
    run_on joined w are.0 u served (connections_run one joined are.0 u rest are.2)

-- what a crash leaves behind connections is a run
left_places : ((now : ℕ) (w u x : World) (turns : List Turn) → IsMoment now → AreTurns now w turns → IsAtMostOneMoreIn now w turns u x → IsRun u x)
    → (w : World) (counts : List ℕ) (u : World) (are : AreConnections w counts u) (x : World) → IsAtMostOneMore w counts u are x → IsRun u x
left_places one w [] u are x is = ([], tt, is)
left_places one w (n ∷ rest) u are x (inl (inl h)) = (record { now = are.1.now; event = Some expire } ∷ [], ((are.1.moment, tt), tt), h.2)
left_places one w (n ∷ rest) u are x (inl (inr h)) = one are.1.now are.1.swept u x are.1.worked.turns are.1.moment are.1.worked.are h
left_places one w (n ∷ rest) u are x (inr h) = left_places one are.0 rest u are.2 x h

pub left_run : ((now : ℕ) (w u x : World) (turns : List Turn) → IsMoment now → AreTurns now w turns → IsAtMostOneMoreIn now w turns u x → IsRun u x)
    → ((w : World) (ps qs : List Place) → run w (ps ++ qs) ≡ run (run w ps) qs)
    → (w : World) (counts : List ℕ) (u : World) (are : AreConnections w counts u) (x : World) → IsRun w u → IsAtMostOneMore w counts u are x → IsRun w x
left_run one joined w counts u are x served left = run_on joined w u x served (left_places one w counts u are x left)
