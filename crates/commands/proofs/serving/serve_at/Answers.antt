use Rattle.std.proofs.Common.{inl, inr}
use Rattle.commands.proofs.CrashLemmas.{served_over}
use Rattle.commands.proofs.FaultLemmas.{of_damaged_server, of_server, stopped_by}
use Rattle.commands.proofs.serving.serve_at.Goals as goal

pub returns-in-Err-clause-damaged : goal.returns-in-Err-clause-damaged
returns-in-Err-clause-damaged g c = λ honest is.
    let never = of_damaged_server _ _ c.fault_of_server.ensures.book (λ error at. (c.fault_of_server.ensures.stream error at).0) is in
    c.in-Err.ensures.damaged honest never

pub returns-in-Err-clause-told : goal.returns-in-Err-clause-told
returns-in-Err-clause-told g c = of_server _ _ c.fault_of_server.ensures.book (λ error at. (c.fault_of_server.ensures.stream error at).0)

pub returns-in-Err-clause-stopped : goal.returns-in-Err-clause-stopped
returns-in-Err-clause-stopped g c = elim (stopped_by c.in-Err.stopped c.fault_of_server.result (λ error at. (c.fault_of_server.ensures.stream error at).0)) [
  | inl stream ↦ inl stream
  | inr book ↦ inr (c.in-Err.ensures.stopped book.0 book.1)
]

pub returns-in-Ok-clause-served : goal.returns-in-Ok-clause-served
returns-in-Ok-clause-served g c = λ honest w stands same.
    let it = c.in-Ok.ensures.ok honest w stands same in (
      served_over g.S.Store g.met.S.Store.settled c.args.book.now c.serve_connections.new.book w (c.serve_connections.ensures.began honest) stands it.0.counts it.0.queue it.0.are it.0.stands it.0.carries,
      (it.1, it.2),
    )

pub returns-in-Err-clause-err : goal.returns-in-Err-clause-err
returns-in-Err-clause-err g c = λ honest w stands same.
    elim (stopped_by c.in-Err.stopped c.fault_of_server.result (λ error at. (c.fault_of_server.ensures.stream error at).0)) [
      | inl stream ↦
          let it = c.in-Err.ensures.err honest w stands same in (
            served_over g.S.Store g.met.S.Store.settled c.args.book.now c.serve_connections.new.book w (c.serve_connections.ensures.began honest) stands it.0.counts it.0.queue it.0.are it.0.stands it.0.carries,
            (it.1, inl stream),
          )
      | inr book ↦
          let it = c.in-Err.ensures.told honest book.0 book.1 w stands same in (
            served_over g.S.Store g.met.S.Store.settled c.args.book.now c.serve_connections.new.book w (c.serve_connections.ensures.began honest) stands it.0.counts it.0.queue it.0.are it.0.stands it.0.carries,
            (it.1, inr it.2),
          )
    ]
