use Rattle.print_server.proofs.ServedLemmas.{connected}
use Rattle.print_server.proofs.serving.Service.sweep_and_serve.Goals as goal

pub returns-then-is_err-clause-worked : goal.returns-then-is_err-clause-worked
returns-then-is_err-clause-worked g c = λ h w st set.
    connected g.B.QueueBook c.args.now c.serve_stream-outcome.result.acted c.sweep-swept.result c.requires set (c.sweep-swept.ensures.crash (c.serve_stream-outcome.ensures.began h) w st) (c.serve_stream-outcome.ensures.worked h)

pub returns-else-is_err-clause-worked : goal.returns-else-is_err-clause-worked
returns-else-is_err-clause-worked g c = λ h w st set.
    connected g.B.QueueBook c.args.now c.serve_stream-outcome.result.acted c.sweep-swept.result c.requires set (c.sweep-swept.ensures.crash (c.serve_stream-outcome.ensures.began h) w st) (c.serve_stream-outcome.ensures.worked h)
