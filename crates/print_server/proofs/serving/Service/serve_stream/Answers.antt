use Rattle.std.proofs.Common.{inl, refl, sym, subst}
use Rattle.http_front.specs.Connections.{WorkedOver}
use Rattle.print_server.proofs.ConnectionLemmas.{worked_none}
use Rattle.print_server.proofs.serving.Service.serve_stream.Goals as goal

pub returns-in_default-clause-worked : goal.returns-in_default-clause-worked
returns-in_default-clause-worked g c = λ h w st set. (w, st, (worked_none c.args.now w, λ v left. (v, left, inl (refl, refl))))

pub returns-clause-worked : goal.returns-clause-worked
returns-clause-worked g c = λ h w st set.
    let u = c.serve-served.ensures.left h w st set in
    (u.0, u.1, subst (WorkedOver (g.B.QueueBook.crash_leaves c.args.book.now) (g.B.QueueBook.crash_leaves c.serve-served.new.book) c.args.now w u.0) (sym c.acted_of.ensures) u.2)

pub returns-clause-live : goal.returns-clause-live
returns-clause-live g c = λ h live none. c.serve-served.ensures.live h live (c.has_fault.ensures.0 none)
