use Rattle.std.proofs.Common.{Option, ℕ, List, ap, subst, IfErr, IfOk, IfSome}
use Rattle.http_head.specs.Reads.{come}
use Rattle.http_head.specs.Routes.{routes}
use Rattle.http_front.specs.Books.{ComesTo}
use Rattle.http_front.specs.Connections.{IsServed, IsStopped}
use Rattle.http_front.proofs.CrashLemmas.{left_one}
use Rattle.http_front.proofs.RunLemmas.{left_at_first, router_of}
use Rattle.http_front.proofs.connection.serve.Goals as goal

pub run-requires-clause-router : goal.run-requires-clause-router
run-requires-clause-router g c = λ x e. router_of c.router.result c.ok-table.result c.as_ref.result x routes c.router.ensures.routes c.ok-table.ensures.value c.as_ref.ensures.value e

pub returns-clause-served : goal.returns-clause-served
returns-clause-served g c =
    subst (λ (r : Option (List ℕ)). IfOk c.run.result (λ z. ComesTo g.B.QueueBook c.args.book.now c.run.new.book c.args.settings.now (λ w u.
    IfSome r (IsServed (g.B.QueueBook.crash_leaves c.args.book.now) (g.B.QueueBook.crash_leaves c.run.new.book) c.args.now w u (g.W.Write.contents c.args.writer.now) (g.W.Write.contents c.run.new.writer) z))))
    (left_at_first (come c.new-input.result) _ (g.R.Read.remaining c.args.reader.now) c.new-input.ensures.empty (ap (λ p. g.R.Read.remaining p.now) c.new-input.ensures.reader)) c.run.ensures.served

pub returns-clause-broken : goal.returns-clause-broken
returns-clause-broken g c =
    subst (λ (r : Option (List ℕ)). IfErr c.run.result (λ z. ComesTo g.B.QueueBook c.args.book.now c.run.new.book c.args.settings.now (λ w u.
    IfSome r (IsStopped (g.B.QueueBook.crash_leaves c.args.book.now) (g.B.QueueBook.crash_leaves c.run.new.book) c.args.now w u (g.W.Write.contents c.args.writer.now) (g.W.Write.contents c.run.new.writer) z))))
    (left_at_first (come c.new-input.result) _ (g.R.Read.remaining c.args.reader.now) c.new-input.ensures.empty (ap (λ p. g.R.Read.remaining p.now) c.new-input.ensures.reader)) c.run.ensures.broken

pub returns-clause-worked : goal.returns-clause-worked
returns-clause-worked g c = λ h w st set. let r = c.run.ensures.worked h w st set in (r.0, r.1, (r.2.0, r.2.2))

pub returns-clause-left : goal.returns-clause-left
returns-clause-left g c = λ h w st set. let r = c.run.ensures.worked h w st set in (r.0, r.1, (r.2.0, r.2.1))

pub returns-clause-crash : goal.returns-clause-crash
returns-clause-crash g c = λ live h w st set.
    let r = c.run.ensures.worked h w st set in
    let l = r.2.1 w (g.met.B.QueueBook.lasts c.args.book.now w w (c.run.ensures.began h) live st) in
    (r.0, r.1, (r.2.0, l.0, l.1, left_one c.args.now r.2.0.turns w r.0 l.0 l.2))
