use Rattle.std.proofs.Common.{arith}
use Rattle.std.proofs.lemmas.Result.{err_from_is_err_and}
use Rattle.print_server.proofs.ConnectionLemmas.{if_err, on_err}
use Rattle.print_server.proofs.ServedLemmas.{served_seen}
use Rattle.print_server.proofs.serving.Service.serve_next.Goals as goal

pub returns-in_err-outcome-clause-err : goal.returns-in_err-outcome-clause-err
returns-in_err-outcome-clause-err g c = λ h. on_err c.from_residual.result _ (c.in_err-outcome.ensures.err h)

pub returns-in_err-check_book-in-Unseen-clause-err : goal.returns-in_err-check_book-in-Unseen-clause-err
returns-in_err-check_book-in-Unseen-clause-err g c = λ h. on_err c.from_residual-in_err-check_book-in-Unseen.result _ (λ w st set.
    let s = c.in_ok-outcome.ensures.ok (c.check_book.ensures.began h) w st set in
    let one = s.1 in
    (served_seen c.check_book.ensures.kept (c.check_book.ensures.left h) s.0, omega (arith, one)))

pub returns-in_err-check_book-in-Unseen-clause-told : goal.returns-in_err-check_book-in-Unseen-clause-told
returns-in_err-check_book-in-Unseen-clause-told g c = λ h. if_err c.from_residual-in_err-check_book-in-Unseen.result _ (λ f e is w st set.
    let s = c.in_ok-outcome.ensures.ok (c.check_book.ensures.began h) w st set in
    (served_seen c.check_book.ensures.kept (c.check_book.ensures.left h) s.0, s.1, s.2))

pub returns-in_err-check_book-in-Unseen-clause-stopped : goal.returns-in_err-check_book-in-Unseen-clause-stopped
returns-in_err-check_book-in-Unseen-clause-stopped g c = if_err c.from_residual-in_err-check_book-in-Unseen.result _ (λ f e is. (c.in_ok-outcome.outcome.acted, c.in_ok-outcome.ensures.printed))

pub returns-in_err-check_book-in-Unseen-clause-damaged : goal.returns-in_err-check_book-in-Unseen-clause-damaged
returns-in_err-check_book-in-Unseen-clause-damaged g c = λ h.
    let p = err_from_is_err_and c.from_residual-in_err-check_book-in-Unseen.result c.from_residual-in_err-check_book-in-Unseen.ensures.1 in
    rw p.1 (λ is w st set.
    let s = c.in_ok-outcome.ensures.ok (c.check_book.ensures.began h) w st set in
    c.in_err-check_book-in-Unseen.ensures.damaged h (cc (p.2, is)) s.0.queue s.0.stands)

pub returns-in_ok-check_book-in-Unseen-clause-ok : goal.returns-in_ok-check_book-in-Unseen-clause-ok
returns-in_ok-check_book-in-Unseen-clause-ok g c = λ h w st set.
    let s = c.in_ok-outcome.ensures.ok (c.check_book.ensures.began h) w st set in
    (served_seen c.check_book.ensures.kept (c.check_book.ensures.left h) s.0, s.1, s.2)

pub returns-in_ok-check_book-in-Unseen-clause-printed : goal.returns-in_ok-check_book-in-Unseen-clause-printed
returns-in_ok-check_book-in-Unseen-clause-printed g c = (c.in_ok-outcome.outcome.acted, c.in_ok-outcome.ensures.printed)

pub returns-in-Live-clause-ok : goal.returns-in-Live-clause-ok
returns-in-Live-clause-ok g c = c.in_ok-outcome.ensures.ok

pub returns-in-Live-clause-printed : goal.returns-in-Live-clause-printed
returns-in-Live-clause-printed g c = (c.in_ok-outcome.outcome.acted, c.in_ok-outcome.ensures.printed)
