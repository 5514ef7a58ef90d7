use Rattle.std.proofs.Common.{[], ◌∷◌, ◌++◌, ◌∙◌, Ok, ap, refl, sym, arith, length-append}
use Rattle.std.proofs.KnownBytes.{Appends-nil}
use Rattle.std.proofs.lemmas.Result.{err_from_is_err_and}
use Rattle.print_server.proofs.ConnectionLemmas.{on_err, told_on, told_one}
use Rattle.print_server.proofs.ServedLemmas.{served_left, served_none, served_on, served_settings}
use Rattle.print_server.proofs.serving.Service.serve_connections.Goals as goal

pub loop-round-init : goal.loop-round-init
loop-round-init g c = record { began = λ h. h; served = λ h w st set. (served_none st, refl, Appends-nil _); printed = ([], refl, Appends-nil _); live = λ h live is. live }

pub loop-round-preserved : goal.loop-round-preserved
loop-round-preserved g c = record {
  began = λ h. c.loop-round.invariant.began (c.serve_next.ensures.began h);
  served = λ h w st set.
      let r = c.loop-round.invariant.served (c.serve_next.ensures.began h) w st set in
      let t = c.in_ok-standing.ensures.ok h r.0.queue r.0.stands (served_settings r.0 set) in
      let more = length-append r.0.counts t.0.counts in
      (served_on r.0 t.0, omega (arith, more, r.1, t.1), told_on _ _ _ r.0.counts t.0.counts r.2 t.2);
  printed =
      let before = c.loop-round.invariant.printed in
      let next = c.in_ok-standing.ensures.printed in
      let more = length-append before.0 (next.0 ∷ []) in
      let many = before.1 in
      (before.0 ++ next.0 ∷ [], omega (arith, more, many), told_on _ _ _ before.0 (next.0 ∷ []) before.2 (told_one _ _ next.0 next.1));
  live = λ h live is. c.serve_next.ensures.live h (λ before. c.loop-round.invariant.live (c.serve_next.ensures.began h) live before) (c.in_ok-standing.was ∙ ap Ok is);
}

pub returns-clause-live : goal.returns-clause-live
returns-clause-live g c = λ h live is. c.loop-round.invariant.live h live (cc is)

pub returns-in_err-standing-clause-err : goal.returns-in_err-standing-clause-err
returns-in_err-standing-clause-err g c = λ h. on_err c.from_residual.result _ (λ w st set.
    let r = c.loop-round.invariant.served (c.serve_next.ensures.began h) w st set in
    let t = c.in_err-standing.ensures.err h r.0.queue r.0.stands (served_settings r.0 set) in
    let more = length-append r.0.counts t.0.counts in
    (served_on r.0 t.0, omega (arith, more, r.1, t.1)))

pub returns-in_err-standing-clause-told : goal.returns-in_err-standing-clause-told
returns-in_err-standing-clause-told g c = λ h.
    let p = err_from_is_err_and c.from_residual.result c.from_residual.ensures.1 in
    rw p.1 (λ e is w st set.
    let r = c.loop-round.invariant.served (c.serve_next.ensures.began h) w st set in
    let t = c.in_err-standing.ensures.told h e (sym p.2 ∙ is) r.0.queue r.0.stands (served_settings r.0 set) in
    let more = length-append r.0.counts t.0.counts in
    (served_on r.0 t.0, omega (arith, more, r.1, t.1), told_on _ _ _ r.0.counts t.0.counts r.2 t.2))

pub returns-in_err-standing-clause-stopped : goal.returns-in_err-standing-clause-stopped
returns-in_err-standing-clause-stopped g c =
    let p = err_from_is_err_and c.from_residual.result c.from_residual.ensures.1 in
    rw p.1 (λ e is.
    let before = c.loop-round.invariant.printed in
    let last = c.in_err-standing.ensures.stopped e (sym p.2 ∙ is) in
    let more = length-append before.0 (last.0 ∷ []) in
    let many = before.1 in
    (before.0 ++ last.0 ∷ [], omega (arith, more, many), told_on _ _ _ before.0 (last.0 ∷ []) before.2 (told_one _ _ last.0 last.1)))

pub returns-in_err-standing-clause-damaged : goal.returns-in_err-standing-clause-damaged
returns-in_err-standing-clause-damaged g c = λ h.
    let p = err_from_is_err_and c.from_residual.result c.from_residual.ensures.1 in
    rw p.1 (λ told w st set.
    let r = c.loop-round.invariant.served (c.serve_next.ensures.began h) w st set in
    c.in_err-standing.ensures.damaged h (sym p.2 ∙ told) r.0.queue r.0.stands (served_settings r.0 set))

pub returns-clause-printed : goal.returns-clause-printed
returns-clause-printed g c =
    let it = c.loop-round.invariant.printed in
    let is = it.1 in
    (it.0, omega (arith, is), it.2)

pub returns-clause-ok : goal.returns-clause-ok
returns-clause-ok g c = λ h w st set.
    let r = c.loop-round.invariant.served h w st set in
    let is = r.1 in
    (r.0, omega (arith, is), r.2)

pub returns-in_err-standing-clause-crash : goal.returns-in_err-standing-clause-crash
returns-in_err-standing-clause-crash g c = λ h live w st set.
    let r = c.loop-round.invariant.served (c.serve_next.ensures.began h) w st set in
    let t = c.in_err-standing.ensures.err h r.0.queue r.0.stands (served_settings r.0 set) in
    let more = length-append r.0.counts t.0.counts in
    let s = served_on r.0 t.0 in
    let l = served_left s (g.met.B.QueueBook.lasts c.args.book.now w w (c.loop-round.invariant.began (c.serve_next.ensures.began h)) live st) in
    (s, omega (arith, more, r.1, t.1), l.0, l.1, l.2)

pub returns-clause-crash : goal.returns-clause-crash
returns-clause-crash g c = λ h live w st set.
    let r = c.loop-round.invariant.served h w st set in
    let is = r.1 in
    let l = served_left r.0 (g.met.B.QueueBook.lasts c.args.book.now w w (c.loop-round.invariant.began h) live st) in
    (r.0, omega (arith, is), l.0, l.1, l.2)
