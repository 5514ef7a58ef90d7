use Rattle.std.proofs.Common.{◌∙◌, ℕ, OnOk, refl, subst, sym, inl, inr}
use Rattle.std.specs.Io.KnownBytes.{Appends}
use Rattle.std.proofs.lemmas.Result.{IfErr-weaker, err_from_is_err_and, on_ok_weaker}
use Rattle.queue_tables.specs.Steps.{with_operators}
use Rattle.commands.specs.Printed.{operators_line}
use Rattle.commands.specs.Work.{broken_off, taken}
use Rattle.commands.proofs.CrashLemmas.{lasts}
use Rattle.commands.proofs.FaultLemmas.{no_damage, of_book, of_damaged_book, of_expire_stream}
use Rattle.commands.proofs.office_commands.set_operators_in.Goals as goal

pub returns-clause-set : goal.returns-clause-set
returns-clause-set g c = λ honest. on_ok_weaker c.tell_operators.result (λ told w stands.
    let u = with_operators c.args.work.operators.now w in
    let set = c.in_ok-set_operators.ensures.done w stands in (
      u,
      set,
      ((refl, told), λ live. (u, lasts g.S.Store g.met.S.Store.settled c.set_operators.new.self u honest (c.in_ok-set_operators.ensures.live honest) set, taken refl refl)),
    )) (subst (λ (n : ℕ). OnOk c.tell_operators.result (Appends (g.W.Write.contents c.args.output.now) (g.W.Write.contents c.tell_operators.new.output) (operators_line n))) c.len.ensures.len c.tell_operators.ensures.told)

pub returns-clause-written : goal.returns-clause-written
returns-clause-written g c =
    subst (λ (n : ℕ). OnOk c.tell_operators.result (Appends (g.W.Write.contents c.args.output.now) (g.W.Write.contents c.tell_operators.new.output) (operators_line n))) c.len.ensures.len c.tell_operators.ensures.told

pub returns-clause-left : goal.returns-clause-left
returns-clause-left g c = λ honest. IfErr-weaker c.tell_operators.result _ _ (λ fault stream w stands.
    let u = with_operators c.args.work.operators.now w in
    let set = c.in_ok-set_operators.ensures.done w stands in (
      u,
      set,
      (inr (stream, refl), λ live. (u, lasts g.S.Store g.met.S.Store.settled c.set_operators.new.self u honest (c.in_ok-set_operators.ensures.live honest) set, taken refl refl)),
    )) c.tell_operators.ensures.failed

pub returns-clause-damaged : goal.returns-clause-damaged
returns-clause-damaged g c = λ honest. IfErr-weaker c.tell_operators.result _ _ (λ fault stream is. absurd (no_damage fault stream is)) c.tell_operators.ensures.failed

pub returns-clause-told : goal.returns-clause-told
returns-clause-told g c = IfErr-weaker c.tell_operators.result _ _ of_expire_stream c.tell_operators.ensures.failed

pub returns-clause-quiet : goal.returns-clause-quiet
returns-clause-quiet g c = IfErr-weaker c.tell_operators.result _ _ (λ fault stream. inl stream) c.tell_operators.ensures.failed

-- ---- the book refused

pub returns-in_err-set_operators-clause-left : goal.returns-in_err-set_operators-clause-left
returns-in_err-set_operators-clause-left g c = λ honest.
    let p = err_from_is_err_and c.from_residual.result c.from_residual.ensures.1 in
    rw p.1 (λ w stands. (
      w,
      c.in_err-set_operators.ensures.kept w stands,
      (inl (refl, refl), λ live. (with_operators c.args.work.operators.now w, c.set_operators.ensures.crash honest live w stands, broken_off refl refl)),
    ))

pub returns-in_err-set_operators-clause-damaged : goal.returns-in_err-set_operators-clause-damaged
returns-in_err-set_operators-clause-damaged g c = λ honest.
    let p = err_from_is_err_and c.from_residual.result c.from_residual.ensures.1 in
    rw p.1 (λ is. c.in_err-set_operators.ensures.damaged honest (of_damaged_book _ (sym p.2 ∙ is)))

pub returns-in_err-set_operators-clause-told : goal.returns-in_err-set_operators-clause-told
returns-in_err-set_operators-clause-told g c =
    let p = err_from_is_err_and c.from_residual.result c.from_residual.ensures.1 in
    rw p.1 (inl (of_book _ _ p.2))
