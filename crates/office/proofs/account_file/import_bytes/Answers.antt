use Rattle.std.proofs.Common.{refl, inr}
use Rattle.std.proofs.lemmas.Result.{IfErr-weaker, err_from_is_err_and, on_ok_weaker}
use Rattle.queue_types.specs.Event.{grant}
use Rattle.queue_core.specs.Machine.{step}
use Rattle.queue_core.proofs.Crashes.{carries_by}
use Rattle.office.specs.Faults.{IsOfStream}
use Rattle.office.proofs.account_file.import_bytes.Goals as goal

pub returns-clause-taken : goal.returns-clause-taken
returns-clause-taken g c = λ honest. on_ok_weaker c.tell.result (λ told w stands.
    let a = c.in_ok-imported.ensures.added honest w stands in
    (c.in_ok-imported.imported, (step w c.args.now (grant a.0)).world, (a.0, a.1, a.2, refl), a.3, told)) c.tell.ensures.told

pub returns-clause-written : goal.returns-clause-written
returns-clause-written g c = on_ok_weaker c.tell.result (λ told. (c.in_ok-imported.imported, told)) c.tell.ensures.told

pub returns-clause-why : goal.returns-clause-why
returns-clause-why g c = λ honest. IfErr-weaker c.tell.result IsOfStream _ (λ f of_stream w stands.
    let a = c.in_ok-imported.ensures.added honest w stands in
    inr (of_stream, c.in_ok-imported.imported, (step w c.args.now (grant a.0)).world, (a.0, a.1, a.2, refl), a.3)) c.tell.ensures.failed

pub returns-in_err-imported-clause-crash : goal.returns-in_err-imported-clause-crash
returns-in_err-imported-clause-crash g c = λ honest w stands.
    let a = c.in_err-imported.ensures.crash honest w stands in
    let p = err_from_is_err_and c.from_residual.result c.from_residual.ensures.1 in
    (a.0, a.2, carries_by (g.B.QueueBook.crash_leaves c.args.book.now) (g.B.QueueBook.crash_leaves c.import.new.book) _ _ _ _ c.args.now w a.0 (λ e asks. asks) (λ is. cc (p.1, p.2, is)) a.3)

pub returns-clause-crash : goal.returns-clause-crash
returns-clause-crash g c = λ honest w stands.
    let a = c.in_ok-imported.ensures.crash honest w stands in
    (a.0, a.2, carries_by (g.B.QueueBook.crash_leaves c.args.book.now) (g.B.QueueBook.crash_leaves c.import.new.book) _ _ _ _ c.args.now w a.0 (λ e asks. asks) (λ is. absurd (cc)) a.3)
