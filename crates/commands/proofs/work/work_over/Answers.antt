use Rattle.std.proofs.Common.{subst, sym}
use Rattle.std.proofs.lemmas.Result.{IfErr-weaker, IfOk-weaker}
use Rattle.sqlite.specs.Files.{over_files}
use Rattle.queue_store.specs.Kept.{IsHonest}
use Rattle.commands.specs.Work.{AreReadIn, IsDoneOn}
use Rattle.commands.proofs.EndingLemmas.{both, handed_on}
use Rattle.commands.proofs.WorkLemmas.{done_on_by, ended_err, ended_ok, ended_printed, known_in, refused_from, refused_on}
use Rattle.commands.proofs.work.work_over.Goals as goal

pub returns-clause-done : goal.returns-clause-done
returns-clause-done g c = IfOk-weaker c.left.result _ _ (λ b is honest.
    subst (λ x. IsDoneOn over_files (AreReadIn g.F.Read.remaining c.args.opened.file) c.args.work c.args.book x (g.W.Write.contents c.args.output.now) (g.W.Write.contents c.work_in-done.new.output)) (sym is.0)
    (done_on_by _ _ (known_in c.read_opened-file.result (AreReadIn g.F.Read.remaining c.args.opened.file) c.read_opened-file.ensures) over_files _ _ _ _ _
    (ended_ok over_files _ _ _ _ _ _ c.work_in-done.result is.1 c.work_in-done.ensures (subst (IsHonest over_files) is.0 honest)))) c.left.ensures.same

pub returns-clause-printed : goal.returns-clause-printed
returns-clause-printed g c = IfOk-weaker c.left.result _ _ (λ b is.
    ended_printed over_files _ _ _ _ _ _ c.work_in-done.result is.1 c.work_in-done.ensures) c.left.ensures.same

pub returns-clause-told : goal.returns-clause-told
returns-clause-told g c = handed_on c.work_in-done.result c.left.result _ c.left.ensures.done c.left.ensures.refused
    (ended_err over_files _ _ _ _ _ _ c.work_in-done.result c.work_in-done.ensures)

pub returns-clause-began : goal.returns-clause-began
returns-clause-began g c = IfErr-weaker c.left.result _ _ (λ e is clean. (is clean).began)
    (refused_on _ _ _ _ _ _ c.work_in-done.result c.left.result c.left.ensures.done c.left.ensures.refused c.work_in-done.ensures c.left.ensures.honest)

pub returns-clause-refused : goal.returns-clause-refused
returns-clause-refused g c = IfErr-weaker c.left.result _ _ (λ e is clean.
    refused_from _ _ (known_in c.read_opened-file.result (AreReadIn g.F.Read.remaining c.args.opened.file) c.read_opened-file.ensures) _ _ _ _ _ e.0 e.1 (is.0 clean) (is.1 clean))
    (both c.left.result _ _ c.left.ensures.crash
    (refused_on _ _ _ _ _ _ c.work_in-done.result c.left.result c.left.ensures.done c.left.ensures.refused c.work_in-done.ensures c.left.ensures.honest))
