use Rattle.std.proofs.lemmas.Result.{IfOk-weaker}
use Rattle.commands.proofs.EndingLemmas.{all_ok}
use Rattle.commands.proofs.WorkLemmas.{kept_from}
use Rattle.commands.proofs.work.work_and_close.Goals as goal

pub returns-in-Ok-clause-kept : goal.returns-in-Ok-clause-kept
returns-in-Ok-clause-kept g c = λ fits. IfOk-weaker c.close.result _ _ (λ files is clean.
    let it = c.in-Ok.ensures.done fits (is.0 clean) in
    (it.0, it.1, kept_from _ _ _ (g.W.Write.contents c.args.output.now) (g.W.Write.contents c.work_at.new.output) files it.2 (is.1 clean))) (all_ok c.close.result _ _ c.close.ensures.honest c.close.ensures.copied)

pub returns-in-Ok-clause-again : goal.returns-in-Ok-clause-again
returns-in-Ok-clause-again g c = λ w kept. IfOk-weaker c.close.result _ _ (λ files is clean.
    kept_from _ _ _ (g.W.Write.contents c.args.output.now) (g.W.Write.contents c.work_at.new.output) files (c.in-Ok.ensures.again w kept (is.0 clean)) (is.1 clean)) (all_ok c.close.result _ _ c.close.ensures.honest c.close.ensures.copied)
