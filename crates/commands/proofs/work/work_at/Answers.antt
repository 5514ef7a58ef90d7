use Rattle.std.proofs.Common.{inr}
use Rattle.std.proofs.lemmas.Result.{IfErr-weaker, IfOk-weaker}
use Rattle.sqlite.specs.Files.{over_files}
use Rattle.commands.specs.Work.{AreAny}
use Rattle.commands.proofs.WorkLemmas.{done_from, given_is_some, refused_of, refused_of_kept}
use Rattle.commands.proofs.work.work_at.Goals as goal

pub returns-in-Ok-clause-done : goal.returns-in-Ok-clause-done
returns-in-Ok-clause-done g c = λ fits. IfOk-weaker c.work_opened.result _ _ (λ b is honest.
    let done = is honest in
    let at = c.in-Ok.ensures.kept fits done.began in
    (at.0, at.1, done_from over_files AreAny _ _ _ (g.W.Write.contents c.args.output.now) (g.W.Write.contents c.work_opened.new.output) done at.0 at.2 (c.in-Ok.ensures.live fits done.began))) c.work_opened.ensures.done

pub returns-in-Ok-clause-again : goal.returns-in-Ok-clause-again
returns-in-Ok-clause-again g c = λ w kept. IfOk-weaker c.work_opened.result _ _ (λ b is honest.
    let done = is honest in
    done_from over_files AreAny _ _ _ (g.W.Write.contents c.args.output.now) (g.W.Write.contents c.work_opened.new.output) done w (c.in-Ok.ensures.again w kept) (c.in-Ok.ensures.again_live w kept done.began)) c.work_opened.ensures.done

pub returns-in-Ok-clause-live : goal.returns-in-Ok-clause-live
returns-in-Ok-clause-live g c = IfOk-weaker c.work_opened.result _ _ (λ b is honest. (is honest).live) c.work_opened.ensures.done

pub returns-in-Ok-clause-quiet : goal.returns-in-Ok-clause-quiet
returns-in-Ok-clause-quiet g c = IfErr-weaker c.work_opened.result _ _ (λ e is. is.quiet) c.work_opened.ensures.told

pub returns-in-Ok-clause-told : goal.returns-in-Ok-clause-told
returns-in-Ok-clause-told g c = IfErr-weaker c.work_opened.result _ _ (λ e is. inr is.told) c.work_opened.ensures.told

pub returns-in-Ok-clause-unopened : goal.returns-in-Ok-clause-unopened
returns-in-Ok-clause-unopened g c = IfErr-weaker c.work_opened.result _ _ (λ e is. given_is_some e.1 _ is) c.work_opened.ensures.given_back

pub returns-in-Ok-clause-refused : goal.returns-in-Ok-clause-refused
returns-in-Ok-clause-refused g c = λ fits.
    refused_of_kept c.work_opened.result c.args.work c.in-Ok.book (g.W.Write.contents c.args.output.now) (g.W.Write.contents c.work_opened.new.output) c.work_opened.ensures.refused (c.in-Ok.ensures.live fits)
    _ (c.in-Ok.ensures.kept fits)

pub returns-in-Ok-clause-refused_again : goal.returns-in-Ok-clause-refused_again
returns-in-Ok-clause-refused_again g c = λ w kept.
    refused_of c.work_opened.result c.args.work c.in-Ok.book (g.W.Write.contents c.args.output.now) (g.W.Write.contents c.work_opened.new.output) c.work_opened.ensures.refused (c.in-Ok.ensures.again_live w kept)
    w (c.in-Ok.ensures.again w kept)
