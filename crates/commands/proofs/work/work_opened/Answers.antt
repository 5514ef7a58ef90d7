use Rattle.sqlite.specs.Files.{over_files}
use Rattle.commands.specs.Work.{AreAny}
use Rattle.commands.proofs.WorkLemmas.{done_on_by, refused_any}
use Rattle.commands.proofs.work.work_opened.Goals as goal

pub returns-in-Ok-clause-done : goal.returns-in-Ok-clause-done
returns-in-Ok-clause-done g c = λ honest.
    done_on_by _ AreAny (λ bytes read. tt) over_files _ _ _ (g.W.Write.contents c.args.output.now) (g.W.Write.contents c.work_over.new.output) (c.in-Ok.ensures.done honest)

pub returns-in-Err-clause-refused : goal.returns-in-Err-clause-refused
returns-in-Err-clause-refused g c = λ clean. record {
  began = c.in-Err.ensures.began clean;
  left = λ live w stands. refused_any _ _ w _ (g.W.Write.contents c.args.output.now) (g.W.Write.contents c.work_over.new.output) _ (c.in-Err.ensures.refused clean live w stands);
}
