use Rattle.std.proofs.Common.{◌≡◌, ◌⊎◌, IfErr, IfOk, OnOk, inr, subst, sym}
use Rattle.std.proofs.lemmas.Result.{IfOk-weaker}
use Rattle.std.specs.Io.Buffered.{writer_contents}
use Rattle.command_ends.specs.Faults.{IsOfStream}
use Rattle.command_words.specs.declared.outcome.Command.{Command}
use Rattle.commands.specs.Printed.{HasPrinted}
use Rattle.commands.specs.Refusals.{MayBePrintedBy, MayBeToldBy}
use Rattle.commands.specs.Store.{IsAllowed}
use Rattle.commands.proofs.EndingLemmas.{any_err}
use Rattle.commands.proofs.program.do_command.Goals as goal

pub returns-in-Init-clause-allowed : goal.returns-in-Init-clause-allowed
returns-in-Init-clause-allowed g c = subst (λ (z : Command). OnOk c.do_init.result (IsAllowed z)) (sym c.in-Init.is) c.do_init.ensures.made

-- ---- a replay

pub returns-in-Replay-clause-replayed : goal.returns-in-Replay-clause-replayed
returns-in-Replay-clause-replayed g c = IfOk-weaker c.do_replay.result _ _ (λ status few one. c.in-Replay.is) c.do_replay.ensures.status

pub returns-in-Replay-clause-told : goal.returns-in-Replay-clause-told
returns-in-Replay-clause-told g c = subst (λ (z : Command). IfErr c.do_replay.result (MayBeToldBy z)) (sym c.in-Replay.is) c.do_replay.ensures.told

pub returns-in-Replay-clause-quiet : goal.returns-in-Replay-clause-quiet
returns-in-Replay-clause-quiet g c =
    subst (λ (z : Command). IfErr c.do_replay.result (λ f. IsOfStream f ⊎ MayBePrintedBy z (writer_contents g.O.Write.contents c.args.out.now) (writer_contents g.O.Write.contents c.do_replay.new.out))) (sym c.in-Replay.is)
    (any_err c.do_replay.result _ (λ f. inr tt))

pub returns-in-Replay-clause-printed : goal.returns-in-Replay-clause-printed
returns-in-Replay-clause-printed g c =
    subst (λ (z : Command). IfOk c.do_replay.result (λ status. HasPrinted z status (writer_contents g.O.Write.contents c.args.out.now) (writer_contents g.O.Write.contents c.do_replay.new.out))) (sym c.in-Replay.is)
    c.do_replay.ensures.printed
