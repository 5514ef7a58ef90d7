use Rattle.std.proofs.lemmas.Result.{IfOk-weaker}
use Rattle.commands.proofs.new_store.make_and_close.Goals as goal

pub returns-clause-kept : goal.returns-clause-kept
returns-clause-kept g c =
    let made = c.in_ok-book.ensures.made in
    IfOk-weaker c.close.result _ _ (λ files alone clean. (made.0, alone clean _ made.1)) c.close.ensures.copied

pub returns-clause-blank : goal.returns-clause-blank
returns-clause-blank g c = IfOk-weaker c.close.result _ _ (λ files honest clean. c.in_ok-book.ensures.blank (honest clean)) c.close.ensures.honest
