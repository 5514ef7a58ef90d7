use Rattle.std.proofs.Common.{IfOk, subst}
use Rattle.std.proofs.lemmas.Result.{IfOk-weaker}
use Rattle.command_words.specs.CommandLine.{IsApp, IsPart}
use Rattle.command_words.proofs.DefinitionLemmas.{adds_subcommand}
use Rattle.command_words.proofs.definition.with.Goals as goal

pub returns : goal.returns
returns c = λ a s command part.
    let sub : IsPart s c.in_ok-subcommand.field-0 = subst (λ r. IfOk r (IsPart s)) c.in_ok-subcommand.was part in
    IfOk-weaker c.subcommand.result _ (IsApp _) (λ x h. adds_subcommand a s _ _ x h command sub) c.subcommand.ensures
