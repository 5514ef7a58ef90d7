use Rattle.std.proofs.lemmas.Result.{IfOk-weaker}
use Rattle.command_words.specs.CommandLine.{IsPart}
use Rattle.command_words.proofs.DefinitionLemmas.{adds_argument}
use Rattle.command_words.proofs.definition.operators.Goals as goal

pub returns : goal.returns
returns c =
    IfOk-weaker c.arg.result _ (IsPart _)
    (λ x h. adds_argument _ _ _ _ x h c.in_ok-on_store.ensures c.places.ensures.rule c.places.ensures.own)
    c.arg.ensures
