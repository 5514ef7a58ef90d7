use Rattle.std.proofs.lemmas.Result.{IfOk-weaker}
use Rattle.command_words.specs.CommandLine.{IsPart}
use Rattle.command_words.proofs.DefinitionLemmas.{adds_argument}
use Rattle.command_words.proofs.definition.init.Goals as goal

pub returns : goal.returns
returns c =
    let first = adds_argument _ _ _ _ _ c.in_ok-arg.ensures c.in_ok-on_store.ensures c.printer_uri.ensures.rule c.printer_uri.ensures.own in
    let second = adds_argument _ _ _ _ _ c.in_ok-arg-2.ensures first c.printer_name.ensures.rule c.printer_name.ensures.own in
    let third = adds_argument _ _ _ _ _ c.in_ok-arg-3.ensures second c.estimate.ensures.rule c.estimate.ensures.own in
    IfOk-weaker c.arg-4.result _ (IsPart _)
    (λ x h. adds_argument _ _ _ _ x h third c.keep.ensures.rule c.keep.ensures.own)
    c.arg-4.ensures
