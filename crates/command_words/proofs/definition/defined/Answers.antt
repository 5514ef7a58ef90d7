use Rattle.std.proofs.lemmas.Result.{IfOk-weaker}
use Rattle.command_words.specs.CommandLine.{IsApp, replay_words, serve_words}
use Rattle.command_words.proofs.DefinitionLemmas.{adds_subcommand}
use Rattle.command_words.proofs.definition.defined.Goals as goal

pub returns : goal.returns
returns c =
    let serves = c.in_ok-program.ensures _ serve_words c.in_ok-for_office.ensures c.serve.ensures in
    IfOk-weaker c.subcommand.result _ (IsApp _) (λ x h. adds_subcommand _ replay_words _ _ x h serves c.replay.ensures) c.subcommand.ensures
