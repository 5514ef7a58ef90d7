-- A definition with an argument or a subcommand more.
use Rattle.std.proofs.Common.{◌≡◌, ◌∙◌, ◌||◌, ◌++◌, ◌∷◌, [], false, ap}
use Rattle.clap.specs.Built.{AddsArg, AddsSubcommand}
use Rattle.clap.specs.Simple.{App, Shape, shape_of, with_rule, with_subcommand}
use Rattle.clap.specs.Walk.{Rule, rule_of}
use Rattle.clap.specs.declared.builder.arg.Arg.{Arg}
use Rattle.clap.specs.declared.builder.command.Command.{Command as Definition}
use Rattle.clap.specs.declared.builder.command.Command.TheViews.{out-Command}
use Rattle.command_words.specs.CommandLine.{IsApp, IsPart}

pub adds_argument : (s : Shape) (r : Rule) (old : Definition) (a : Arg) (new : Definition) → AddsArg old a new → IsPart s old → rule_of a ≡ r → a.global ≡ false
    → IsPart (record s { rules = s.rules ++ r ∷ [] }) new
adds_argument s r old a new h part rule own = record {
  app = h.shape own ∙ (ap (λ (z : App). with_rule z (rule_of a)) part.app ∙ ap (with_rule (record { top = s; subs = [] })) rule);
  globals = h.globals ∙ (ap (λ b. b || a.global) part.globals ∙ own);
}

pub adds_subcommand : (a : App) (s : Shape) (old sub new : Definition) → AddsSubcommand old sub new → IsApp a old → IsPart s sub → IsApp (with_subcommand a s) new
adds_subcommand a s old sub new h is part = record {
  app = h.shape part.globals ∙ (ap (λ (z : App). with_subcommand z (shape_of sub)) is.app ∙ ap (λ (z : App). with_subcommand a z.top) part.app);
  globals = h.globals ∙ (ap (λ b. b || (out-Command sub).has_globals) is.globals ∙ part.globals);
}
