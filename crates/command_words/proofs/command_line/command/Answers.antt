use Rattle.std.proofs.Common.{List, map}
use Rattle.std.proofs.lemmas.Result.{err_from_is_err_and}
use Rattle.clap.specs.Walk.{Text}
use Rattle.command_words.proofs.CommandLineLemmas.{meets_one, meets_subcommand, met_by_definition, refused_words, taken_words}
use Rattle.command_words.proofs.command_line.command.Goals as goal

pub returns-in_err-defined-clause-refused : goal.returns-in_err-defined-clause-refused
returns-in_err-defined-clause-refused c =
    let p = err_from_is_err_and c.from_residual.result c.from_residual.ensures.1 in rw (p.1, p.2) tt

pub returns-in_err-matches-clause-refused : goal.returns-in_err-matches-clause-refused
returns-in_err-matches-clause-refused c =
    let p = err_from_is_err_and c.from_residual-in_err-matches.result c.from_residual-in_err-matches.ensures.1 in
    rw p.1 (refused_words _ _ _ p.0 c.in_ok-defined.ensures.app c.in_err-matches.ensures.kinds p.2)

pub command_of-requires : goal.command_of-requires
command_of-requires c =
    let words : List Text = map (λ w. w.now) c.args.words.now in
    let rows = met_by_definition _ words _ c.in_ok-defined.ensures.app c.in_ok-matches.ensures.matches in
    meets_one _ words (meets_subcommand _ _ c.in_ok-defined.ensures c.in_ok-matches.ensures.parsed) rows

pub returns-in_err-command-clause-refused : goal.returns-in_err-command-clause-refused
returns-in_err-command-clause-refused c =
    let p = err_from_is_err_and c.from_residual-in_err-command.result c.from_residual-in_err-command.ensures.1 in rw (p.1, p.2) tt

pub returns-clause-named : goal.returns-clause-named
returns-clause-named c =
    let words : List Text = map (λ w. w.now) c.args.words.now in
    let rows = met_by_definition _ words _ c.in_ok-defined.ensures.app c.in_ok-matches.ensures.matches in
    rw rows at c.in_ok-command.ensures

pub returns-clause-taken : goal.returns-clause-taken
returns-clause-taken c = taken_words _ _ c.in_ok-defined.ensures.app c.in_ok-matches.ensures.kinds
