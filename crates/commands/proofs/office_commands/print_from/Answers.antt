use Rattle.std.proofs.Common.{◌∙◌, sym, inl, inr}
use Rattle.std.proofs.lemmas.Result.{err_from_is_err_and}
use Rattle.commands.proofs.FaultLemmas.{of_damaged_office, of_no_account, of_statement, of_stream, of_unknown}
use Rattle.commands.proofs.CrashLemmas.{lasts}
use Rattle.commands.proofs.office_commands.print_from.Goals as goal

pub returns-in_err-print_statement-clause-unknown : goal.returns-in_err-print_statement-clause-unknown
returns-in_err-print_statement-clause-unknown g c = λ honest.
    let p = err_from_is_err_and c.from_residual.result c.from_residual.ensures.1 in
    rw p.1 (λ is. c.in_err-print_statement.ensures.unknown honest (of_no_account _ (sym p.2 ∙ is)))

pub returns-in_err-print_statement-clause-damaged : goal.returns-in_err-print_statement-clause-damaged
returns-in_err-print_statement-clause-damaged g c = λ honest.
    let p = err_from_is_err_and c.from_residual.result c.from_residual.ensures.1 in
    rw p.1 (λ is. c.in_err-print_statement.ensures.damaged honest (of_damaged_office _ (sym p.2 ∙ is)))

pub returns-in_err-print_statement-clause-quiet : goal.returns-in_err-print_statement-clause-quiet
returns-in_err-print_statement-clause-quiet g c =
    let p = err_from_is_err_and c.from_residual.result c.from_residual.ensures.1 in
    rw p.1 (elim c.in_err-print_statement.ensures.quiet [ inl stream ↦ inl (of_stream _ _ p.2 stream) | inr same ↦ inr same ])

pub returns-in_err-print_statement-clause-known : goal.returns-in_err-print_statement-clause-known
returns-in_err-print_statement-clause-known g c = λ honest.
    let p = err_from_is_err_and c.from_residual.result c.from_residual.ensures.1 in
    rw p.1 (λ w stands none. of_unknown _ _ p.2 (c.in_err-print_statement.ensures.known honest w stands none))

pub returns-in_err-print_statement-clause-told : goal.returns-in_err-print_statement-clause-told
returns-in_err-print_statement-clause-told g c =
    let p = err_from_is_err_and c.from_residual.result c.from_residual.ensures.1 in
    rw p.1 (of_statement _ _ p.2 c.in_err-print_statement.ensures.told)

pub returns-in_err-print_statement-clause-crash : goal.returns-in_err-print_statement-clause-crash
returns-in_err-print_statement-clause-crash g c = λ honest live w stands.
    c.print_statement.ensures.left honest w w (lasts g.S.Store g.met.S.Store.settled c.args.book.now w (c.print_statement.ensures.began honest) live stands)

pub returns-clause-crash : goal.returns-clause-crash
returns-clause-crash g c = λ honest live w stands.
    c.print_statement.ensures.left honest w w (lasts g.S.Store g.met.S.Store.settled c.args.book.now w (c.print_statement.ensures.began honest) live stands)
