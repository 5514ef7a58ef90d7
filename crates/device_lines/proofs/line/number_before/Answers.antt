use Rattle.std.proofs.Common.{decimal, sym, subst, ◌∙◌}
use Rattle.device_lines.proofs.Cuts.{IsFree, free_decimal, no_cut, one_cut}
use Rattle.device_lines.proofs.line.number_before.Goals as goal

pub returns-in_err-digits-clause-none : goal.returns-in_err-digits-clause-none
returns-in_err-digits-clause-none c =
    rw c.from_residual.ensures (λ n rest small e. no_cut c.args.end (decimal n) rest (subst (IsFree c.args.end) e c.in_err-digits.ensures.none))

pub returns-in_err-n-clause-none : goal.returns-in_err-n-clause-none
returns-in_err-n-clause-none c =
    rw c.from_residual-in_err-n.ensures (λ n rest small e.
    let free = free_decimal c.args.end n c.requires small in
    let both = one_cut c.args.end c.in_ok-digits.digits.now c.in_ok-digits.rest.now (decimal n) rest c.in_ok-digits.ensures.front free (sym c.in_ok-digits.ensures.parts ∙ e) in
    c.in_err-n.ensures.none n small both.0)
