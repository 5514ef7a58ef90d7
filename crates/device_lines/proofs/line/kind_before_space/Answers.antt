use Rattle.std.proofs.Common.{sym, subst, ◌∙◌}
use Rattle.device_lines.specs.Lines.{kind_word}
use Rattle.device_lines.proofs.Cuts.{IsFree, free_word, no_cut, one_cut}
use Rattle.device_lines.proofs.line.kind_before_space.Goals as goal

pub returns-in_err-word-clause-none : goal.returns-in_err-word-clause-none
returns-in_err-word-clause-none c =
    rw c.from_residual.ensures (λ k rest e. no_cut 32 (kind_word k) rest (subst (IsFree 32) e c.in_err-word.ensures.none))

pub returns-in_err-kind-clause-none : goal.returns-in_err-kind-clause-none
returns-in_err-kind-clause-none c =
    rw c.from_residual-in_err-kind.ensures (λ k rest e.
    let both = one_cut 32 c.in_ok-word.word.now c.in_ok-word.rest.now (kind_word k) rest c.in_ok-word.ensures.front (free_word k) (sym c.in_ok-word.ensures.parts ∙ e) in
    c.in_err-kind.ensures.none k both.0)
