use Rattle.std.proofs.Common.{rules, ◌≡◌, ◌∙◌, sym, ap, arith, Ok, decimal}
use Rattle.device_lines.proofs.Numbers.{is_text, not_read, parses, read_as_ok, refused_text}
use Rattle.device_lines.proofs.line.read_number.Goals as goal
use Rattle.device_lines.proofs.line.read_number.Goals.{else-n-le-MOST_IN_TEN_DIGITS-via-then-n-le-MOST_IN_TEN_DIGITS+else-is_decimal, else-n-le-MOST_IN_TEN_DIGITS-via-else-n-le-MOST_IN_TEN_DIGITS}

pub returns-in_err-text-clause-none : goal.returns-in_err-text-clause-none
returns-in_err-text-clause-none c =
    rw c.from_residual.ensures (λ n h e. refused_text c.from_utf8.result _ _ c.from_utf8.ensures.cases c.in_err-text.ensures.variant (is_text _ n h e))

pub returns-in_err-n-clause-none : goal.returns-in_err-n-clause-none
returns-in_err-n-clause-none c =
    let same : c.in_ok-text.text.now ≡ c.args.digits.now = search rules in
    rw c.from_residual-in_err-n.ensures (λ n h e. not_read c.parse.result n c.in_err-n.ensures.variant (parses _ n _ h (same ∙ e) c.parse.ensures.value.0))

pub returns-else-n-le-MOST_IN_TEN_DIGITS-clause-none : goal.returns-else-n-le-MOST_IN_TEN_DIGITS-clause-none
returns-else-n-le-MOST_IN_TEN_DIGITS-clause-none c = λ m h e.
    let same : c.in_ok-text.text.now ≡ c.args.digits.now = search rules in
    let other : Ok m ≡ Ok c.in_ok-n.n = sym (parses _ m _ h (same ∙ e) c.parse.ensures.value.0) ∙ read_as_ok c.parse.result _ c.in_ok-n.ensures.value in
    let equal : m ≡ c.in_ok-n.n = cc other in
    let plain : c.in_ok-text.text.now ≡ decimal c.in_ok-n.n = same ∙ e ∙ ap decimal equal in
    elim c.else-n-le-MOST_IN_TEN_DIGITS.branch [
      | else-n-le-MOST_IN_TEN_DIGITS-via-then-n-le-MOST_IN_TEN_DIGITS+else-is_decimal w ↦ cc (w.is_decimal.ensures.1 plain, w.if-is_decimal.false)
      | else-n-le-MOST_IN_TEN_DIGITS-via-else-n-le-MOST_IN_TEN_DIGITS w ↦ omega arith
    ]
