use Rattle.std.proofs.Common.{rules, ◌≡◌, ◌≢◌, ◌∙◌, ℕ, sym, arith, Ok}
use Rattle.std.specs.Fmt.{decimal}
use Rattle.queue_core.specs.Limits.{IsMoment}
use Rattle.std.proofs.lemmas.Bool.Decides.{nat_tests}
use Rattle.replay.proofs.DecimalLemmas.{begins_above_zero, first_is, has_digits, has_first, is_text, kept, lost, number_read, parses}
use Rattle.device_lines.proofs.Numbers.{not_read, read_as_ok, refused_text}
use Rattle.replay.proofs.request_line.read_moment.Goals as goal

pub returns-in_err-first-clause-none : goal.returns-in_err-first-clause-none
returns-in_err-first-clause-none c =
    rw c.from_residual.ensures (λ n h e. has_first _ c.in_err-first.ensures.value (has_digits _ n h e))

pub returns-then-first-eq48-clause-none : goal.returns-then-first-eq48-clause-none
returns-then-first-eq48-clause-none c = λ n h e.
    let above = begins_above_zero _ n h e in
    let first = first_is _ c.in_ok-first.field-0.now c.in_ok-first.ensures.value in
    let either = c.then-first-eq48.either in
    omega arith

pub returns-in_err-ok-clause-none : goal.returns-in_err-ok-clause-none
returns-in_err-ok-clause-none c =
    rw c.from_residual-in_err-ok.ensures
    (λ n h e. refused_text c.from_utf8.result _ _ c.from_utf8.ensures.cases c.in_err-ok.ensures.variant (is_text _ n h e))

pub returns-in_err-moment-clause-none : goal.returns-in_err-moment-clause-none
returns-in_err-moment-clause-none c =
    let same : c.in_ok-ok.field-0.now ≡ c.args.digits.now = search rules in
    rw c.from_residual-in_err-moment.ensures
    (λ n h e. not_read c.parse.result n c.in_err-moment.ensures.variant (parses _ n _ h (same ∙ e) c.parse.ensures.value.0))

pub returns-clause-moment : goal.returns-clause-moment
returns-clause-moment c =
    let same : c.in_ok-ok.field-0.now ≡ c.args.digits.now = search rules in
    let first = first_is _ c.in_ok-first.field-0.now c.in_ok-first.ensures.value in
    let number = number_read _ c.args.digits.now c.in_ok-moment.moment c.parse.result (λ h. c.if-first-eq48.false (sym first ∙ h)) (λ h. c.if-first-eq43.false (sym first ∙ h))
    (rw same at c.parse.ensures.value.0) (read_as_ok c.parse.result _ c.in_ok-moment.ensures.value) in
    rw c.then_some.ensures (kept _ _ (λ n. IsMoment n × (c.args.digits.now ≡ decimal n))
    (λ within. ((number.0, grind (arith, nat_tests)), number.1)))

pub returns-clause-none : goal.returns-clause-none
returns-clause-none c =
    let same : c.in_ok-ok.field-0.now ≡ c.args.digits.now = search rules in
    let read = read_as_ok c.parse.result _ c.in_ok-moment.ensures.value in
    rw c.then_some.ensures (lost _ _ ((n : ℕ) → IsMoment n → c.args.digits.now ≢ decimal n) (λ over. λ n h e.
    let other : Ok n ≡ Ok c.in_ok-moment.moment = sym (parses _ n _ h (same ∙ e) c.parse.ensures.value.0) ∙ read in
    let equal : n ≡ c.in_ok-moment.moment = cc other in
    absurd (grind (arith, nat_tests))))
