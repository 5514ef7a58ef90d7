use Rattle.std.proofs.Common.{◌≡◌, Result, Ok, Err, sym, subst, ap}
use Rattle.std.specs.Prelude.{IfOk}
use Rattle.std.specs.declared.alloc.AllocError.{AllocError}
use Rattle.ipp_wire.specs.Viewed.{message_of}
use Rattle.ipp_ops.specs.declared.verdict.Ask.{Ask}
use Rattle.ipp_ops.specs.Verdict.{Verdict, ask_content, request_verdict, IsWithinLimits, ListsAttributes}
use Rattle.ipp_ops.proofs.Within.{verdict_fits}
use Rattle.ipp_ops.proofs.Listed.{verdict_lists}
use Rattle.ipp_ops.proofs.asking.ask.Goals as goal

-- what holds of a verdict holds of the answer that is that verdict
along : (P : Verdict → Type 0) (v : Verdict) (r : Result Ask AllocError) → IfOk r (λ a. ask_content a ≡ v) → P v → IfOk r (λ a. P (ask_content a))
along P v (Ok a) e h = subst P (sym e) h
along P v (Err e) n h = tt

pub returns-in-Ok-clause-limits : goal.returns-in-Ok-clause-limits
returns-in-Ok-clause-limits c = λ h.
    let P : Verdict → Type 0 = λ v. IsWithinLimits v in
    along P _ c.checked_verdict.result c.checked_verdict.ensures (subst P (ap request_verdict c.in-Ok.ensures.ok) (verdict_fits (message_of c.args.view.now) h))

pub returns-in-Ok-clause-listed : goal.returns-in-Ok-clause-listed
returns-in-Ok-clause-listed c = λ h.
    let P : Verdict → Type 0 = λ v. ListsAttributes v in
    along P _ c.checked_verdict.result c.checked_verdict.ensures (subst P (ap request_verdict c.in-Ok.ensures.ok) (verdict_lists (message_of c.args.view.now) h))
