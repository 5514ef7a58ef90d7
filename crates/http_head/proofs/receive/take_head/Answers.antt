use Rattle.std.proofs.Common.{Ok, Err, subst}
use Rattle.std.proofs.lemmas.Result.{err_from_is_err_and}
use Rattle.http_head.specs.Planned.{IsPlanned}
use Rattle.http_head.specs.Reads.{come}
use Rattle.http_head.proofs.HeadLemmas.{refused_plan, taken_plan}
use Rattle.http_head.proofs.receive.take_head.Goals as goal

pub returns-clause-taken : goal.returns-clause-taken
returns-clause-taken g c =
    let planned = subst (λ come. IsPlanned come c.find_head.new.headers c.in_ok-spans.spans (Ok c.in_ok-plan.plan)) c.bytes.ensures.value c.in_ok-plan.ensures.planned in
    rw c.take.ensures (taken_plan (come c.find_head.new.input) c.find_head.new.headers c.in_ok-spans.spans _ _ c.in_ok-plan.plan c.find_head.ensures.kept c.in_ok-spans.ensures.found planned)

pub returns-in_err-plan-clause-failed : goal.returns-in_err-plan-clause-failed
returns-in_err-plan-clause-failed g c =
    let planned = subst (λ come. IsPlanned come c.find_head.new.headers c.in_ok-spans.spans (Err c.in_err-plan.field-0.0)) c.bytes.ensures.value c.in_err-plan.ensures.planned in
    let p = err_from_is_err_and c.from_residual-in_err-plan.result c.from_residual-in_err-plan.ensures.1 in
    rw p.1 (rw p.2 (refused_plan (come c.find_head.new.input) c.find_head.new.headers c.in_ok-spans.spans _ _ c.in_err-plan.field-0.0 c.find_head.ensures.kept c.in_ok-spans.ensures.found planned))
