use Rattle.std.proofs.Common.{refl}
use Rattle.std.proofs.lemmas.Result.{IfErr-weaker, err_from_is_err_and, on_ok_weaker}
use Rattle.commands.proofs.FaultLemmas.{of_names, of_operators}
use Rattle.commands.proofs.NameLemmas.{can_be}
use Rattle.commands.proofs.program.do_operators.Goals as goal

pub returns-clause-allowed : goal.returns-clause-allowed
returns-clause-allowed g c =
    let ok = rw c.as_slice.ensures.value at c.in_ok-operators.ensures.ok in
    let many = rw c.as_slice.ensures.value at c.in_ok-operators.ensures.too_many in
    let twice = rw c.as_slice.ensures.value at c.in_ok-operators.ensures.twice in
    on_ok_weaker c.do_work.result (λ printed. can_be c.args.words.now.names.items _ _ refl c.in_ok-operators.ensures.limits ok many twice) c.do_work.ensures.printed

pub returns-clause-printed : goal.returns-clause-printed
returns-clause-printed g c =
    let list = rw c.as_slice.ensures.value at c.in_ok-operators.ensures.list in
    let printed = rw list at c.do_work.ensures.printed in
    printed

pub returns-clause-told : goal.returns-clause-told
returns-clause-told g c = IfErr-weaker c.do_work.result _ _ of_operators c.do_work.ensures.told

pub returns-in_err-operators-clause-told : goal.returns-in_err-operators-clause-told
returns-in_err-operators-clause-told g c =
    let p = err_from_is_err_and c.from_residual.result c.from_residual.ensures.1 in
    rw p.1 (of_names _ _ p.2)
