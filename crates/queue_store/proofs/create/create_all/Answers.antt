use Rattle.std.proofs.lemmas.Result.{on_ok_weaker}
use Rattle.queue_store.specs.New.{new_content, no_content}
use Rattle.queue_store.proofs.create.create_all.Goals as goal

pub returns-clause-done : goal.returns-clause-done
returns-clause-done g c clean =
    on_ok_weaker c.add_operators.result (λ adds blank.
    let fourth = c.add_operators.ensures.stays.clean clean in
    let third = c.in_ok-add_policy.ensures.stays.clean fourth in
    let second = c.in_ok-add_meta.ensures.stays.clean third in
    adds (new_content c.args.meta.now c.args.policy.now c.args.operators.now) (c.in_ok-add_policy.ensures.done fourth _ (c.in_ok-add_meta.ensures.done third no_content (c.in_ok-create_schema.ensures.done second blank)))) (c.add_operators.ensures.done clean)
