use Rattle.std.proofs.lemmas.Result.{on_ok_weaker}
use Rattle.queue_store.proofs.migrate.add_third.Goals as goal

pub returns-clause-done : goal.returns-clause-done
returns-clause-done g c clean =
    on_ok_weaker c.put_causes.result (λ puts content jobs are has.
    let second = c.put_causes.ensures.stays.clean clean in
    let first = c.in_ok-create_ended.ensures.stays.clean second in
    puts _ jobs are (c.in_ok-create_ended.ensures.done second _ (c.in_ok-create_operators.ensures.done first content has))) (c.put_causes.ensures.done clean)
