use Rattle.std.proofs.Common.{rules, arith, ◌<◌, List, ℕ, length, subst}
use Rattle.std.proofs.lemmas.List.{take_all}
use Rattle.sqlite.specs.Held.{state}
use Rattle.queue_tables.specs.Content.{Holds}
use Rattle.queue_store.specs.New.{with_operator_rows}
use Rattle.queue_store.proofs.NewOperators.{one_more}
use Rattle.queue_store.proofs.operators.add_operators.Goals as goal

pub loop-i-preserved : goal.loop-i-preserved
loop-i-preserved g c =
    let names = c.args.operators.now in
    let i = c.loop-i.i in
    let below : i < length names = omega arith in (
      search rules,
      search rules,
      λ clean content has.
          one_more content (state g.S.Store c.add_operator.new.tx.conn.now) names i c.name.result.now below c.name.ensures.name
          (c.in_ok-add_operator.ensures.done clean _ (c.loop-i.invariant.2 (c.in_ok-add_operator.ensures.stays.clean clean) content has)),
    )

pub returns-clause-done : goal.returns-clause-done
returns-clause-done g c clean = λ content has.
    subst (λ (names : List (List ℕ)). Holds (with_operator_rows names content) (state g.S.Store c.loop-i.tx.conn.now)) (take_all c.loop-i.i c.args.operators.now (omega arith)) (c.loop-i.invariant.2 clean content has)
