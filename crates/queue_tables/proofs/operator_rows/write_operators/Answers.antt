use Rattle.std.proofs.Common.{rules, arith, ◌<◌, length, take, List, subst, ℕ}
use Rattle.std.proofs.lemmas.List.{take_all}
use Rattle.sqlite.specs.Held.{state}
use Rattle.queue_core.specs.World.{World}
use Rattle.queue_tables.specs.Content.{Holds, content_of}
use Rattle.queue_tables.specs.Steps.{with_operators}
use Rattle.queue_tables.proofs.Making.{handed_on, held_as, made_then, seen_as}
use Rattle.queue_tables.proofs.OperatorRows.{is_fresh, name_more}
use Rattle.queue_tables.proofs.operator_rows.write_operators.Goals as goal

pub returns-in_err-delete_operators-clause-made : goal.returns-in_err-delete_operators-clause-made
returns-in_err-delete_operators-clause-made g c = handed_on (seen_as c.in_err-delete_operators.ensures.made content_of (λ (w : World) all. tt)) _ c.from_residual.ensures.1

pub loop-i-init : goal.loop-i-init
loop-i-init g c = (c.in_ok-delete_operators.ensures.same_reference, seen_as c.in_ok-delete_operators.ensures.made content_of (λ (w : World) all. tt))

pub loop-i-preserved : goal.loop-i-preserved
loop-i-preserved g c =
    let names = c.args.operators.now in
    let i = c.loop-i.i in
    let below : i < length names = omega arith in (
      search rules,
      held_as (made_then (λ (w : World). content_of (with_operators (take i names) w)) c.loop-i.invariant.1 c.in_ok-insert_operator.ensures.made (λ w all. is_fresh names i c.name.result.now below c.name.ensures.name c.name.ensures.limits))
          (λ w all has. name_more names i c.name.result.now below c.name.ensures.name w (state g.S.Store c.insert_operator.new.tx.conn.now) has),
    )

pub returns-in_err-insert_operator-clause-made : goal.returns-in_err-insert_operator-clause-made
returns-in_err-insert_operator-clause-made g c =
    let names = c.args.operators.now in
    let i = c.loop-i.i in
    handed_on (made_then (λ (w : World). content_of (with_operators (take i names) w)) c.loop-i.invariant.1 c.in_err-insert_operator.ensures.made
    (λ w all. is_fresh names i c.name.result.now (omega arith) c.name.ensures.name c.name.ensures.limits)) _ c.from_residual-in_err-insert_operator.ensures.1

pub returns-clause-made : goal.returns-clause-made
returns-clause-made g c =
    held_as c.loop-i.invariant.1
    (λ w all has. subst (λ (names : List (List ℕ)). Holds (content_of (with_operators names w)) (state g.S.Store c.loop-i.tx.conn.now)) (take_all c.loop-i.i c.args.operators.now (omega arith)) has)
