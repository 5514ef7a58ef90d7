use Rattle.std.proofs.Common.{refl, arith, ap, ◌∙◌}
use Rattle.std.proofs.lemmas.List.{take_all}
use Rattle.queue_core.specs.Totals.{total, total_in}
use Rattle.queue_core.proofs.AmountLemmas.{total_more}
use Rattle.queue_core.proofs.totals.totals.Goals as goal

pub loop-row-init : goal.loop-row-init
unfolding total_in
loop-row-init g c = record { sums = λ name amount told q. grind arith; small = λ q. grind arith }

pub add-requires : goal.add-requires
add-requires g c = omega (arith, c.loop-row.invariant.small c.amount_of-amount.result.0.now)

pub loop-row-preserved : goal.loop-row-preserved
loop-row-preserved g c =
    let item = c.row-item.result in
    let pair = c.amount_of-amount.result in
    record {
      sums = λ name amount told q.
          let here = told item pair (record { shown = _; shows = refl; says = record { met = c.amount_of-amount.ensures } }) in
          total_more name amount q c.args.rows.now c.loop-row.row-index item pair _ _ (omega arith) c.row-item.is here (c.loop-row.invariant.sums name amount told q) (c.in_ok-add.ensures.added q);
      small = λ q. grind (arith, c.loop-row.invariant.small q, c.in_ok-add.ensures.added q, c.add.ensures.fits);
    }

pub returns : goal.returns
returns g c = λ name amount told q.
    c.loop-row.invariant.sums name amount told q ∙ ap (total name amount q) (take_all c.loop-row.row-index c.args.rows.now (omega (arith, c.loop-row-test.false)))
