use Rattle.std.proofs.Common.{rules, arith, take, List, subst}
use Rattle.std.proofs.lemmas.List.{take_all}
use Rattle.sqlite.specs.Held.{state}
use Rattle.queue_types.specs.declared.event.FreeRow.{FreeRow}
use Rattle.queue_tables.specs.Content.{Holds, content_of}
use Rattle.queue_tables.specs.Steps.{with_frees}
use Rattle.queue_tables.proofs.Frees.{covered_yet, free_more}
use Rattle.queue_tables.proofs.Making.{handed_on, held_as, made_then}
use Rattle.queue_tables.proofs.account_rows.put_frees.Goals as goal

pub loop-account-preserved : goal.loop-account-preserved
loop-account-preserved g c = (
  search rules,
  (let yet = take c.loop-account.account-index c.args.accounts.now in
      held_as (made_then (with_frees yet) c.loop-account.invariant.1 c.in_ok-put_free.ensures.made (λ w covered. covered_yet yet w covered))
      (λ w covered has. free_more c.args.accounts.now c.loop-account.account-index c.account-item.result w (state g.S.Store c.put_free.new.tx.conn.now) (omega arith) c.account-item.is has)),
)

pub returns-in_err-put_free-clause-made : goal.returns-in_err-put_free-clause-made
returns-in_err-put_free-clause-made g c =
    let yet = take c.loop-account.account-index c.args.accounts.now in
    handed_on (made_then (with_frees yet) c.loop-account.invariant.1 c.in_err-put_free.ensures.made (λ w covered. covered_yet yet w covered)) _ c.from_residual.ensures.1

pub returns-clause-made : goal.returns-clause-made
returns-clause-made g c =
    held_as c.loop-account.invariant.1
    (λ w covered has. subst (λ (rows : List FreeRow). Holds (content_of (with_frees rows w)) (state g.S.Store c.loop-account.tx.conn.now)) (take_all c.loop-account.account-index c.args.accounts.now (omega arith)) has)
