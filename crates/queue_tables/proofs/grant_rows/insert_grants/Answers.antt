use Rattle.std.proofs.Common.{rules, arith, take, List, subst}
use Rattle.std.proofs.lemmas.List.{take_all}
use Rattle.sqlite.specs.Held.{state}
use Rattle.queue_types.specs.declared.event.GrantRow.{GrantRow}
use Rattle.queue_core.specs.World.{World}
use Rattle.queue_tables.specs.Content.{Holds, content_of}
use Rattle.queue_tables.specs.Steps.{CanGrant, with_grants}
use Rattle.queue_tables.proofs.Added.{can_grant_next}
use Rattle.queue_tables.proofs.Kept.{grant_more}
use Rattle.queue_tables.proofs.Making.{handed_on, held_as, made_then}
use Rattle.queue_tables.proofs.grant_rows.insert_grants.Goals as goal

pub loop-grant-preserved : goal.loop-grant-preserved
loop-grant-preserved g c = (
  search rules,
  (let rows = c.args.grants.now in
      let k = c.loop-grant.grant-index in
      let x = c.grant-item.result in
      held_as (made_then (λ (w : World). content_of (with_grants (take k rows) w)) c.loop-grant.invariant.1 c.in_ok-insert_grant.ensures.made (λ w can. can_grant_next rows k x w (omega arith) c.grant-item.is can))
      (λ w (can : CanGrant rows w) has. grant_more rows k x w (state g.S.Store c.insert_grant.new.tx.conn.now) (omega arith) c.grant-item.is can.fresh has)),
)

pub returns-in_err-insert_grant-clause-made : goal.returns-in_err-insert_grant-clause-made
returns-in_err-insert_grant-clause-made g c =
    let rows = c.args.grants.now in
    let k = c.loop-grant.grant-index in
    handed_on (made_then (λ (w : World). content_of (with_grants (take k rows) w)) c.loop-grant.invariant.1 c.in_err-insert_grant.ensures.made (λ w can. can_grant_next rows k c.grant-item.result w (omega arith) c.grant-item.is can))
    _ c.from_residual.ensures.1

pub returns-clause-made : goal.returns-clause-made
returns-clause-made g c =
    held_as c.loop-grant.invariant.1
    (λ w can has. subst (λ (rows : List GrantRow). Holds (content_of (with_grants rows w)) (state g.S.Store c.loop-grant.tx.conn.now)) (take_all c.loop-grant.grant-index c.args.grants.now (omega arith)) has)
