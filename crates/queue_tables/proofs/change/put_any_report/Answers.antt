use Rattle.sqlite.specs.Held.{state}
use Rattle.queue_core.specs.World.{World}
use Rattle.queue_tables.specs.Content.{content_of}
use Rattle.queue_tables.specs.Steps.{CanKeep}
use Rattle.queue_tables.proofs.Added.{can_add_report}
use Rattle.queue_tables.proofs.Kept.{report_added}
use Rattle.queue_tables.proofs.Making.{held_as, seen_as}
use Rattle.queue_tables.proofs.change.put_any_report.Goals as goal

pub returns-in-Some-clause-made : goal.returns-in-Some-clause-made
returns-in-Some-clause-made g c =
    let k = c.in-Some.kept in
    rw c.in-Some.is (held_as (seen_as c.insert_report.ensures.made content_of (λ (w : World) (can : CanKeep k w). can_add_report k w can)) (λ w can has. report_added k w (state g.S.Store c.insert_report.new.tx.conn.now) can.fresh has))
