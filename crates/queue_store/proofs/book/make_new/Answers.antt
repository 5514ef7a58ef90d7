use Rattle.std.proofs.Common.{IsTrue, rules, refl, ◌∙◌}
use Rattle.sqlite.specs.Held.{state}
use Rattle.queue_core.specs.World.{empty_queue}
use Rattle.queue_store.specs.New.{new_content}
use Rattle.queue_store.proofs.Empty.{new_is}
use Rattle.queue_store.proofs.Making.{none_made}
use Rattle.queue_store.proofs.book.make_new.Goals as goal

pub returns-then-has_any_name-clause-makes : goal.returns-then-has_any_name-clause-makes
returns-then-has_any_name-clause-makes g c = none_made (empty_queue c.args.settings.now) (state g.S.Store c.args.conn.now) _ _ refl

pub returns-then-not-is_blank-clause-makes : goal.returns-then-not-is_blank-clause-makes
returns-then-not-is_blank-clause-makes g c = none_made (empty_queue c.args.settings.now) (state g.S.Store c.args.conn.now) _ _ refl

pub returns-in_err-meta-clause-makes : goal.returns-in_err-meta-clause-makes
returns-in_err-meta-clause-makes g c = none_made (empty_queue c.args.settings.now) (state g.S.Store c.args.conn.now) _ _ c.from_residual.ensures.1

pub returns-clause-makes : goal.returns-clause-makes
returns-clause-makes g c =
    let blank : IsTrue c.is_blank.result = search rules in
    c.make_tables.ensures.makes (c.is_blank.ensures.0 blank) (empty_queue c.args.settings.now) ((λ i. new_content (c.in_ok-meta.ensures i) (c.policy_row-policy.ensures i) (c.operators.ensures.operators i)) ∙ new_is c.args.settings.now)
