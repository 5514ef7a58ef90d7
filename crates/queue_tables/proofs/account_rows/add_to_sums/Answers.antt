use Rattle.sqlite.specs.Held.{state}
use Rattle.std.proofs.Common.{◌≡◌, pos, rules, arith}
use Rattle.std.proofs.lemmas.Int.{ints}
use Rattle.queue_tables.proofs.Making.{made_already, made_by}
use Rattle.queue_tables.proofs.Opened.{held_others}
use Rattle.queue_tables.proofs.Renewing.{sums_stand}
use Rattle.queue_tables.proofs.Statements.{update_sums_text}
use Rattle.queue_tables.proofs.Sums.{adds_nothing, adds_sums, sums_params}
use Rattle.queue_tables.proofs.account_rows.add_to_sums.Goals as goal

pub returns-then-more-eq0-2-clause-made : goal.returns-then-more-eq0-2-clause-made
returns-then-more-eq0-2-clause-made g c =
    let none_reserved : c.args.more.reserved ≡ pos 0 = first_of (search rules, omega (arith, ints)) in
    let none_printed : c.args.more.printed ≡ pos 0 = first_of (search rules, omega (arith, ints)) in
    made_already (λ content can has. adds_nothing c.args.name.now c.args.more.reserved c.args.more.printed content (state g.S.Store c.args.tx.now.conn.now) none_reserved none_printed has can)

pub returns-clause-made : goal.returns-clause-made
returns-clause-made g c =
    let old = state g.S.Store c.args.tx.now.conn.now in
    let new = state g.S.Store c.write.new.tx.conn.now in
    let name = c.args.name.now in
    let more = c.args.more in
    made_by (rw (c.params-to_sql.ensures, c.params-to_sql-2.ensures, c.params-to_sql-3.ensures) at c.write.ensures.wrote)
    (λ content can has count ran. adds_sums old new name more.reserved more.printed count content has can ran)
    (λ content can has refused. held_others update_sums_text (sums_params name more.reserved more.printed) old new content (sums_stand old new name more.reserved more.printed content can) refused has)
