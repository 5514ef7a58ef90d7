use Rattle.std.proofs.Common.{◌≡◌, Err, Ok, false, refl, rules, true}
use Rattle.sqlite.specs.Held.{state}
use Rattle.queue_tables.specs.Values.{policy_values}
use Rattle.queue_load.specs.Store.{IsWithPolicy, has_policy}
use Rattle.queue_load.specs.Tells.{IsFormedPolicy, IsNoPolicy, TellsPolicy}
use Rattle.queue_load.proofs.Newer.{newer_reads}
use Rattle.queue_load.proofs.Telling.{hands_on, reads_without, tells}
use Rattle.queue_load.proofs.Texts.{policy_is, policy_query, policy_reads}
use Rattle.queue_load.proofs.Versions.{with_policy, without_policy}
use Rattle.queue_load.proofs.load.read_policy.Goals as goal

pub read_table-requires : goal.read_table-requires
read_table-requires g c = record { query = policy_is.query }

pub returns-then-not-has_policy : goal.returns-then-not-has_policy
returns-then-not-has_policy g c =
    let old = state g.S.Store c.args.conn.now in
    let none : has_policy old.now.schema ≡ false = search rules in
    record { reads = λ live. reads_without old _ live (λ n schema. without_policy n old.now.schema schema none) }

pub returns-in_err-rows : goal.returns-in_err-rows
returns-in_err-rows g c =
    let old = state g.S.Store c.args.conn.now in
    let some : has_policy old.now.schema ≡ true = search rules in
    let it = c.in_err-rows.ensures in
    let reads = newer_reads policy_query policy_is has_policy IsWithPolicy with_policy policy_reads TellsPolicy policy_values IsFormedPolicy IsNoPolicy (λ t r told. told) (λ a b. refl) (λ r none t f. none t f) (Err c.in_err-rows.field-0.0) some it.leaves it.same it.read it.formless in
    record { reads = λ live. hands_on _ c.in_err-rows.field-0.0 c.from_residual.ensures.1 reads (λ form. form) }

pub returns : goal.returns
returns g c =
    let old = state g.S.Store c.args.conn.now in
    let some : has_policy old.now.schema ≡ true = search rules in
    let it = c.in_ok-rows.ensures in
    let reads = newer_reads policy_query policy_is has_policy IsWithPolicy with_policy policy_reads TellsPolicy policy_values IsFormedPolicy IsNoPolicy (λ t r told. told) (λ a b. refl) (λ r none t f. none t f) (Ok c.in_ok-rows.rows.items) some it.leaves it.same it.read it.formless in
    record { reads = λ live. tells reads (λ read. read) }
