use Rattle.std.proofs.Common.{◌≡◌, Err, Ok, false, refl, rules, true}
use Rattle.sqlite.specs.Held.{state}
use Rattle.queue_tables.specs.Values.{operator_values}
use Rattle.queue_load.specs.Store.{IsWithOperators, has_operators}
use Rattle.queue_load.specs.Tells.{IsFormedOperator, IsNoOperator, TellsOperator}
use Rattle.queue_load.proofs.Newer.{newer_reads}
use Rattle.queue_load.proofs.Telling.{hands_on, reads_without, tells}
use Rattle.queue_load.proofs.Texts.{operators_is, operators_query, operators_reads}
use Rattle.queue_load.proofs.Versions.{with_operators, without_operators}
use Rattle.queue_load.proofs.load.read_operators.Goals as goal

pub read_table-requires : goal.read_table-requires
read_table-requires g c = record { query = operators_is.query }

pub returns-then-not-has_operators : goal.returns-then-not-has_operators
returns-then-not-has_operators g c =
    let old = state g.S.Store c.args.conn.now in
    let none : has_operators old.now.schema ≡ false = search rules in
    record { reads = λ live. reads_without old _ live (λ n schema. without_operators n old.now.schema schema none) }

pub returns-in_err-names : goal.returns-in_err-names
returns-in_err-names g c =
    let old = state g.S.Store c.args.conn.now in
    let some : has_operators old.now.schema ≡ true = search rules in
    let it = c.in_err-names.ensures in
    let reads = newer_reads operators_query operators_is has_operators IsWithOperators with_operators operators_reads TellsOperator operator_values IsFormedOperator IsNoOperator (λ t r told. told) (λ a b. refl) (λ r none t f. none t f) (Err c.in_err-names.field-0.0) some it.leaves it.same it.read it.formless in
    record { reads = λ live. hands_on _ c.in_err-names.field-0.0 c.from_residual.ensures.1 reads (λ form. form) }

pub returns : goal.returns
returns g c =
    let old = state g.S.Store c.args.conn.now in
    let some : has_operators old.now.schema ≡ true = search rules in
    let it = c.in_ok-names.ensures in
    let reads = newer_reads operators_query operators_is has_operators IsWithOperators with_operators operators_reads TellsOperator operator_values IsFormedOperator IsNoOperator (λ t r told. told) (λ a b. refl) (λ r none t f. none t f) (Ok c.in_ok-names.names.items) some it.leaves it.same it.read it.formless in
    record { reads = λ live. tells reads (λ read. read) }
