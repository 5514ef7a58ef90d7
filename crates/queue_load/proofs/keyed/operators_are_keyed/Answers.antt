use Rattle.std.proofs.Common.{◌≡◌, Err, Ok, false, refl, rules, true}
use Rattle.sqlite.specs.Held.{state}
use Rattle.queue_load.specs.Keyed.{IsNoId, TellsId, id_values}
use Rattle.queue_load.specs.Store.{IsWithOperators, has_operators}
use Rattle.queue_load.proofs.KeyLemmas.{any_id, ids_formed, ids_in_order, ids_keyed}
use Rattle.queue_load.proofs.Newer.{newer_reads}
use Rattle.queue_load.proofs.Telling.{hands_on, reads_without, tells}
use Rattle.queue_load.proofs.Texts.{operator_rowids_is, operator_rowids_query, operator_rowids_reads}
use Rattle.queue_load.proofs.Versions.{lacks_operators, with_operators}
use Rattle.queue_load.proofs.keyed.operators_are_keyed.Goals as goal

pub read_table-requires : goal.read_table-requires
read_table-requires g c = record { query = operator_rowids_is.query }

pub returns-then-not-has_operators : goal.returns-then-not-has_operators
returns-then-not-has_operators g c =
    let old = state g.S.Store c.args.conn.now in
    let none : has_operators old.now.schema ≡ false = search rules in
    record { reads = λ live. reads_without old _ live (λ n schema. (λ yes third. lacks_operators old.now.schema third none, λ keyed. refl)) }

pub returns-in_err-ids : goal.returns-in_err-ids
returns-in_err-ids g c =
    let old = state g.S.Store c.args.conn.now in
    let some : has_operators old.now.schema ≡ true = search rules in
    let it = c.in_err-ids.ensures in
    let reads = newer_reads operator_rowids_query operator_rowids_is has_operators IsWithOperators with_operators operator_rowids_reads TellsId id_values any_id IsNoId (λ t r told. told) (λ a b. refl) (λ r none t f. none t) (Err c.in_err-ids.field-0.0) some it.leaves it.same it.read it.formless in
    record { reads = λ live. hands_on _ c.in_err-ids.field-0.0 c.from_residual.ensures.1 reads (λ keyed third. ids_formed (old.now.trees 17) (keyed third)) }

pub returns : goal.returns
returns g c =
    let old = state g.S.Store c.args.conn.now in
    let some : has_operators old.now.schema ≡ true = search rules in
    let it = c.in_ok-ids.ensures in
    let reads = newer_reads operator_rowids_query operator_rowids_is has_operators IsWithOperators with_operators operator_rowids_reads TellsId id_values any_id IsNoId (λ t r told. told) (λ a b. refl) (λ r none t f. none t) (Ok c.in_ok-ids.ids.items) some it.leaves it.same it.read it.formless in
    let told = rw (c.as_slice.ensures.value) at c.are_in_order.ensures in
    let ids = c.in_ok-ids.ids.items in
    record { reads = λ live. tells reads (λ read. (λ yes third. ids_keyed ids (old.now.trees 17) (told.0 yes) read.1.same, λ keyed. told.1 (ids_in_order ids (old.now.trees 17) read.1 (keyed read.0)))) }
