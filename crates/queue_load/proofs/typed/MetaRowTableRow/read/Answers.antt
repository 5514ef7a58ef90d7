use Rattle.std.proofs.Common.{ℤ, FitsSigned, w64, rules, sym, ap, ◌∙◌}
use Rattle.std.proofs.lemmas.Int.{to_z-of_z}
use Rattle.sqlite.specs.declared.types.Value.TheVariants.{Int}
use Rattle.queue_load.proofs.Columns.{seven, same_seven}
use Rattle.queue_load.proofs.typed.MetaRowTableRow.read.Goals as goal

pub returns-clause-ok : goal.returns-clause-ok
returns-clause-ok c = λ len.
    let epoch = c.in_ok-value-4.field-0 in
    let fits : FitsSigned w64 epoch = search rules in
    seven c.args.row.now len
    ∙ same_seven c.in_ok-value.ensures.ok c.in_ok-value-2.ensures.ok c.in_ok-text.ensures.ok c.in_ok-text-2.ensures.ok c.in_ok-value-3.ensures.ok
    (c.in_ok-value-4.ensures.ok ∙ ap (λ (z : ℤ). Int z) (sym (to_z-of_z w64 epoch fits))) c.in_ok-value-5.ensures.ok
