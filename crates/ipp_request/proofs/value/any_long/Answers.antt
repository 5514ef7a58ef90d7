use Rattle.std.proofs.Common.{rules, tests, ◌∙◌, sym}
use Rattle.std.proofs.lemmas.Iterator.{YieldsList-from_slice}
use Rattle.std.proofs.lemmas.Iterator.Search.{any_from_yields_List}
use Rattle.ipp_wire.specs.Viewed.{value_of}
use Rattle.ipp_request.specs.Values.{is_long}
use Rattle.ipp_wire.specs.declared.view.ValueView.{ValueView}
use Rattle.ipp_request.proofs.Lists.{list_any_map}
use Rattle.ipp_request.proofs.value.any_long.Goals as goal

pub returns : goal.returns
returns c =
    any_from_yields_List (λ (v : ValueView). is_long c.args.row.now.syntax (value_of v)) _ _ _ c.any.ensures.ran (YieldsList-from_slice c.args.values.now cc) (λ x b q k. search (rules, tests))
    ∙ sym (list_any_map (is_long c.args.row.now.syntax) value_of c.args.values.now)
