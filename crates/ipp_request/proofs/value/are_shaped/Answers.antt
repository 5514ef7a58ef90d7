use Rattle.std.proofs.Common.{rules, tests, ◌∙◌, sym}
use Rattle.std.proofs.lemmas.Iterator.{YieldsList-from_slice}
use Rattle.std.proofs.lemmas.Iterator.Search.{all_from_yields_List}
use Rattle.std.proofs.lemmas.List.Folds.{list_all-map}
use Rattle.ipp_wire.specs.Viewed.{value_of}
use Rattle.ipp_request.specs.Values.{is_shaped}
use Rattle.ipp_wire.specs.declared.view.ValueView.{ValueView}
use Rattle.ipp_request.proofs.value.are_shaped.Goals as goal

pub returns : goal.returns
returns c =
    all_from_yields_List (λ (v : ValueView). is_shaped c.args.syntax (value_of v)) _ _ _ c.all.ensures.ran (YieldsList-from_slice c.args.values.now cc) (λ x b q k. search (rules, tests))
    ∙ sym (list_all-map (is_shaped c.args.syntax) value_of c.args.values.now)
