use Rattle.std.proofs.Common.{rules, tests, ◌∙◌, sym}
use Rattle.std.proofs.lemmas.Iterator.{YieldsList-from_slice}
use Rattle.std.proofs.lemmas.Iterator.Search.{any_from_yields_List}
use Rattle.ipp_wire.specs.Message.{Attribute}
use Rattle.ipp_wire.specs.Viewed.{attribute_of}
use Rattle.ipp_request.specs.Unsupported.{is_known}
use Rattle.ipp_wire.specs.declared.view.AttrView.{AttrView}
use Rattle.ipp_request.proofs.Lists.{list_any_map}
use Rattle.ipp_request.proofs.unsupported.lists_known.Goals as goal

pub returns : goal.returns
returns c =
    any_from_yields_List (λ (a : AttrView). is_known c.args.operation (attribute_of a).name) _ _ _ c.any.ensures.ran (YieldsList-from_slice c.args.attrs.now cc) (λ x b q k. search (rules, tests))
    ∙ sym (list_any_map (λ (a : Attribute). is_known c.args.operation a.name) attribute_of c.args.attrs.now)
