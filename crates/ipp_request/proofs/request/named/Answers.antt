use Rattle.std.proofs.Common.{rules, tests, ◌∙◌, sym, ap}
use Rattle.std.proofs.lemmas.Iterator.{YieldsList-from_slice}
use Rattle.std.proofs.lemmas.Iterator.Search.{find_from_yields_List}
use Rattle.std.specs.Prelude.{bytes_eq}
use Rattle.std.specs.Option.{option_map}
use Rattle.ipp_wire.specs.Message.{Attribute}
use Rattle.ipp_wire.specs.Viewed.{attribute_of}
use Rattle.ipp_wire.specs.declared.view.AttrView.{AttrView}
use Rattle.ipp_request.proofs.Lists.{find_map}
use Rattle.ipp_request.proofs.request.named.Goals as goal

pub returns : goal.returns
returns c =
    ap (option_map attribute_of) (find_from_yields_List (λ (a : AttrView). bytes_eq a.name.now c.args.name.now) _ _ c.find.result c.find.ensures.ran (YieldsList-from_slice c.args.attrs.now cc) (λ x b q k. search (rules, tests)))
    ∙ sym (find_map (λ (a : Attribute). bytes_eq a.name c.args.name.now) attribute_of c.args.attrs.now)
