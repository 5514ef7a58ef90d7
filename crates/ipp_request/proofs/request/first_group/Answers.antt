use Rattle.std.proofs.Common.{rules, tests, ◌∙◌, sym, ap, ◌==◌}
use Rattle.std.proofs.lemmas.Iterator.{YieldsList-from_slice}
use Rattle.std.proofs.lemmas.Iterator.Search.{find_from_yields_List}
use Rattle.std.specs.Option.{option_map}
use Rattle.ipp_wire.specs.Message.{Group}
use Rattle.ipp_wire.specs.Viewed.{group_of}
use Rattle.ipp_wire.specs.declared.view.GroupView.{GroupView}
use Rattle.ipp_request.proofs.Lists.{find_map}
use Rattle.ipp_request.proofs.request.first_group.Goals as goal

pub returns : goal.returns
returns c =
    ap (option_map group_of) (find_from_yields_List (λ (g : GroupView). g.tag == c.args.tag) _ _ c.find.result c.find.ensures.ran (YieldsList-from_slice c.args.groups.now cc) (λ x b q k. search (rules, tests)))
    ∙ sym (find_map (λ (g : Group). g.tag == c.args.tag) group_of c.args.groups.now)
