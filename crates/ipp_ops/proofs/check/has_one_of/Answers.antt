use Rattle.std.proofs.Common.{rules, tests, ◌∙◌, sym, Bor, List}
use Rattle.std.proofs.lemmas.Iterator.{YieldsList-from_slice}
use Rattle.std.proofs.lemmas.Iterator.Search.{any_from_yields_List}
use Rattle.std.specs.List.{list_all}
use Rattle.ipp_request.specs.declared.attribute.OperationAttribute.{OperationAttribute}
use Rattle.ipp_request.specs.Request.{has, request_of}
use Rattle.ipp_request.proofs.Lists.{list_any_map}
use Rattle.ipp_ops.proofs.check.has_one_of.Goals as goal

pub returns : goal.returns
returns c =
    any_from_yields_List (λ (ks : Bor (List OperationAttribute)). list_all (has (request_of c.args.request)) ks.now) _ _ _ c.any.ensures.ran (YieldsList-from_slice c.args.lists.now cc) (λ x b q k. search (rules, tests))
    ∙ sym (list_any_map (λ (ks : List OperationAttribute). list_all (has (request_of c.args.request)) ks) (λ (ks : Bor (List OperationAttribute)). ks.now) c.args.lists.now)
