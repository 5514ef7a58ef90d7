use Rattle.std.proofs.Common.{◌≡◌, List, ◌∷◌, ◌++◌, [], true, false, take, ap, sym, ◌∙◌, ◌+◌}
use Rattle.std.specs.List.{filter_map}
use Rattle.std.specs.Option.{option_to_list}
use Rattle.std.proofs.lemmas.Bool.{not-false, not-true}
use Rattle.ipp_wire.specs.Message.{Attribute}
use Rattle.ipp_wire.specs.declared.view.AttrView.{AttrView}
use Rattle.ipp_wire.specs.Viewed.{attribute_of, attributes_of}
use Rattle.ipp_request.specs.Unsupported.{counted, listed}
use Rattle.ipp_request.proofs.Listing.{has_name, first_listed, later_skipped, names_more, attributes_more}
use Rattle.ipp_request.proofs.unsupported.listed_in.Goals as goal

pub loop-attribute-preserved-then-not-branch : goal.loop-attribute-preserved-then-not-branch
loop-attribute-preserved-then-not-branch c =
    let before = attributes_of (take c.loop-attribute.attribute-index c.args.attrs.now) in
    let x = attribute_of c.attribute-item.result in
    let more : attributes_of (take (c.loop-attribute.attribute-index + 1) c.args.attrs.now) ≡ before ++ x ∷ [] =
    attributes_more c.args.attrs.now c.loop-attribute.attribute-index c.attribute-item.result c.loop-attribute-test.true ∙ ap (λ (a : AttrView). before ++ attribute_of a ∷ []) (sym c.attribute-item.is) in
    let seen : has_name before x.name ≡ true = sym (c.loop-attribute.invariant.1 c.attribute-item.result.name) ∙ not-false _ (sym c.in_ok-insert.ensures.added ∙ c.if-not-branch.true) in (
      c.loop-attribute.invariant.0 ∙ sym (ap (λ (t : List Attribute). filter_map (listed c.args.source) (counted t)) more ∙ later_skipped c.args.source before x seen),
      λ q. c.in_ok-insert.ensures.updates.0 q ∙ names_more before x q.now _ (c.loop-attribute.invariant.1 q) ∙ ap (λ (t : List Attribute). has_name t q.now) (sym more),
    )

pub loop-attribute-preserved : goal.loop-attribute-preserved
loop-attribute-preserved c =
    let before = attributes_of (take c.loop-attribute.attribute-index c.args.attrs.now) in
    let x = attribute_of c.attribute-item.result in
    let more : attributes_of (take (c.loop-attribute.attribute-index + 1) c.args.attrs.now) ≡ before ++ x ∷ [] =
    attributes_more c.args.attrs.now c.loop-attribute.attribute-index c.attribute-item.result c.loop-attribute-test.true ∙ ap (λ (a : AttrView). before ++ attribute_of a ∷ []) (sym c.attribute-item.is) in
    let seen : has_name before x.name ≡ false = sym (c.loop-attribute.invariant.1 c.attribute-item.result.name) ∙ not-true _ (sym c.in_ok-insert.ensures.added ∙ c.if-not-branch.false) in (
      c.in_ok-push_listed.ensures ∙ ap (λ (t : List Attribute). t ++ option_to_list (listed c.args.source x)) c.loop-attribute.invariant.0
          ∙ sym (ap (λ (t : List Attribute). filter_map (listed c.args.source) (counted t)) more ∙ first_listed c.args.source before x seen),
      λ q. c.in_ok-insert.ensures.updates.0 q ∙ names_more before x q.now _ (c.loop-attribute.invariant.1 q) ∙ ap (λ (t : List Attribute). has_name t q.now) (sym more),
    )
