use Rattle.std.proofs.Common.{◌≡◌, List, arith, add-one, ap, sym, ◌∙◌, get_or, take}
use Rattle.ipp_wire.specs.Message.{Attribute, Group, Message}
use Rattle.ipp_wire.specs.Owned.{add_attribute}
use Rattle.ipp_wire.specs.Viewed.{attribute_of, attributes_of, values_of}
use Rattle.ipp_reply.proofs.Put.{attribute_at, add_all, add_more}
use Rattle.ipp_reply.proofs.reply.put_attributes.Goals as goal

pub attribute-requires-clause-fits : goal.attribute-requires-clause-fits
attribute-requires-clause-fits c =
    let fits = attribute_at c.args.attrs.now c.loop-attribute.attribute-index c.attribute-item.result c.requires.fits c.loop-attribute-test.true in
    rw c.as_slice.ensures.value (rw (← c.attribute-item.is) at fits)

pub loop-attribute-preserved : goal.loop-attribute-preserved
loop-attribute-preserved c =
    let gs = c.args.message.now.groups in
    let xs = c.args.attrs.now in
    let i = c.loop-attribute.attribute-index in
    let more = add_more gs xs i c.attribute-item.result c.loop-attribute-test.true in
    let item : attribute_of (get_or xs i c.attribute-item.result) ≡ record { name = c.attribute-item.result.name.now; values = values_of c.as_slice.result.now } =
    ap attribute_of (sym c.attribute-item.is) ∙ ap (λ vs. let a : Attribute = record { name = c.attribute-item.result.name.now; values = values_of vs } in a) (sym c.as_slice.ensures.value) in (
      omega (arith, c.in_ok-attribute.ensures.still_begun, c.loop-attribute.invariant.0),
      rw (c.in_ok-attribute.ensures.ok, c.loop-attribute.invariant.1, add-one)
          (ap (λ (x : List Group). let m : Message = record c.args.message.now { groups = x } in m)
          (ap (λ (a : Attribute). add_attribute a (add_all gs (take i (attributes_of xs)))) (sym item) ∙ sym more)),
    )
