use Rattle.std.proofs.Common.{◌≡◌, ◌+◌, ◌<◌, ◌++◌, ◌∷◌, [], length, ap, sym, ◌∙◌, length-append, arith}
use Rattle.std.proofs.lemmas.List.{map_push, length-map}
use Rattle.ipp_wire.specs.Message.{values_under}
use Rattle.ipp_wire.specs.Viewed.{value_of, values_of}
use Rattle.ipp_wire.proofs.Pieces.{one_more_value}
use Rattle.ipp_wire.proofs.Standing.{place_of_rest, values_push}
use Rattle.ipp_wire.proofs.reading.attribute_at.Goals as goal

pub values-preserved : goal.values-preserved
values-preserved c =
    let found = c.in-Some-further_at in
    let invariant = c.values.invariant in
    let bytes = c.args.bytes.now in
    let name = c.in-Some.first.name.now in
    let vs = c.values.values.items in
    let rest = c.values.rest.bytes in
    let v = found.further.value in
    let items : c.push.new.self.items ≡ vs ++ v ∷ [] = c.in_ok-push.ensures.items in
    let pushed : values_of c.push.new.self.items ≡ values_of vs ++ value_of v ∷ [] = ap values_of items ∙ map_push value_of vs v in
    let long : 0 < length vs = omega (arith, invariant.values.fits.valued, length-map vs value_of) in
    let whole : length bytes ≡ length (values_under name (values_of vs)) + length rest.now = ap length invariant.values.parts ∙ length-append (values_under name (values_of vs)) rest.now in
    record {
      values = rw pushed (one_more_value bytes name (values_of vs) c.values.depth found.deeper rest.now found.further.rest.now (value_of v) invariant.values found.ensures.some found.ensures.nested found.ensures.depth);
      shallow = found.ensures.deepest;
      shorter = omega (arith, invariant.shorter, found.ensures.shorter);
      stand = λ at e.
          let ends = e ∙ found.ensures.end in
          rw items (values_push at rest.ref_ptr name vs v long (invariant.stand at ends) (place_of_rest at rest.ref_ptr (length bytes) (length rest.now) (length (values_under name (values_of vs))) (sym ends) whole) found.ensures.value_place);
      end = found.ensures.end ∙ invariant.end;
    }
