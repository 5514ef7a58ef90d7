use Rattle.std.proofs.Common.{length, length-append, ◌≡◌, ◌∷◌, ◌++◌, ◌+◌, [], ap, ◌∙◌, arith}
use Rattle.std.proofs.lemmas.List.{map_push}
use Rattle.std.specs.List.{flat_map}
use Rattle.ipp_wire.specs.Message.{attribute_bytes}
use Rattle.ipp_wire.specs.Viewed.{attribute_of, attributes_of}
use Rattle.ipp_wire.proofs.Standing.{place_of_rest, attributes_push}
use Rattle.ipp_wire.proofs.Pieces.{one_more_attribute}
use Rattle.ipp_wire.proofs.reading.attributes_at.Goals as goal

pub attributes-preserved : goal.attributes-preserved
attributes-preserved c =
    let found = c.in_ok-attr.ensures in
    let read = rw c.in-Some.is at found.ok in
    let shorter = rw c.in-Some.is at found.shorter in
    let places = rw c.in-Some.is at found.places in
    let ends = rw c.in-Some.is at found.end in
    let invariant = c.attributes.invariant in
    let bytes = c.args.bytes in
    let attrs = c.attributes.attrs.items in
    let rest = c.attributes.rest.bytes in
    let attr = c.in-Some.attr in
    let items : c.push.new.self.items ≡ attrs ++ attr ∷ [] = c.in_ok-push.ensures.items in
    let pushed : attributes_of c.push.new.self.items ≡ attributes_of attrs ++ attribute_of attr ∷ [] = ap attributes_of items ∙ map_push attribute_of attrs attr in
    let front = flat_map attribute_bytes (attributes_of attrs) in
    let whole : length bytes.now ≡ length front + length rest.now = ap length invariant.attributes.parts ∙ length-append front rest.now in
    record {
      attributes = rw pushed (one_more_attribute bytes.now (attributes_of attrs) (attribute_of attr) rest.now c.in-Some.after.now invariant.attributes read);
      no_longer = omega (arith, shorter, invariant.no_longer);
      stand = rw items (attributes_push bytes.ref_ptr rest.ref_ptr attrs attr invariant.stand (place_of_rest bytes.ref_ptr rest.ref_ptr (length bytes.now) (length rest.now) (length front) invariant.end whole) places);
      end = ends ∙ invariant.end;
    }
