use Rattle.std.proofs.Common.{◌≡◌, ◌≤◌, length}
use Rattle.ipp_wire.specs.Viewed.{attributes_of}
use Rattle.ipp_wire.specs.Reading.{ReadAttributes}
use Rattle.ipp_wire.specs.Places.{end_of, AttributesStand}
use Rattle.ipp_wire.proofs.reading.attributes_at.Given as goal

abbrev pub invariant-attributes : goal.invariant-attributes
invariant-attributes l = record {
  attributes : ReadAttributes l.bytes (attributes_of l.attrs.items) l.rest.bytes.now;
  no_longer : length l.rest.bytes.now ≤ length l.bytes;
  stand : AttributesStand l.initial.rest.bytes.ref_ptr l.attrs.items;
  end : end_of l.rest.bytes ≡ end_of l.initial.rest.bytes;
}

abbrev pub decreases-attributes : goal.decreases-attributes
decreases-attributes l = length l.rest.bytes.now
