use Rattle.std.proofs.Common.{◌≡◌, ℕ, ◌≤◌, ◌<◌, length}
use Rattle.ipp_wire.specs.Viewed.{values_of}
use Rattle.ipp_wire.specs.Places.{byte_add, end_of, ValuesStand}
use Rattle.ipp_wire.proofs.Pieces.{ReadValues}
use Rattle.ipp_wire.proofs.reading.attribute_at.Given as goal

abbrev pub invariant-values : goal.invariant-values
invariant-values l = record {
  values : ReadValues l.bytes l.name (values_of l.values.items) l.depth l.rest.bytes.now;
  shallow : l.depth ≤ 8;
  shorter : length l.rest.bytes.now < length l.bytes;
  stand : (at : ℕ × ℕ) → byte_add at (length l.bytes) ≡ end_of l.rest.bytes → ValuesStand at (length l.name) l.values.items;
  end : end_of l.rest.bytes ≡ end_of l.initial.rest.bytes;
}

abbrev pub decreases-values : goal.decreases-values
decreases-values l = length l.rest.bytes.now
