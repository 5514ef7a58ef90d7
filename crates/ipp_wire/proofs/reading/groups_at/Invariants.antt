use Rattle.std.proofs.Common.{◌≡◌, length}
use Rattle.ipp_wire.specs.Viewed.{groups_of}
use Rattle.ipp_wire.specs.Places.{end_of, GroupsStand}
use Rattle.ipp_wire.proofs.Pieces.{ReadGroups}
use Rattle.ipp_wire.proofs.reading.groups_at.Given as goal

abbrev pub invariant-groups : goal.invariant-groups
invariant-groups l = record {
  groups : ReadGroups l.bytes (groups_of l.groups.items) l.rest.bytes.now;
  stand : GroupsStand l.initial.rest.bytes.ref_ptr l.groups.items;
  end : end_of l.rest.bytes ≡ end_of l.initial.rest.bytes;
}

abbrev pub decreases-groups : goal.decreases-groups
decreases-groups l = length l.rest.bytes.now
