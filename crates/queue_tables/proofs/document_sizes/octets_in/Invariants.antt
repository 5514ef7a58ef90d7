use Rattle.std.proofs.Common.{◌≡◌, ◌≤◌, ◌*◌, take}
use Rattle.std.specs.Prelude.{sum_by}
use Rattle.queue_tables.specs.Sizes.{first_number}
use Rattle.queue_tables.proofs.document_sizes.octets_in.Given as goal

abbrev pub invariant-loop-row : goal.invariant-loop-row
invariant-loop-row l = record { sum : l.octets ≡ sum_by first_number (take l.row-index l.rows); most : l.octets ≤ l.row-index * 4294967295 }
