use Rattle.std.proofs.Common.{◌≡◌, ◌==◌, ◌≤◌, ◌<◌, ℕ, map, take, get_or, true}
use Rattle.std.specs.List.{range_with_len}
use Rattle.queue_rows.specs.declared.rows.DocumentRow.{DocumentRow}
use Rattle.queue_rows.proofs.documents.leading_documents.Given as goal

abbrev pub invariant-loop-document : goal.invariant-loop-document
invariant-loop-document l = record {
  place : l.count ≡ l.document-index;
  few : l.count ≤ 16;
  theirs : (k : ℕ) (d : DocumentRow) → k < l.count → (get_or l.documents k d).job == l.number ≡ true;
  numbered : map (λ (d : DocumentRow). d.doc) (take l.count l.documents) ≡ range_with_len 1 l.count;
}
