use Rattle.std.proofs.Common.{◌+◌, ◌≡◌}
use Rattle.sqlite.specs.Held.{state}
use Rattle.queue_core.specs.World.{World}
use Rattle.queue_types.specs.Event.{NewDocument}
use Rattle.queue_tables.specs.Content.{content_of}
use Rattle.queue_tables.specs.Steps.{CanTake, document_count_at, with_document_row}
use Rattle.queue_tables.specs.Values.{document_values}
use Rattle.queue_tables.proofs.Added.{can_add_document, can_add_pieces}
use Rattle.queue_tables.proofs.Documents.{added_holds, plain_of, row_of}
use Rattle.queue_tables.proofs.Making.{handed_on, held_as, made_then, read_then, seen_as, unread}
use Rattle.queue_tables.proofs.document_rows.add_document.Goals as goal

pub returns-in_err-doc-clause-made : goal.returns-in_err-doc-clause-made
returns-in_err-doc-clause-made g c = unread c.in_err-doc.ensures.reads (λ w takes. (takes.distinct, takes.few)) _ c.from_residual.ensures.1

pub returns-in_err-insert_document-clause-made : goal.returns-in_err-insert_document-clause-made
returns-in_err-insert_document-clause-made g c =
    let d : NewDocument = record { job = c.args.job; format = c.args.format; bytes = c.args.bytes.now } in
    let n = c.in_ok-doc.field-0 in
    let added = seen_as c.in_err-insert_document.ensures.made content_of (λ (w : World) (it : CanTake d w × (n ≡ document_count_at d.job w.jobs)). can_add_document d n w it.0 it.1) in
    handed_on (read_then c.in_ok-doc.ensures.reads added (λ w takes. (takes.distinct, takes.few)) (λ w takes is. (takes, is))) _ c.from_residual-in_err-insert_document.ensures.1

pub returns-clause-made : goal.returns-clause-made
returns-clause-made g c =
    let d : NewDocument = record { job = c.args.job; format = c.args.format; bytes = c.args.bytes.now } in
    let n = c.in_ok-doc.field-0 in
    let added = seen_as c.in_ok-insert_document.ensures.made content_of (λ (w : World) (it : CanTake d w × (n ≡ document_count_at d.job w.jobs)). can_add_document d n w it.0 it.1) in
    let with_pieces = made_then (λ w. with_document_row (document_values (row_of d.job (n + 1) (plain_of d))) (content_of w)) added c.insert_pieces.ensures.made (λ w it. can_add_pieces d n w it.0 it.1) in
    let whole = held_as with_pieces (λ w it has. added_holds d w it.0.job (state g.S.Store c.insert_pieces.new.tx.conn.now) it.0.distinct it.0.there (rw it.1 at has)) in
    read_then c.in_ok-doc.ensures.reads whole (λ w takes. (takes.distinct, takes.few)) (λ w takes is. (takes, is))
