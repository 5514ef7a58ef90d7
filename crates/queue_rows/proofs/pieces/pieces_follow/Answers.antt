use Rattle.std.proofs.Common.{arith, length, ap, sym, ◌∙◌, eq-eqb}
use Rattle.std.proofs.lemmas.Bool.{eqb-true}
use Rattle.std.proofs.lemmas.List.{nil_from_length}
use Rattle.queue_rows.proofs.Defaults.{no_document}
use Rattle.queue_rows.specs.Pieces.{pieces_of}
use Rattle.queue_rows.proofs.RunLemmas.{left_more, left_fails, left_all}
use Rattle.queue_rows.proofs.pieces.pieces_follow.Goals as goal

pub loop-document-init : goal.loop-document-init
loop-document-init c = (λ h. h, λ h. h)

pub returns-in_default : goal.returns-in_default
returns-in_default c = (λ t. absurd cc, λ all. absurd (left_fails pieces_of c.args.documents.now c.args.pieces.now c.loop-document.document-index no_document c.loop-document.rest.now (omega arith) c.loop-document.invariant c.in_default.ensures all))

pub loop-document-preserved : goal.loop-document-preserved
loop-document-preserved c = left_more pieces_of c.args.documents.now c.args.pieces.now c.loop-document.document-index no_document c.loop-document.rest.now c.in-Some.behind.now (omega arith) c.loop-document.invariant c.in-Some.ensures

pub returns : goal.returns
returns c =
    let ends = left_all pieces_of c.args.documents.now c.args.pieces.now c.loop-document.document-index c.loop-document.rest.now (omega (arith, c.loop-document-test.false)) c.loop-document.invariant in
    (λ t. ends.0 (nil_from_length c.loop-document.rest.now (eqb-true _ _ (sym c.is_empty.ensures ∙ t))), λ all. c.is_empty.ensures ∙ eq-eqb (length c.loop-document.rest.now) 0 (ap length (ends.1 all)))
