use Rattle.std.proofs.Common.{◌≡◌, ℕ, ◌+◌, ◌<◌, ◌++◌, List, [], ◌∷◌, length, get_or, arith, sym, ap, subst, ◌∙◌, ne_eqb}
use Rattle.std.specs.List.{range_with_len}
use Rattle.std.proofs.lemmas.List.{map_more, get_or_default}
use Rattle.std.proofs.lemmas.List.Sums.{prefix_len_is}
use Rattle.queue_rows.proofs.Defaults.{no_document}
use Rattle.queue_rows.specs.Documents.{next_of}
use Rattle.queue_rows.proofs.GroupLemmas.{doc_of, is_of, group_is, too_many, misnumbered, all_more, range_more}
use Rattle.queue_rows.proofs.documents.leading_documents.Goals as goal

pub returns-then-document-number : goal.returns-then-document-number
returns-then-document-number c =
    let inv = c.loop-document.invariant in
    let ends : next_of c.args.number c.args.documents.now ≡ c.loop-document.count
    = prefix_len_is (is_of c.args.number) c.args.documents.now c.loop-document.count no_document (omega arith) (λ k lt. inv.theirs k no_document lt)
    (λ lt. ne_eqb _ _ (subst (λ (m : ℕ). (get_or c.args.documents.now m no_document).job ≡ c.args.number → ⊥) (sym inv.place) c.if-document-number.true)) in
    group_is c.args.number c.loop-document.count c.args.documents.now ends inv.few inv.numbered

pub returns-then-count-eq-MOST_DOCUMENTS : goal.returns-then-count-eq-MOST_DOCUMENTS
returns-then-count-eq-MOST_DOCUMENTS c =
    let inv = c.loop-document.invariant in
    too_many c.args.number c.args.documents.now c.loop-document.document-index no_document (omega arith) (omega arith) (λ k d lt. inv.theirs k d (omega arith)) c.if-document-number.false

pub returns-then-document-count : goal.returns-then-document-count
returns-then-document-count c =
    let inv = c.loop-document.invariant in
    misnumbered c.args.number c.args.documents.now c.loop-document.document-index no_document (omega arith) (λ k d lt. inv.theirs k d (omega arith)) c.if-document-number.false (λ e. c.if-document-count.true (omega arith))

pub loop-document-preserved : goal.loop-document-preserved
loop-document-preserved c =
    let inv = c.loop-document.invariant in
    let place = inv.place in
    let lt : c.loop-document.count < length c.args.documents.now = omega arith in
    let here : (get_or c.args.documents.now c.loop-document.count no_document).doc ≡ c.loop-document.count + 1
    = subst (λ (m : ℕ). (get_or c.args.documents.now m no_document).doc ≡ c.loop-document.count + 1) (sym inv.place) c.if-document-count.false in
    record {
      place = omega arith;
      few = omega arith;
      theirs = λ k d low.
          let same : get_or c.args.documents.now k d ≡ get_or c.args.documents.now k no_document = get_or_default c.args.documents.now k d no_document (omega arith) in
          ap (is_of c.args.number) same ∙ all_more c.args.number c.loop-document.document-index c.args.documents.now no_document (omega arith) (λ j e lt. inv.theirs j e (omega arith)) c.if-document-number.false k (omega arith);
      numbered = map_more doc_of c.args.documents.now c.loop-document.count no_document lt ∙ ap (λ (l : List ℕ). l ++ doc_of (get_or c.args.documents.now c.loop-document.count no_document) ∷ []) inv.numbered
          ∙ ap (λ (n : ℕ). range_with_len 1 c.loop-document.count ++ n ∷ []) here ∙ sym (range_more c.loop-document.count);
    }

pub returns : goal.returns
returns c =
    let inv = c.loop-document.invariant in
    let ends : next_of c.args.number c.args.documents.now ≡ c.loop-document.count
    = prefix_len_is (is_of c.args.number) c.args.documents.now c.loop-document.count no_document (omega arith) (λ k lt. inv.theirs k no_document lt) (λ lt. absurd (omega (arith, lt, c.loop-document-test.false))) in
    group_is c.args.number c.loop-document.count c.args.documents.now ends inv.few inv.numbered
