use Rattle.std.proofs.Common.{arith, ◌==◌, ◌++◌, ◌∷◌, [], sym, ap, ◌∙◌, append_assoc}
use Rattle.std.proofs.lemmas.Bool.{OnFalse_at}
use Rattle.std.proofs.lemmas.Bool.Decides.{when_false, when_true}
use Rattle.std.proofs.KnownBytes.{Consumes-kept, Keeps-trans}
use Rattle.replay.proofs.LineLemmas.{come_taken, input_ended, line_ended, nothing_left, one_line_more, piece_taken}
use Rattle.replay.proofs.lines.LineReader.next_line.Goals as goal

pub returns-then-branch-clause-given : goal.returns-then-branch-clause-given
returns-then-branch-clause-given g c =
    let before = c.pieces.invariant in
    let piece = c.in_ok-take_piece.ensures.taken in
    let come = when_true _ _ c.if-branch.true piece.3 ∙ sym (append_assoc piece.0 (10 ∷ []) _) in
    line_ended _ _ _ _ before.0 piece.0 before.1 piece.1 before.3 (come_taken _ _ _ _ come) (piece.2 before.0 before.2)

pub returns-then-not-branch-clause-given : goal.returns-then-not-branch-clause-given
returns-then-not-branch-clause-given g c =
    let before = c.pieces.invariant in
    let piece = c.in_ok-take_piece.ensures.taken in
    let come = when_false _ _ c.if-branch.false piece.3 in
    let end = OnFalse_at c.if-not-branch.true c.in_ok-fill.ensures.end in
    let taken = piece_taken _ _ _ _ before.0 piece.0 before.3 come.0 come.1 in
    input_ended _ _ _ (before.0 ++ piece.0) (one_line_more before.0 piece.0 before.1 piece.1)
    (Consumes-kept _ _ _ _ taken c.in_ok-fill.ensures.kept) (nothing_left _ _ end.0 end.1)
    (piece.2 before.0 before.2) c.is_empty.result
    (c.is_empty.ensures ∙ ap (λ n. n == 0) c.take_piece.new.line.bytes.ok.0)

pub pieces-preserved : goal.pieces-preserved
pieces-preserved g c =
    let before = c.pieces.invariant in
    let piece = c.in_ok-take_piece.ensures.taken in
    let come = when_false _ _ c.if-branch.false piece.3 in
    let taken = piece_taken _ _ _ _ before.0 piece.0 before.3 come.0 come.1 in (
      before.0 ++ piece.0,
      one_line_more before.0 piece.0 before.1 piece.1,
      piece.2 before.0 before.2,
      Consumes-kept _ _ _ _ taken c.in_ok-fill.ensures.kept,
      omega (arith, before.4, c.in_ok-take_piece.ensures.reads, c.in_ok-fill.ensures.counted),
      Keeps-trans _ _ _ before.5 c.in_ok-flush.ensures.bytes,
    )
