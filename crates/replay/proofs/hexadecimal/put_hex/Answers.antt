use Rattle.std.proofs.Common.{rules, ◌++◌, [], sym, ap, ◌∙◌, append_assoc}
use Rattle.replay.proofs.HexadecimalLemmas.{nothing_written, piece_written}
use Rattle.replay.proofs.hexadecimal.put_hex.Goals as goal

pub loop-piece-init : goal.loop-piece-init
loop-piece-init g c = ([], search rules, search rules, nothing_written _)

pub loop-piece-preserved : goal.loop-piece-preserved
loop-piece-preserved g c =
    let before = c.loop-piece.invariant in
    let step = c.in-Some.ensures.steps in (
      before.0 ++ c.in-Some.piece.now,
      before.1 ∙ ap (λ rest. before.0 ++ rest) step.1.0 ∙ sym (append_assoc before.0 _ _),
      step.0 ∙ before.2,
      piece_written _ _ _ before.0 c.in-Some.piece.now before.3 c.in_ok-put_piece.ensures,
    )
