use Rattle.std.proofs.Common.{rules, ◌≡◌, ◌+◌, ◌*◌, ap, arith, drop, subst, sym, ◌∙◌}
use Rattle.std.specs.Iterator.Adapters.{enumerate_count}
use Rattle.sqlite.specs.Held.{state}
use Rattle.queue_tables.specs.Content.{Holds}
use Rattle.queue_tables.specs.Steps.{with_pieces}
use Rattle.queue_tables.proofs.Added.{no_piece_yet}
use Rattle.queue_tables.proofs.Making.{handed_on, held_as, made_then}
use Rattle.queue_tables.proofs.Pieces.{all_pieces, comes_off, next_piece}
use Rattle.queue_tables.proofs.piece_rows.insert_pieces.Goals as goal

pub loop-k-preserved : goal.loop-k-preserved
loop-k-preserved g c =
    let job = c.args.job in
    let doc = c.args.doc in
    let bytes = c.args.bytes.now in
    let k = enumerate_count c.loop-k.k-iterator in
    let before = c.loop-k.invariant in
    let step = c.in-Some.ensures.steps in
    let next : enumerate_count c.next.new.self ≡ k + 1 = step.2 in
    let cut = step.0.1 in
    let off = comes_off bytes _ c.in-Some.piece.now _ k before.3 cut.0 (rw before.2 at cut.1) cut.2 in
    let put = rw step.1 at c.in_ok-insert_piece.ensures.made in (
      search rules,
      tt,
      step.0.0 ∙ before.2,
      off.rest_is ∙ ap (λ n. drop (n * 65536) bytes) (sym next),
      omega (arith, next, off.within),
      c.in_ok-insert_piece.ensures.same_reference ∙ before.5,
      held_as (made_then (with_pieces job doc bytes k) before.6 put (λ content can. (can.0, no_piece_yet job doc bytes k content can.1)))
          (λ content can has.
          subst (λ n. Holds (with_pieces job doc bytes n content) (state g.S.Store c.insert_piece.new.tx.conn.now)) (sym next)
          (next_piece job doc bytes _ k content (state g.S.Store c.insert_piece.new.tx.conn.now) off.piece has)),
    )

pub returns-in_err-insert_piece-clause-made : goal.returns-in_err-insert_piece-clause-made
returns-in_err-insert_piece-clause-made g c =
    let job = c.args.job in
    let doc = c.args.doc in
    let bytes = c.args.bytes.now in
    let k = enumerate_count c.loop-k.k-iterator in
    let put = rw c.in-Some.ensures.steps.1 at c.in_err-insert_piece.ensures.made in
    handed_on (made_then (with_pieces job doc bytes k) c.loop-k.invariant.6 put (λ content can. (can.0, no_piece_yet job doc bytes k content can.1))) _ c.from_residual.ensures.1

pub returns-clause-made : goal.returns-clause-made
returns-clause-made g c =
    let bytes = c.args.bytes.now in
    let before = c.loop-k.invariant in
    let last = all_pieces bytes _ (enumerate_count c.loop-k.k-iterator) before.3 c.in-None.ensures.steps.0.1.0 before.4 in
    held_as before.6 (λ content can has. subst (λ k. Holds (with_pieces c.args.job c.args.doc bytes k content) (state g.S.Store c.loop-k.tx.conn.now)) last has)
