use Rattle.std.proofs.Common.{◌≡◌, ◌<◌, ◌*◌, ◌+◌, ◌++◌, ℕ, List, length, drop, map, get_or, arith, ap, sym, ◌∙◌, below_more}
use Rattle.std.specs.List.{range_with_len}
use Rattle.std.specs.Int.{div_ceil}
use Rattle.std.proofs.lemmas.List.{length-append, take_rest}
use Rattle.std.proofs.lemmas.List.FromFn.{length-map-range_with_len}
use Rattle.queue_rows.proofs.Defaults.{no_piece}
use Rattle.queue_rows.specs.Pieces.{piece_of, pieces_of, pieces_in}
use Rattle.queue_rows.specs.declared.rows.PieceRow.{PieceRow}
use Rattle.queue_rows.proofs.RunLemmas.{run_is, run_at}
use Rattle.queue_rows.proofs.pieces.behind_pieces.Goals as goal

count_small : (n k : ℕ) → k < div_ceil n 65536 → k * 65536 < n
count_small n k h = omega arith

pub returns-then-pieces-count : goal.returns-then-pieces-count
returns-then-pieces-count c = λ rest e.
    let all : length c.args.pieces.now ≡ length (pieces_of c.args.document.now) + length rest = ap length e ∙ length-append (pieces_of c.args.document.now) rest in
    let count : length (pieces_of c.args.document.now) ≡ div_ceil c.args.document.now.octets 65536 = length-map-range_with_len (piece_of c.args.document.now) 0 (pieces_in c.args.document.now.octets) in
    absurd (omega (arith, all, count, c.div_ceil-count.ensures, c.if-pieces-count.true))

pub is_piece-requires : goal.is_piece-requires
is_piece-requires c = count_small c.args.document.now.octets c.loop-k.k (rw c.div_ceil-count.ensures at c.loop-k-test.true)

pub returns-then-not-is_piece : goal.returns-then-not-is_piece
returns-then-not-is_piece c = λ rest e.
    let there : get_or c.args.pieces.now c.loop-k.k no_piece ≡ piece_of c.args.document.now (0 + c.loop-k.k)
    = ap (λ (l : List PieceRow). get_or l c.loop-k.k no_piece) e ∙ run_at (piece_of c.args.document.now) 0 (pieces_in c.args.document.now.octets) rest no_piece c.loop-k.k (rw c.div_ceil-count.ensures at c.loop-k-test.true) in
    absurd (cc (c.if-not-is_piece.true, c.is_piece.ensures.1 (there ∙ ap (piece_of c.args.document.now) (omega arith))))

pub loop-k-preserved : goal.loop-k-preserved
loop-k-preserved c = below_more _ _ c.loop-k.invariant (c.is_piece.ensures.0 (cc (c.if-not-is_piece.false)))

pub returns : goal.returns
returns c =
    let count : c.div_ceil-count.result ≡ pieces_in c.args.document.now.octets = c.div_ceil-count.ensures in
    let run = run_is (piece_of c.args.document.now) 0 c.div_ceil-count.result c.args.pieces.now no_piece (omega (arith, c.if-pieces-count.false))
    (λ m lt. c.loop-k.invariant m (omega (arith, lt, c.loop-k-test.false)) ∙ ap (piece_of c.args.document.now) (omega arith)) in
    run ∙ ap (λ (n : ℕ). map (piece_of c.args.document.now) (range_with_len 0 n) ++ drop c.div_ceil-count.result c.args.pieces.now) count
    ∙ ap (λ (l : List PieceRow). pieces_of c.args.document.now ++ l) (sym (take_rest c.args.pieces.now c.div_ceil-count.result))
