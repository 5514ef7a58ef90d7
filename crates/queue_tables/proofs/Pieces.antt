-- A document in pieces.
use Rattle.std.proofs.Common.{◌≡◌, ℕ, ◌+◌, ◌*◌, ◌<◌, List, [], ◌∷◌, ◌++◌, map, take, drop, length, min, sym, ap, subst, ◌∙◌, arith, length-drop}
use Rattle.std.specs.List.{range_with_len}
use Rattle.std.proofs.Math.Seq.{drop-append_seam, take-append_seam}
use Rattle.std.proofs.lemmas.List.{append_assoc, drop-drop, drop_min, take_min}
use Rattle.std.proofs.lemmas.List.FromFn.{map-range_with_len_more}
use Rattle.sqlite.specs.Order.{Row}
use Rattle.sqlite.specs.State.{State}
use Rattle.queue_rows.specs.Pieces.{piece_at, pieces_in}
use Rattle.queue_tables.specs.Values.{piece_values}
use Rattle.queue_tables.specs.Content.{Content, Holds}
use Rattle.queue_tables.specs.Steps.{with_piece_row, with_pieces}

-- of the bytes from the piece of that number on, the first ones are the piece, and those behind it begin with the next one
pub record IsPiece (bytes : List ℕ) (k : ℕ) (chunk rest : List ℕ) : Type 0 where
  pub piece : chunk ≡ piece_at bytes k
  pub rest_is : rest ≡ drop ((k + 1) * 65536) bytes
  pub within : (k + 1) * 65536 < length bytes + 65536

pub comes_off : (bytes all chunk rest : List ℕ) (k : ℕ) → all ≡ drop (k * 65536) bytes → all ≡ chunk ++ rest → length chunk ≡ min 65536 (length all) → 0 < length all → IsPiece bytes k chunk rest
comes_off bytes all chunk rest k from parts long some = record {
  piece = sym (take-append_seam chunk rest) ∙ ap (λ (bs : List ℕ). take (length chunk) bs) (sym parts) ∙ ap (λ (n : ℕ). take n all) long ∙ take_min 65536 all ∙ ap (λ (bs : List ℕ). take 65536 bs) from;
  rest_is =
      sym (drop-append_seam chunk rest) ∙ ap (λ (bs : List ℕ). drop (length chunk) bs) (sym parts) ∙ ap (λ (n : ℕ). drop n all) long ∙ drop_min 65536 all ∙ ap (λ (bs : List ℕ). drop 65536 bs) from
      ∙ drop-drop 65536 (k * 65536) bytes ∙ ap (λ (n : ℕ). drop n bytes) (omega arith);
  within = omega (arith, some, ap (length {A = ℕ}) from, length-drop (k * 65536) bytes);
}

-- where no bytes are left, all pieces were there
pub all_pieces : (bytes all : List ℕ) (k : ℕ) → all ≡ drop (k * 65536) bytes → length all ≡ 0 → k * 65536 < length bytes + 65536 → k ≡ pieces_in (length bytes)
all_pieces bytes all k from none within = omega (arith, none, within, ap (length {A = ℕ}) from, length-drop (k * 65536) bytes)

pub next_piece : (job doc : ℕ) (bytes chunk : List ℕ) (k : ℕ) (c : Content) (s : State) → chunk ≡ piece_at bytes k → Holds (with_piece_row (piece_values job doc k chunk) (with_pieces job doc bytes k c)) s
    → Holds (with_pieces job doc bytes (k + 1) c) s
next_piece job doc bytes chunk k c s is h =
    let f : ℕ → Row = λ i. piece_values job doc i (piece_at bytes i) in
    let front = map f (range_with_len 0 k) in
    let same : (c.pieces ++ front) ++ piece_values job doc k chunk ∷ [] ≡ c.pieces ++ map f (range_with_len 0 (k + 1))
    = ap (λ (b : List ℕ). (c.pieces ++ front) ++ piece_values job doc k b ∷ []) is ∙ append_assoc c.pieces front (f k ∷ []) ∙ ap (λ (ps : List Row). c.pieces ++ ps) (sym (map-range_with_len_more f 0 k k (omega arith))) in
    subst (λ (ps : List Row). Holds (record c { pieces = ps }) s) same h
