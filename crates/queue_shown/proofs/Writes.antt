-- What is written in several calls.
use Rattle.std.proofs.Common.{◌≡◌, Option, ℕ, ◌+◌, ◌≤◌, List, [], ◌∷◌, ◌++◌, length, take, drop, sym, ap, ◌∙◌, arith, length-append, append-nil, append_assoc, take-append-drop, inr}
use Rattle.std.specs.Io.KnownBytes.{Appends}
use Rattle.std.proofs.lemmas.List.{length-take}
use Rattle.std.proofs.lemmas.Grind.{flat_map-append}
use Rattle.std.proofs.KnownBytes.{Appends-trans}
use Rattle.sqlite.specs.Order.{Row}
use Rattle.sqlite.specs.State.{State, Begins}
use Rattle.queue_shown.specs.Sent.{piece_bytes, bytes_of, pieces_select, HasSentFront, HasWritten}

-- one more piece
pub one_more : (rows : List Row) (row : Row) → bytes_of (rows ++ row ∷ []) ≡ bytes_of rows ++ piece_bytes row
one_more rows row = flat_map-append piece_bytes rows (row ∷ []) ∙ ap (λ (l : List ℕ). bytes_of rows ++ l) (append-nil (piece_bytes row))

-- n more bytes behind k
pub written_on : (a b c : Option (List ℕ)) (k n written : ℕ) (bytes : List ℕ) → HasWritten a b k → length bytes ≡ n → Appends b c bytes → written ≡ k + n → HasWritten a c written
written_on a b c k n written bytes before long q w = (before.0 ++ bytes, omega (arith, length-append before.0 bytes, before.1, long, w), Appends-trans a b c before.0 bytes before.2 q)

-- some of one more piece
pub front_of : (params : Row) (s : State) (a b c : Option (List ℕ)) (rows : List Row) (row : Row) (k n written : ℕ) → Begins pieces_select params s (rows ++ row ∷ []) → Appends a b (bytes_of rows) → k ≡ length (bytes_of rows)
    → n ≤ length (piece_bytes row) → Appends b c (take n (piece_bytes row)) → written ≡ k + n → HasSentFront params s a c written
front_of params s a b c rows row k n written begins p e low q w = record {
  bytes = bytes_of rows ++ take n (piece_bytes row);
  appends = Appends-trans a b c _ _ p q;
  count = omega (arith, length-append (bytes_of rows) (take n (piece_bytes row)), length-take n (piece_bytes row), w, e, low);
  front = inr (
    rows ++ row ∷ [],
    begins,
    drop n (piece_bytes row),
    one_more rows row ∙ ap (λ (l : List ℕ). bytes_of rows ++ l) (sym (take-append-drop n (piece_bytes row))) ∙ sym (append_assoc (bytes_of rows) (take n (piece_bytes row)) (drop n (piece_bytes row))),
  );
}
