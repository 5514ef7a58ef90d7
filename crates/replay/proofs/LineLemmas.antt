-- How a line grows by the pieces that come, what an input loses by it, and where the first line feed stands.
use Rattle.std.proofs.Common.{◌≡◌, ℕ, suc, ◌+◌, ◌-◌, ◌≤◌, ◌<◌, get_or, IsTrue, IfNone, IfSome, ◌==◌, min, Bool, true, false, not, ◌||◌, List, [], ◌∷◌, ◌++◌, length, take, drop, slice_range, Option, Some, None, sym, ap, subst, refl, ◌∙◌, append_assoc, append-nil, arith, inl, inr, length-take, length-append}
use Rattle.std.specs.Prelude.{nat_lt}
use Rattle.std.specs.Bool.{MatchBool}
use Rattle.std.specs.Io.KnownBytes.{Consumes, IsAtEnd, prepend_known}
use Rattle.std.proofs.KnownBytes.{Consumes-trans}
use Rattle.std.proofs.Math.Seq.{split_at, take-append-add}
use Rattle.std.proofs.lemmas.Bool.{cases_lt, eqb-false, eqb-true, false_from_ne_true}
use Rattle.std.proofs.lemmas.Bool.Decides.{nat_tests}
use Rattle.std.proofs.lemmas.Grind.{get_or_default_zero}
use Rattle.std.proofs.lemmas.List.{drop-take, get_or-take, take-append-le, take_all, take_min}
use Rattle.std.proofs.lemmas.List.Elements.{All-append}
use Rattle.memchr.specs.Find.{IsFirstByte, NoneBefore, Nowhere, Passes, is_byte}
use Rattle.replay.specs.Line.{GivesLine, IsFrontOf, IsOneLine}
use Rattle.replay.specs.Unread.{Unread, left}
use Rattle.replay.specs.declared.lines.Line.{Line}
use lib.Seq.{drop-drop}

-- ---- as much of a line as is kept

-- how many bytes of the next piece are kept
abbrev kept : ℕ → List ℕ → List ℕ → ℕ
kept limit front piece = min (length piece) (limit - length front)

pub front_more : (limit : ℕ) (bytes piece front : List ℕ) → front ≡ take limit bytes
    → take limit (bytes ++ piece) ≡ front ++ take (kept limit front piece) piece
front_more limit bytes piece front is =
    let len = ap length is ∙ length-take limit bytes in
    elim (cases_lt limit (length bytes)) [
      | inl over ↦
          let none : kept limit front piece ≡ 0 = omega (arith, len) in
          take-append-le limit bytes piece (omega arith) ∙ sym is ∙ sym (append-nil front)
          ∙ ap (λ k. front ++ take k piece) (sym none)
      | inr within ↦
          let room : limit ≡ length bytes + (limit - length bytes) = omega arith in
          let whole : front ≡ bytes = is ∙ take_all limit bytes within in
          let count : min (limit - length bytes) (length piece) ≡ kept limit front piece = omega (arith, len) in
          ap (λ k. take k (bytes ++ piece)) room ∙ take-append-add bytes piece (limit - length bytes)
          ∙ ap (λ l. bytes ++ l) (sym (take_min (limit - length bytes) piece))
          ∙ ap (λ k. bytes ++ take k piece) count ∙ ap (λ l. l ++ take (kept limit front piece) piece) (sym whole)
    ]

pub cut_more : (limit : ℕ) (bytes piece front : List ℕ) (is_cut : Bool) → front ≡ take limit bytes
    → is_cut ≡ nat_lt limit (length bytes)
    → (is_cut || nat_lt (kept limit front piece) (length piece)) ≡ nat_lt limit (length (bytes ++ piece))
cut_more limit bytes piece front is_cut is cut =
    let len = ap length is ∙ length-take limit bytes in
    let all = length-append bytes piece in
    grind (arith, nat_tests)

-- ---- what has come

-- what is taken from what has come is taken from what is left
pub come_taken : (r : Option (List ℕ)) (come more taken : List ℕ) → come ≡ taken ++ more
    → Consumes (prepend_known come r) (prepend_known more r) taken
come_taken None come more taken is = tt
come_taken (Some rest) come more taken is = ap (λ l. l ++ rest) is ∙ append_assoc taken more rest

-- a later start of a range drops its front
pub range_drop : (xs : List ℕ) (start end n : ℕ) → start + n ≤ end
    → slice_range xs (start + n) end ≡ drop n (slice_range xs start end)
range_drop xs start end n within =
    let e : end - start ≡ n + (end - (start + n)) = omega arith in
    sym (ap (λ k. drop n (take k (drop start xs))) e ∙ drop-take n (end - (start + n)) (drop start xs)
    ∙ ap (take (end - (start + n))) (drop-drop n start xs))

pub range_length : (xs : List ℕ) (start end : ℕ) → length (slice_range xs start end) ≤ end - start
range_length xs start end = let e = length-take (end - start) (drop start xs) in omega (arith, e)

pub piece_taken : (old r : Option (List ℕ)) (come more bytes piece : List ℕ) → Consumes old (prepend_known come r) bytes
    → come ≡ piece → more ≡ [] → Consumes old (prepend_known more r) (bytes ++ piece)
piece_taken old r come more bytes piece before is none =
    Consumes-trans old _ _ bytes piece before
    (come_taken r come more piece (is ∙ sym (append-nil piece) ∙ ap (λ l. piece ++ l) (sym none)))

pub nothing_left : (r : Option (List ℕ)) (come : List ℕ) → come ≡ [] → IsAtEnd r → IsAtEnd (prepend_known come r)
nothing_left None come none end = tt
nothing_left (Some rest) come none end = ap (λ l. l ++ rest) none ∙ end

-- ---- a whole line

pub one_line_more : (bytes piece : List ℕ) → IsOneLine bytes → IsOneLine piece → IsOneLine (bytes ++ piece)
one_line_more bytes piece one more = All-append (λ byte. not (byte == 10) ≡ true) bytes piece one more

-- a line feed came behind the last piece
pub line_ended : (old now new : Option (List ℕ)) (line : Line) (bytes piece : List ℕ) → IsOneLine bytes → IsOneLine piece
    → Consumes old now bytes → Consumes now new (piece ++ 10 ∷ []) → IsFrontOf (bytes ++ piece) line → GivesLine old new line
line_ended old now new line bytes piece one more before last front = record {
  bytes = bytes ++ piece;
  is_one = one_line_more bytes piece one more;
  taken = inl (subst (λ l. Consumes old new l) (sym (append_assoc bytes piece (10 ∷ [])))
      (Consumes-trans old now new bytes (piece ++ 10 ∷ []) before last));
  front = front;
}

nothing_taken : (old new : Option (List ℕ)) (bytes : List ℕ) → Consumes old new bytes → IsAtEnd new → length bytes ≡ 0 → IsAtEnd old
nothing_taken None new bytes taken end none = tt
nothing_taken (Some xs) None bytes taken end none = absurd taken
nothing_taken (Some xs) (Some ys) [] taken end none = taken ∙ end
nothing_taken (Some xs) (Some ys) (b ∷ bytes) taken end none = absurd (omega arith)

-- the input ended behind the last piece
pub input_ended : (old new : Option (List ℕ)) (line : Line) (bytes : List ℕ) → IsOneLine bytes → Consumes old new bytes → IsAtEnd new
    → IsFrontOf bytes line → (is_empty : Bool) → is_empty ≡ (length line.bytes.items == 0)
    → MatchBool (not is_empty) (GivesLine old new line) (IsAtEnd old)
input_ended old new line bytes one taken end front true is =
    let len = ap length front.0 ∙ length-take 33554436 bytes in
    let none : length line.bytes.items ≡ 0 = eqb-true _ 0 (sym is) in
    nothing_taken old new bytes taken end (omega (arith, len))
input_ended old new line bytes one taken end front false is =
    let len = ap length front.0 ∙ length-take 33554436 bytes in
    let some : length line.bytes.items ≡ 0 → ⊥ = eqb-false _ 0 (sym is) in
    record {
      bytes = bytes;
      is_one = one;
      taken = inr (omega (arith, len), taken, end);
      front = front;
    }

-- nothing has come yet
pub left_all : (unread : Unread) (remaining : Option (List ℕ)) → unread.come ≡ [] → left unread remaining ≡ remaining
left_all unread None is = refl
left_all unread (Some rest) is = rw is refl

-- ---- where the first line feed stands

no_feed_there : (b : Bool) → (b ≡ true → ⊥) → IsTrue (not b)
no_feed_there b never = ap not (false_from_ne_true b never)

no_feed : (come : List ℕ) → Nowhere (Passes (is_byte 10) come) 0 (length come) → IsOneLine come
no_feed come none i d low = subst (λ x. IsTrue (not (x == 10))) (sym (get_or_default_zero come i d low)) (no_feed_there (get_or come i 0 == 10) (none i (omega arith) low))

no_feed_before : (come : List ℕ) (place : ℕ) → NoneBefore (Passes (is_byte 10) come) 0 (length come) place → IsOneLine (take place come)
no_feed_before come place first i d low =
    let len = length-take place come in
    let end = first.high in
    let before : i < place = omega (arith, low, len) in
    let within : i < length come = omega (arith, before, end) in
    subst (λ x. IsTrue (not (x == 10))) (sym (get_or-take place come i d before ∙ get_or_default_zero come i d within)) (no_feed_there (get_or come i 0 == 10) (first.before i (omega arith) before))

feed_at : (come : List ℕ) (place : ℕ) → place < length come → Passes (is_byte 10) come place → come ≡ take place come ++ 10 ∷ drop (place + 1) come
feed_at come place low is =
    let feed = eqb-true (get_or come place 0) 10 is in
    let behind : suc place ≡ place + 1 = omega arith in
    split_at come place 0 low ∙ (λ i. take place come ++ feed i ∷ drop (behind i) come)

pub none_found : (come : List ℕ) (found : Option ℕ) → IsFirstByte (is_byte 10) come found → IfNone found (IsOneLine come)
none_found come None none = no_feed come none
none_found come (Some place) is = tt

pub front_found : (come : List ℕ) (found : Option ℕ) → IsFirstByte (is_byte 10) come found → IfSome found (λ place. IsOneLine (take place come))
front_found come None none = tt
front_found come (Some place) is = no_feed_before come place is.0

pub feed_found : (come : List ℕ) (found : Option ℕ) → IsFirstByte (is_byte 10) come found → IfSome found (λ place. (place < length come) × (come ≡ take place come ++ 10 ∷ drop (place + 1) come))
feed_found come None none = tt
feed_found come (Some place) is = (is.0.high, feed_at come place is.0.high is.1)
