-- The bytes left of a connection, as a buffer takes them from a reader and gives them on.
use Rattle.std.proofs.Common.{◌≡◌, Option, ℕ, ◌+◌, ◌-◌, ◌≤◌, List, ◌++◌, None, Some, length, take, drop, slice_range, sym, ap, ◌∙◌, append_assoc, arith}
use Rattle.std.specs.Io.{StartsWith}
use Rattle.std.specs.Io.KnownBytes.{Consumes, Keeps}
use Rattle.std.proofs.Math.Seq.{take-add, take-append_seam}
use Rattle.std.proofs.lemmas.List.{drop-take, length-take, take_all}
use Rattle.http_head.specs.Left.{left}
use lib.Seq.{drop-drop}

-- the buffer gains what the reader loses
pub fill_keeps : (r q : Option (List ℕ)) (come more got : List ℕ) → Consumes r q got → more ≡ come ++ got → Keeps (left come r) (left more q)
fill_keeps None q come more got p e = tt
fill_keeps (Some x) None come more got p e = absurd p
fill_keeps (Some x) (Some y) come more got p e = ap (λ l. l ++ y) e ∙ append_assoc come got y ∙ ap (λ l. come ++ l) (sym p)

-- what a read puts behind the bytes that were packed
pub packed_and_read : (old packed read : List ℕ) (start end at n : ℕ) → take at packed ≡ slice_range old start end → take at read ≡ take at packed
    → slice_range read 0 (at + n) ≡ slice_range old start end ++ slice_range read at (at + n)
packed_and_read old packed read start end at n p q =
    let e : n ≡ (at + n) - at = omega arith in
    let z : (at + n) - 0 ≡ at + n = omega arith in
    ap (λ k. take k read) z ∙ take-add at n read ∙ ap (λ l. l ++ take n (drop at read)) (q ∙ p) ∙ ap (λ k. slice_range old start end ++ take k (drop at read)) e

-- the bytes that were packed stay in front of what a read puts behind them
pub packed_front : (old packed read come : List ℕ) (start end at n : ℕ) → take at packed ≡ slice_range old start end → take at read ≡ take at packed
    → slice_range old start end ≡ come → StartsWith (slice_range read 0 (at + n)) come
packed_front old packed read come start end at n p q e =
    let got = slice_range read at (at + n) in
    ap (take (length come)) (packed_and_read old packed read start end at n p q ∙ ap (λ l. l ++ got) e) ∙ take-append_seam come got

-- and where none is read
pub packed_alone : (old packed read come : List ℕ) (start end at : ℕ) → take at packed ≡ slice_range old start end → take at read ≡ take at packed
    → slice_range old start end ≡ come → StartsWith (slice_range read 0 at) come
packed_alone old packed read come start end at p q e =
    let z : at - 0 ≡ at = omega arith in
    let whole : slice_range read 0 at ≡ come = ap (λ k. take k read) z ∙ q ∙ p ∙ e in
    ap (take (length come)) whole ∙ take_all (length come) come (omega arith)

-- a later start of a range drops its front
pub range_drop : (xs : List ℕ) (start end n : ℕ) → start + n ≤ end → slice_range xs (start + n) end ≡ drop n (slice_range xs start end)
range_drop xs start end n h =
    let e : end - start ≡ n + (end - (start + n)) = omega arith in
    sym (ap (λ k. drop n (take k (drop start xs))) e ∙ drop-take n (end - (start + n)) (drop start xs) ∙ ap (take (end - (start + n))) (drop-drop n start xs))

pub range_length : (xs : List ℕ) (start end : ℕ) → length (slice_range xs start end) ≤ end - start
range_length xs start end = let e = length-take (end - start) (drop start xs) in omega (arith, e)
