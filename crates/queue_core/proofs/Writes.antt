-- What was written by several writes.
use Rattle.std.proofs.Common.{◌≡◌, Option, ℕ, ◌+◌, ◌-◌, List, length, take, drop, sym, ap, ◌∙◌, subst, arith, length-drop}
use Rattle.std.specs.Io.KnownBytes.{Appends}
use Rattle.std.proofs.Math.Seq.{take-add}
use Rattle.std.proofs.lemmas.List.{take_all}
use Rattle.std.proofs.KnownBytes.{Appends-trans}

-- one more write behind those before it
put_more : (a b c : Option (List ℕ)) (xs : List ℕ) (at n : ℕ) → Appends a b (take at xs) → Appends b c (take n (drop at xs)) → Appends a c (take (at + n) xs)
put_more a b c xs at n p q = subst (λ l. Appends a c l) (sym (take-add at n xs)) (Appends-trans a b c _ _ p q)

-- the rest of a slice, as the code takes it
rest_is : (xs : List ℕ) (at : ℕ) → take (length xs - at) (drop at xs) ≡ drop at xs
rest_is xs at = let e = length-drop at xs in take_all (length xs - at) (drop at xs) (omega (arith, e))

pub rest_length : (xs : List ℕ) (at : ℕ) → length (take (length xs - at) (drop at xs)) ≡ length xs - at
rest_length xs at = ap length (rest_is xs at) ∙ length-drop at xs

pub put_rest : (a b c : Option (List ℕ)) (xs : List ℕ) (at n : ℕ) → Appends a b (take at xs) → Appends b c (take n (take (length xs - at) (drop at xs))) → Appends a c (take (at + n) xs)
put_rest a b c xs at n p q = put_more a b c xs at n p (subst (λ l. Appends b c (take n l)) (rest_is xs at) q)
