-- What a test that holds of none of a list says of each.
use Rattle.std.proofs.Common.{◌≡◌, List, [], ◌∷◌, Bool, true, false, refl}
use Rattle.std.specs.Prelude.{find, Option, Some, None, cond}
use Rattle.std.specs.List.{list_any, AllByRecursion}
use Rattle.std.proofs.lemmas.Bool.{or_parts}

pub list_any_false : {X : Type 0} (p : X → Bool) (xs : List X) → list_any p xs ≡ false → AllByRecursion (λ x. p x ≡ false) xs
list_any_false p [] h = tt
list_any_false p (x ∷ xs) h = let e = or_parts (p x) (list_any p xs) h in (e.0, list_any_false p xs e.1)

found_none : {X : Type 0} (b : Bool) (x : X) (r : Option X) → cond b (Some x) r ≡ None → (b ≡ false) × (r ≡ None)
found_none true x r h = absurd (cc)
found_none false x r h = (refl, h)

-- nothing was found, so each fails the test
pub find_none : {X : Type 0} (p : X → Bool) (xs : List X) → find p xs ≡ None → AllByRecursion (λ x. p x ≡ false) xs
find_none p [] h = tt
find_none p (x ∷ xs) h = let e = found_none (p x) x (find p xs) h in (e.0, find_none p xs e.1)
