-- What tests that passed or failed choose.
use Rattle.std.proofs.Common.{◌≡◌, ℕ, List, Bool, true, false, ◌&&◌, refl}
use Rattle.std.specs.Prelude.{Option, Some, None, if◌then◌else◌}

-- what one test chose, another that holds chooses
pub chosen : (a b : Bool) (o : Option (List ℕ)) (bytes : List ℕ) → o ≡ (if a then Some bytes else None) → a ≡ true → b ≡ true → o ≡ (if b then Some bytes else None)
chosen true true o bytes h ea eb = h
chosen _ _ o bytes h ea eb = absurd (cc)

-- a text that was chosen is the bytes, and the test holds
pub chosen_some : (b : Bool) (t bytes : List ℕ) → Some t ≡ (if b then Some bytes else None) → (t ≡ bytes) × (b ≡ true)
chosen_some true t bytes h = (cc, refl)
chosen_some false t bytes h = absurd (cc)

pub chosen_none : (b : Bool) (bytes : List ℕ) → None ≡ (if b then Some bytes else None) → b ≡ false
chosen_none true bytes h = absurd (cc)
chosen_none false bytes h = refl

pub and_three : (a b c : Bool) → a ≡ true → b ≡ true → c ≡ true → (a && b && c) ≡ true
and_three true true c ea eb ec = ec
and_three _ _ c ea eb ec = absurd (cc)
