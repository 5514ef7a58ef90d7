-- Sums by name.
use Rattle.std.specs.Prelude.{◌≡◌, ℕ, List, sum_by, bytes_eq, unwrap_or, if◌then◌else◌}
use Rattle.std.specs.BTreeMap.{BTreeMap, get_by}
use Rattle.std.specs.Cmp.Lexicographic.{slice_cmp}
use Rattle.std.specs.Ordering.{nat_cmp}
use denote.Ref.{Bor}

-- the sum of the amounts of that name
abbrev pub total : {X : Type 0} → (X → List ℕ) → (X → ℕ) → List ℕ → List X → ℕ
total name amount q xs = sum_by (λ x. if bytes_eq (name x) q then amount x else 0) xs

-- the sum that a map has of that name, 0 if it has none
unfoldable pub total_in : BTreeMap (Bor (List ℕ)) ℕ → List ℕ → ℕ
total_in m q = unwrap_or (get_by (λ k. slice_cmp nat_cmp q k.now) m) 0

-- a row has that name and that amount
abbrev pub TellsAmounts : {X : Type 0} → (X → Bor (List ℕ) × ℕ → Type 0) → (X → List ℕ) → (X → ℕ) → Type 0
TellsAmounts {X} tells name amount = (x : X) (p : Bor (List ℕ) × ℕ) → tells x p → (p.0.now ≡ name x) × (p.1 ≡ amount x)
