-- The jobs that have expired, as they are read.
use Rattle.std.specs.Prelude.{ℕ, ℤ, pos, negsuc, ◌-ℤ◌, ◌==◌, List, [], ◌∷◌, ◌++◌, bytes_eq, map, if◌then◌else◌}
use Rattle.std.specs.List.{list_any}
use denote.Ref.{Bor}

-- the latest moment of creation of the jobs that have expired by now, before all moments if jobs are kept without end
abbrev pub latest : ℕ → ℕ → ℤ
latest keep now = if keep == 0 then negsuc 0 else pos now -ℤ pos keep

-- the borrowed texts
abbrev pub texts : List (Bor (List ℕ)) → List (List ℕ)
texts names = map (λ a. a.now) names

-- these names, and then the name if it is not among them
abbrev pub with_one : List (List ℕ) → List ℕ → List (List ℕ)
with_one names a = if list_any (λ b. bytes_eq a b) names then names else names ++ a ∷ []
