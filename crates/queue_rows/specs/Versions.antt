-- The versions of the schema that are read: the older ones have no row for what they don't know.
use Rattle.std.specs.Prelude.{◌≡◌, ⊤, ℕ, List, [], ◌∷◌, Option, None, Some, unwrap_or}
use Rattle.queue_core.specs.World.{World}
use Rattle.queue_rows.specs.declared.rows.PolicyRow.{PolicyRow}

-- first_version has no table policy, and only third_version has the table operators
pub data Version : Type 0 where
  first_version : Version
  second_version : Version
  third_version : Version

abbrev pub number_of : Version → ℕ
number_of first_version = 1
number_of second_version = 2
number_of third_version = 3

-- the world can be kept in tables of that version: the first keeps jobs for ever, and the first two know no operators
abbrev pub IsOf : Version → World → Type 0
IsOf first_version w = (w.settings.keep ≡ 0) × (w.settings.operators ≡ [])
IsOf second_version w = w.settings.operators ≡ []
IsOf third_version w = ⊤

abbrev pub policy_row : ℕ → PolicyRow
policy_row keep = record { one = 1; keep = keep }

-- the rows of the table policy, where there is one
abbrev pub policy_rows : Version → ℕ → Option (List PolicyRow)
policy_rows first_version keep = None
policy_rows second_version keep = Some (policy_row keep ∷ [])
policy_rows third_version keep = Some (policy_row keep ∷ [])

-- the names in the table operators, where there is one
abbrev pub operator_rows : Version → List (List ℕ) → Option (List (List ℕ))
operator_rows first_version operators = None
operator_rows second_version operators = None
operator_rows third_version operators = Some operators

-- the seconds in the first of the rows; 0 where there is none
abbrev pub keep_in : Option (List PolicyRow) → ℕ
keep_in None = 0
keep_in (Some []) = 0
keep_in (Some (p ∷ ps)) = p.keep

-- none where there is no such table
abbrev pub operators_in : Option (List (List ℕ)) → List (List ℕ)
operators_in operators = unwrap_or operators []

-- the table policy has its one row
abbrev pub IsOnePolicy : List PolicyRow → Type 0
IsOnePolicy ps = (p : PolicyRow) × (ps ≡ p ∷ []) × (p.one ≡ 1)

-- it is the number of the schema with these tables, and the table policy has its one row
abbrev pub FitsPolicy : ℕ → Option (List PolicyRow) → Option (List (List ℕ)) → Type 0
FitsPolicy n None None = n ≡ 1
FitsPolicy n None (Some operators) = ⊥
FitsPolicy n (Some ps) None = (n ≡ 2) × IsOnePolicy ps
FitsPolicy n (Some ps) (Some operators) = (n ≡ 3) × IsOnePolicy ps
