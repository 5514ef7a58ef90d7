-- A row by its columns.
use Rattle.std.proofs.Common.{◌≡◌, [], ◌∷◌, length, refl, arith}
use Rattle.sqlite.specs.declared.types.Value.{Value}
use Rattle.sqlite.specs.Order.{Row, column}

pub six : (r : Row) → length r ≡ 6 → r ≡ column r 0 ∷ column r 1 ∷ column r 2 ∷ column r 3 ∷ column r 4 ∷ column r 5 ∷ []
six (a ∷ b ∷ c ∷ d ∷ e ∷ f ∷ []) len = refl
six _ len = absurd (omega arith)

pub same_six : {a0 b0 a1 b1 a2 b2 a3 b3 a4 b4 a5 b5 : Value} → a0 ≡ b0 → a1 ≡ b1 → a2 ≡ b2 → a3 ≡ b3 → a4 ≡ b4 → a5 ≡ b5 → a0 ∷ a1 ∷ a2 ∷ a3 ∷ a4 ∷ a5 ∷ [] ≡ b0 ∷ b1 ∷ b2 ∷ b3 ∷ b4 ∷ b5 ∷ []
same_six e0 e1 e2 e3 e4 e5 = λ x. e0 x ∷ e1 x ∷ e2 x ∷ e3 x ∷ e4 x ∷ e5 x ∷ []

pub seven : (r : Row) → length r ≡ 7 → r ≡ column r 0 ∷ column r 1 ∷ column r 2 ∷ column r 3 ∷ column r 4 ∷ column r 5 ∷ column r 6 ∷ []
seven (a ∷ b ∷ c ∷ d ∷ e ∷ f ∷ g ∷ []) len = refl
seven _ len = absurd (omega arith)

pub same_seven : {a0 b0 a1 b1 a2 b2 a3 b3 a4 b4 a5 b5 a6 b6 : Value} → a0 ≡ b0 → a1 ≡ b1 → a2 ≡ b2 → a3 ≡ b3 → a4 ≡ b4 → a5 ≡ b5 → a6 ≡ b6 → a0 ∷ a1 ∷ a2 ∷ a3 ∷ a4 ∷ a5 ∷ a6 ∷ [] ≡ b0 ∷ b1 ∷ b2 ∷ b3 ∷ b4 ∷ b5 ∷ b6 ∷ []
same_seven e0 e1 e2 e3 e4 e5 e6 = λ x. e0 x ∷ e1 x ∷ e2 x ∷ e3 x ∷ e4 x ∷ e5 x ∷ e6 x ∷ []
