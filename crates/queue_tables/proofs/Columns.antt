-- A row by its columns.
use Rattle.std.proofs.Common.{◌≡◌, ◌≢◌, ◌⊎◌, inl, inr, ℕ, pos, ◌<◌, ◌^◌, [], ◌∷◌, length, Option, Some, None, MatchOption, IfSome, refl, arith}
use Rattle.sqlite.specs.declared.types.Value.{Value}
use Rattle.sqlite.specs.declared.types.Value.TheVariants.{Null, Int}
use Rattle.sqlite.specs.Order.{Row, column}
use Rattle.queue_tables.specs.Values.{moment}
pub use Rattle.std.proofs.lemmas.Result.{IfErr-weaker as map_err}

pub fourteen : (r : Row) → length r ≡ 14 → r ≡ column r 0 ∷ column r 1 ∷ column r 2 ∷ column r 3 ∷ column r 4 ∷ column r 5 ∷ column r 6 ∷ column r 7 ∷ column r 8 ∷ column r 9 ∷ column r 10 ∷ column r 11 ∷ column r 12 ∷ column r 13 ∷ []
fourteen (a ∷ b ∷ c ∷ d ∷ e ∷ f ∷ g ∷ h ∷ k ∷ l ∷ m ∷ n ∷ o ∷ p ∷ []) len = refl
fourteen _ len = absurd (omega arith)

pub same_fourteen : {a0 b0 a1 b1 a2 b2 a3 b3 a4 b4 a5 b5 a6 b6 a7 b7 a8 b8 a9 b9 a10 b10 a11 b11 a12 b12 a13 b13 : Value} → a0 ≡ b0 → a1 ≡ b1 → a2 ≡ b2 → a3 ≡ b3 → a4 ≡ b4 → a5 ≡ b5 → a6 ≡ b6 → a7 ≡ b7 → a8 ≡ b8 → a9 ≡ b9 → a10 ≡ b10 → a11 ≡ b11 → a12 ≡ b12 → a13 ≡ b13 → a0 ∷ a1 ∷ a2 ∷ a3 ∷ a4 ∷ a5 ∷ a6 ∷ a7 ∷ a8 ∷ a9 ∷ a10 ∷ a11 ∷ a12 ∷ a13 ∷ [] ≡ b0 ∷ b1 ∷ b2 ∷ b3 ∷ b4 ∷ b5 ∷ b6 ∷ b7 ∷ b8 ∷ b9 ∷ b10 ∷ b11 ∷ b12 ∷ b13 ∷ []
same_fourteen e0 e1 e2 e3 e4 e5 e6 e7 e8 e9 e10 e11 e12 e13 = λ x. e0 x ∷ e1 x ∷ e2 x ∷ e3 x ∷ e4 x ∷ e5 x ∷ e6 x ∷ e7 x ∷ e8 x ∷ e9 x ∷ e10 x ∷ e11 x ∷ e12 x ∷ e13 x ∷ []

-- ---- moments

pub optional : (v : Value) (o : Option ℕ) → MatchOption o (v ≡ Null) (λ x. (v ≢ Null) × (v ≡ Int (pos x))) → v ≡ moment o
optional v None h = h
optional v (Some n) h = h.1

pub unread : (v : Value) → ((v ≡ Null) ⊎ ((n : ℕ) × (v ≡ Int (pos n)) × (n < 2 ^ 32)) → ⊥) → (o : Option ℕ) → IfSome o (λ n. n < 2 ^ 32) → v ≢ moment o
unread v never None small is = never (inl is)
unread v never (Some n) small is = never (inr (n, is, small))
