-- Values that a column takes as they are.
use Rattle.std.proofs.Common.{◌≡◌, ℕ, ℤ, pos, Bool, true, false, cond, if◌then◌else◌, Some, None, Option, refl}
use Rattle.sqlite.specs.declared.types.Value.{Value}
use Rattle.sqlite.specs.declared.types.Value.TheVariants.{Null, Int}
use Rattle.sqlite.specs.Values.{bound_value}
use Rattle.sqlite.specs.Ops.{unary}
use Rattle.sqlite.specs.Kind.TheVariants.{Integer}
use Rattle.sqlite.specs.Cast.{cast}
use Rattle.queue_tables.specs.Values.{moment, truth}

either : (b : Bool) (x : Value) → cond b x x ≡ x
either true x = refl
either false x = refl

pub cast_null : cast Integer Null ≡ Null
unfolding unary
cast_null = either _ Null

pub cast_int : (n : ℤ) → cast Integer (Int n) ≡ Int n
unfolding unary
cast_int n = either _ (Int n)

pub cast_moment : (o : Option ℕ) → cast Integer (moment o) ≡ moment o
cast_moment None = cast_null
cast_moment (Some n) = cast_int (pos n)

pub bound_moment : (o : Option ℕ) → bound_value (moment o) ≡ moment o
bound_moment None = refl
bound_moment (Some n) = refl

-- a truth value is bound as a number
pub bound_truth : (b : Bool) → Int (if b then pos 1 else pos 0) ≡ truth b
bound_truth true = refl
bound_truth false = refl
