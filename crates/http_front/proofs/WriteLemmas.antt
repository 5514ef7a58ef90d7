-- What was written in several pieces, and what was written when a piece failed.
use Rattle.std.proofs.Common.{◌≡◌, false, Ok, Err, Option, ℕ, List, [], sym, append-nil}
use Rattle.std.specs.Io.KnownBytes.{Appends}
use Rattle.std.specs.Prelude.{Result}
use Rattle.std.specs.Result.{IsErrAnd}
use Rattle.http_wire.specs.Responses.{WritesFront}
use Rattle.http_front.specs.declared.outcome.ServeCause.TheVariants.{Write}
use Rattle.http_front.specs.declared.outcome.Stopped.{Stopped}

-- a whole piece is a front of it
pub front_all : (a b : Option (List ℕ)) (xs : List ℕ) → Appends a b xs → WritesFront a b xs
front_all a b xs p = record { front = xs; rest = []; written = p; is = sym (append-nil xs) }

-- what holds of a turn that is stopped, where a write failed before it acted
pub by_write : {A : Type 0} (P : Result A Stopped → Type 0) (r : Result A Stopped) → IsErrAnd r (λ f. (f.tally.acted ≡ false) × (f.tally.is_fault ≡ false) × (f.cause ≡ Write))
    → ((f : Stopped) → f.tally.acted ≡ false → f.tally.is_fault ≡ false → P (Err f)) → P r
by_write P (Ok a) h each = absurd h
by_write P (Err f) h each = each f h.0 h.1
