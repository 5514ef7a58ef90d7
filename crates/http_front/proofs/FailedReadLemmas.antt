-- What was written where a read failed.
use Rattle.std.proofs.Common.{◌≡◌, ◌∙◌, ℕ, List, Option, Ok, Err, IfErr, false, sym, inr}
use Rattle.std.specs.Prelude.{◌≢◌, Result}
use Rattle.std.specs.Result.{IsErrAnd}
use Rattle.std.specs.Io.KnownBytes.{Appends}
use Rattle.http_head.specs.Received.{TakesPlan}
use Rattle.http_head.specs.declared.plan.Plan.{Plan}
use Rattle.http_wire.specs.Responses.{interim_response}
use Rattle.http_front.specs.FailedReads.{FailsToRead}
use Rattle.http_front.specs.declared.outcome.ServeCause.TheVariants.{Read, Write}
use Rattle.http_front.specs.declared.outcome.Stopped.{Stopped}

write_is_no_read : Write ≡ Read → ⊥
write_is_no_read e = absurd (cc)

-- where a write failed, no read did
pub failed_by_write : {A : Type 0} (r : Result A Stopped) → IsErrAnd r (λ f. (f.tally.acted ≡ false) × (f.tally.is_fault ≡ false) × (f.cause ≡ Write)) → IfErr r (λ f. f.cause ≢ Read)
failed_by_write (Ok a) h = tt
failed_by_write (Err f) h = λ e. write_is_no_read (sym h.2 ∙ e)

-- anything holds of a read that failed, where none did
pub unless_read : {A : Type 0} (P : Type 0) (r : Result A Stopped) → IfErr r (λ f. f.cause ≢ Read) → IfErr r (λ f. f.cause ≡ Read → P)
unless_read P (Ok a) h = tt
unless_read P (Err f) h = λ e. absurd (h e)

-- behind a head
pub failed_behind : {A : Type 0} (result : Result A Stopped) (r s v x behind : Option (List ℕ)) (plan : Plan) → TakesPlan r behind plan
    → IfErr result (λ f. f.cause ≡ Read → Appends v x (interim_response plan)) → IfErr result (λ f. f.cause ≡ Read → FailsToRead r s v x)
failed_behind (Ok a) r s v x behind plan taken h = tt
failed_behind (Err f) r s v x behind plan taken h = λ e. inr (plan, behind, taken, h e)
