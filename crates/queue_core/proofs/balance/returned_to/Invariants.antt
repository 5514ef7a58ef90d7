use Rattle.std.proofs.Common.{◌≡◌, ◌*◌, ◌^◌, pos, ◌+ℤ◌, take}
use Rattle.std.specs.Prelude.{fold}
use Rattle.queue_core.specs.Machine.{given_back}
use Rattle.queue_core.specs.Balance.{IsWithin}
use Rattle.queue_core.proofs.balance.returned_to.Given as goal

-- the sum over the jobs that were looked at
abbrev pub invariant-loop-job : goal.invariant-loop-job
invariant-loop-job l = record {
  sum : l.back ≡ fold (λ sum j. sum +ℤ given_back l.before l.account j) (pos 0) (take l.job-index l.after);
  bound : IsWithin (2 ^ 28 * l.job-index) l.back;
}
