use Rattle.std.proofs.Common.{◌≡◌, length}
use Rattle.ipp_request.specs.Formats.{trimmed}
use Rattle.ipp_request.proofs.format.trimmed.Given as goal

abbrev pub invariant-loop-kept : goal.invariant-loop-kept
invariant-loop-kept l = trimmed l.kept ≡ trimmed l.fn.text

abbrev pub decreases-loop-kept : goal.decreases-loop-kept
decreases-loop-kept l = length l.kept
