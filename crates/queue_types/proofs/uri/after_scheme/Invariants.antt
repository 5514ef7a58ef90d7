use Rattle.std.proofs.Common.{◌≡◌, length}
use Rattle.queue_types.specs.Uri.{behind_mark}
use Rattle.queue_types.proofs.uri.after_scheme.Given as goal

abbrev pub invariant-loop-at : goal.invariant-loop-at
invariant-loop-at l = behind_mark l.at ≡ behind_mark l.fn.uri

abbrev pub decreases-loop-at : goal.decreases-loop-at
decreases-loop-at l = length l.at
