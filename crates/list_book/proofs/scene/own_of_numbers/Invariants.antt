use Rattle.std.proofs.Common.{◌≡◌, take}
use Rattle.std.specs.Prelude.{filter, bytes_eq, ◌&&◌}
use Rattle.queue_core.specs.World.{is_one_of}
use Rattle.list_book.proofs.scene.own_of_numbers.Given as goal

abbrev pub invariant-loop-job : goal.invariant-loop-job
invariant-loop-job l = l.named.items ≡ filter (λ j. bytes_eq j.owner l.caller && is_one_of l.numbers j) (take l.job-index l.jobs)
