use Rattle.std.proofs.Common.{◌≡◌, List, ℕ, bytes_eq, take, Bor}
use Rattle.std.specs.BTreeSet.{contains}
use Rattle.std.specs.Cmp.Lexicographic.{slice_cmp}
use Rattle.std.specs.List.{list_any}
use Rattle.std.specs.Ordering.{nat_cmp}
use Rattle.queue_core.specs.World.{owners}
use Rattle.queue_scenes.specs.Expiry.{texts}
use Rattle.queue_scenes.proofs.expiry_scene.owners_of.Given as goal

abbrev pub invariant-loop-job : goal.invariant-loop-job
invariant-loop-job l =
    (texts l.names.items ≡ owners (take l.job-index l.jobs))
    × ((q : Bor (List ℕ)) → contains (λ a b. slice_cmp nat_cmp a.now b.now) l.seen q ≡ list_any (λ b. bytes_eq q.now b) (texts l.names.items))
