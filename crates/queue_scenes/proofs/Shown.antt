-- What Get-Jobs shows, as so many of the jobs that it shows without a limit.
use Rattle.std.proofs.Common.{◌≡◌, ℕ, Bool, ◌&&◌, ◌||◌, List, Option, None, Some, filter, take, ap, arith, bytes_eq}
use Rattle.std.specs.Prelude.{unwrap_or}
use Rattle.std.proofs.lemmas.List.{take_all}
use Rattle.std.proofs.lemmas.List.Elements.{All-from_recursion}
use Rattle.sqlite_keyed.proofs.ListLemmas.{all-filter}
use Rattle.queue_types.specs.declared.job.Job.{Job}
use Rattle.queue_types.specs.declared.event.WhichJobs.{WhichJobs}
use Rattle.queue_core.specs.Sound.{IsSound}
use Rattle.queue_core.specs.Visible.{is_among, visible}
use Rattle.queue_core.specs.World.{World, job_at, rows}
use Rattle.queue_core.proofs.Ordered.{each-visible}
use Rattle.queue_tables.specs.Content.{AreRowsOf}
use Rattle.queue_scenes.proofs.Bounds.{visible_fit}
use Rattle.queue_scenes.proofs.Lists.{each_row}

-- no queue has more jobs than there are job numbers
pub within_most : (all : Bool) (name : List ℕ) (which : WhichJobs) (limit : Option ℕ) (most : ℕ) → most ≡ unwrap_or limit 2147483647 → (w : World) → IsSound w → take most (visible all name which None (rows w)) ≡ visible all name which limit (rows w)
within_most all name which None most is w sound = take_all most (visible all name which None (rows w)) (let few = visible_fit all name which None w sound in omega (arith, few, is))
within_most all name which (Some n) most is w sound = ap (λ m. take m (visible all name which None (rows w))) is

pub visible_rows : (all : Bool) (name : List ℕ) (which : WhichJobs) (limit : Option ℕ) (w : World) → IsSound w → AreRowsOf w (visible all name which limit (rows w))
visible_rows all name which limit w sound =
    let shown = λ (j : Job). (all || bytes_eq j.owner name) && is_among which j in
    All-from_recursion (λ (j : Job). job_at j.number (rows w) ≡ Some j) (visible all name which limit (rows w))
    (each-visible (λ (j : Job). job_at j.number (rows w) ≡ Some j) limit which (filter shown (rows w)) (all-filter (λ (j : Job). job_at j.number (rows w) ≡ Some j) shown (rows w) (each_row w sound)))
