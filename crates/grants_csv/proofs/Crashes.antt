-- What taking the rows of an account file leaves, where a crash may come at any moment.
use Rattle.std.proofs.Common.{◌≡◌, ℕ, List, Result, Ok, Err, Some, refl, subst, sym}
use Rattle.std.specs.Prelude.{IfOk, OnErr, OnOk}
use Rattle.queue_types.specs.Event.{Event, grant}
use Rattle.queue_types.specs.declared.event.GrantRow.{GrantRow}
use Rattle.queue_core.specs.Crash.{Carries, Leaves, taken}
use Rattle.queue_core.specs.Machine.{step}
use Rattle.queue_core.specs.World.{World}
use Rattle.queue_core.proofs.Crashes.{Stays, leaves_by}
use Rattle.grants_csv.specs.Fault.{IsOfFileUnlessFault, fault}
use Rattle.grants_csv.specs.File.{rows_of}
use Rattle.grants_csv.specs.Import.{AskedBy, Asks, grants}
use Rattle.grants_csv.specs.declared.fault.ImportFault.{ImportFault}
use Rattle.grants_csv.specs.declared.importing.Imported.{Imported}
use Rattle.grants_csv.proofs.ImportLemmas.{read_by}

-- rows that were taken are what a crash leaves
pub rows_taken : (old new : World → Type 0) (was leaves : World → World → Type 0) (now : ℕ) (file : List ℕ) (rows : List GrantRow) (r : Result Imported ImportFault) (live : Type 0)
    → IsOfFileUnlessFault file (Ok rows) (rows_of file)
    → IfOk r (λ n. (w : World) → old w → new (step w now (grant rows)).world) → OnOk r live → ((w v : World) → live → new w → leaves w v)
    → IfOk r (λ n. (w : World) → old w → new (step w now (grant rows)).world × Carries was leaves (AskedBy file) (r ≡ Err fault) now w (step w now (grant rows)).world)
rows_taken old new was leaves now file rows (Ok n) live read made is_live lasts =
    λ w stands. (made w stands, λ v left. ((step w now (grant rows)).world, lasts _ _ is_live (made w stands), taken (grant rows) (grants rows (read_by file rows read)) refl refl))
rows_taken old new was leaves now file rows (Err f) live read made is_live lasts = tt

as_asked : {failed : Type 0} (now : ℕ) (w v u x : World) (file : List ℕ) (rows : List GrantRow) → IsOfFileUnlessFault file (Ok rows) (rows_of file) → Leaves (λ e. e ≡ grant rows) failed now w v u x
    → Leaves (AskedBy file) failed now w v u x
as_asked now w v u x file rows read left =
    leaves_by _ _ _ _ now w v u x (λ e is. subst (λ (z : Event). Asks file (Some z)) (sym is) (grants rows (read_by file rows read))) (λ failed. failed) left

-- what rows leave that were not taken
pub rows_left : (old new : World → Type 0) (was leaves : World → World → Type 0) (now : ℕ) (file : List ℕ) (rows : List GrantRow) (r : Result Imported ImportFault)
    → IsOfFileUnlessFault file (Ok rows) (rows_of file) → OnErr r ((w : World) → old w → new w)
    → OnErr r (Stays old was leaves (λ e. e ≡ grant rows) (r ≡ Err fault) now)
    → OnErr r ((w : World) → old w → new w × Carries was leaves (AskedBy file) (r ≡ Err fault) now w w)
rows_left old new was leaves now file rows (Ok n) read kept left = tt
rows_left old new was leaves now file rows (Err f) read kept left =
    λ w stands. (kept w stands, λ v was_left. let l = left w v stands was_left in (l.0, l.1, as_asked now w v w l.0 file rows read l.2))
