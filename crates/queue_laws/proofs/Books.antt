-- What a request leaves of grants and reports.
use Rattle.std.proofs.Common.{◌≡◌, ℕ, List, [], refl, ap}
use Rattle.std.specs.Prelude.{None, fold}
use Rattle.queue_types.specs.Event.{Call, Decision, ask}
use Rattle.queue_core.specs.Machine.{step, call_row}
use Rattle.queue_core.specs.World.{World, cut, put_grant, with_report}
use Rattle.queue_types.specs.declared.event.Scene.{Scene}
use Rattle.queue_core.proofs.Forms.{HasForm, not_possible, call_form}

abbrev Keeps : Decision → Type 0
Keeps d = (d.change.grants ≡ []) × (d.change.report ≡ None)

form_keeps : (s : Scene) (now : ℕ) (caller : List ℕ) (call : Call) (d : Decision) → HasForm s now caller call d → Keeps d
form_keeps s now caller _ _ (not_possible call) = (refl, refl)
form_keeps s now caller _ _ _ = (refl, refl)

row_keeps : (s : Scene) (now : ℕ) (caller : List ℕ) (call : Call) → Keeps (call_row s now caller call)
row_keeps s now caller call = form_keeps s now caller call (call_row s now caller call) (call_form s now caller call)

pub grants_kept : (w : World) (now : ℕ) (caller : List ℕ) (call : Call) → (step w now (ask caller call)).world.grants ≡ w.grants
grants_kept w now caller call = ap (λ gs. fold put_grant w.grants gs) (row_keeps (cut w now (ask caller call)) now caller call).0

pub reports_kept : (w : World) (now : ℕ) (caller : List ℕ) (call : Call) → (step w now (ask caller call)).world.reports ≡ w.reports
reports_kept w now caller call = ap (with_report w.reports) (row_keeps (cut w now (ask caller call)) now caller call).1
