-- The order of finished jobs (RFC 8011, section 4.2.6).
use Rattle.std.specs.Prelude.{◌≡◌, ◌≤◌, ℕ, List, [], ◌∷◌, ⊤, unwrap_or}
use Rattle.std.specs.List.{AllByRecursion as Each}
use Rattle.queue_types.specs.declared.job.Job.{Job}

-- the moment at which a job ended
abbrev pub ended_at : Job → ℕ
ended_at j = unwrap_or j.ended 0

-- k ended no later than j, and at the same moment only with no greater number
abbrev pub IsNoNewer : Job → Job → Type 0
IsNoNewer k j = (ended_at k ≤ ended_at j) × (ended_at k ≡ ended_at j → k.number ≤ j.number)

-- no job is newer than one before it
abbrev pub EndInTurn : List Job → Type 0
EndInTurn [] = ⊤
EndInTurn (j ∷ js) = Each (λ k. IsNoNewer k j) js × EndInTurn js
