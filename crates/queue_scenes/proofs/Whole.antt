-- Jobs from their rows, one after another.
use Rattle.std.proofs.Common.{◌≡◌, ℕ, suc, zero, ◌+◌, ◌<◌, List, [], ◌∷◌, ◌++◌, map, length, take, get_or, All, refl, ap, subst, ◌∙◌, arith}
use Rattle.std.proofs.lemmas.List.{take_more}
use Rattle.sqlite.specs.Order.{Row}
use Rattle.queue_types.specs.declared.job.Job.{Job}
use Rattle.queue_tables.specs.Values.{job_values}

-- the job at a place, whose row stands there
pub record HasStep (js : List Job) (i : ℕ) (row : Row) : Type 0 where
  pub job : Job
  pub low : i < length js
  pub there : get_or js i job ≡ job
  pub row_is : row ≡ job_values job

pub step : (js : List Job) (i : ℕ) (row : Row) → i < length (map job_values js) → row ≡ get_or (map job_values js) i row → HasStep js i row
step [] i row low is = absurd (omega (arith, low))
step (j ∷ js) zero row low is = record { job = j; low = omega arith; there = refl; row_is = is }
step (j ∷ js) (suc i) row low is =
    let more = step js i row (omega (arith, low)) is in
    record { job = more.job; low = (let l = more.low in omega (arith, l)); there = more.there; row_is = more.row_is }

pub taken : (js : List Job) (i : ℕ) (row : Row) (s : HasStep js i row) → take (i + 1) js ≡ take i js ++ s.job ∷ []
taken js i row s = take_more js i s.job s.low ∙ ap (λ (j : Job). take i js ++ j ∷ []) s.there

pub has_step : (P : Job → Type 0) (js : List Job) (i : ℕ) (row : Row) (s : HasStep js i row) → All P js → P s.job
has_step P js i row s all = subst P s.there (all i s.job s.low)
