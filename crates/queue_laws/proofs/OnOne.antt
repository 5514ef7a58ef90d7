-- What an operation on one job is answered, and what it leaves.
use Rattle.std.proofs.Common.{◌≡◌, ◌⊎◌, ℕ, List, [], ◌∷◌, ap, sym, ◌∙◌, inl, inr, Bool, true, false}
use Rattle.std.specs.Prelude.{Some, None, ◌&&◌, bytes_eq}
use Rattle.std.proofs.Math.Bool.{and-false}
use Rattle.std.proofs.lemmas.Option.{same_Some, none-some}
use Rattle.queue_types.specs.Event.{Call, Decision, ask, send_document, cancel_job, hold_job, release_job, get_job_attributes, on_job}
use Rattle.queue_types.specs.Operators.{is_operator}
use Rattle.queue_core.specs.World.{World, rows, cut, made_on, job_at, numbered}
use Rattle.queue_core.specs.Machine.{decision, step, answered, cancel_row, cause, send_in, hold_in, release_in, of_own, of_seen}
use Rattle.queue_types.specs.declared.job.Job.{Job}
use Rattle.queue_types.specs.declared.event.Reply.TheVariants.{Refused, Jobs}
use Rattle.queue_types.specs.declared.event.Scene.{Scene}
use Rattle.queue_laws.specs.Calls.{is_on_any}
use Rattle.queue_laws.specs.Jobs.{jobs_but}
use Rattle.queue_laws.proofs.OneJob.{Finds, finds_sent, finds_canceled, finds_held, finds_released, finds_shown, of_any, own_any, seen_any, any_none, any_others, any_callers}
use Rattle.queue_laws.proofs.OneLeft.{IsOfOne, sent_one, canceled_one, held_one, released_one, any_left}

-- it is decided by a row of the table, on the job of that number where the caller may see it: the row finds the job, and changes it alone
record IsOnOne (n : ℕ) (any : Bool) (caller : List ℕ) (js : List Job) (d : Decision) : Type 0 where
  row : Job → Decision
  is : d ≡ of_any any caller row (numbered n js)
  finds : (j : Job) → Finds (row j)
  one : (j : Job) → j.number ≡ n → IsOfOne n (row j)

module _ (w : World) (now n : ℕ) (caller : List ℕ) where
  abbrev operator : Bool
  operator = is_operator w.settings.operators caller

  at_number : (m : ℕ) (any : Bool) (row : Job → Decision) → Some m ≡ Some n → of_any any caller row (numbered m (rows w)) ≡ of_any any caller row (numbered n (rows w))
  at_number m any row on = ap (λ k. of_any any caller row (numbered k (rows w))) (same_Some m n on)

  -- of the caller's own, or of any
  by_own : (m : ℕ) (row : Job → Decision) → Some m ≡ Some n → of_own caller row (numbered m (rows w)) ≡ of_any false caller row (numbered n (rows w))
  by_own m row on = own_any caller row (numbered m (rows w)) ∙ at_number m false row on

  by_seen : (m : ℕ) (row : Job → Decision) → Some m ≡ Some n → of_seen w.settings.operators caller row (numbered m (rows w)) ≡ of_any operator caller row (numbered n (rows w))
  by_seen m row on = seen_any w.settings.operators caller row (numbered m (rows w)) ∙ at_number m operator row on

  on_one : (call : Call) → on_job call ≡ Some n → IsOnOne n (is_on_any call && operator) caller (rows w) (decision (cut w now (ask caller call)) now (ask caller call))
  on_one (send_document m format payload last) on =
      let s : Scene = cut w now (ask caller (send_document m format payload last)) in
      let row : Job → Decision = λ j. send_in s j format payload last in
      record { row = row; is = by_own m row on; finds = λ j. finds_sent s j format payload last; one = λ j is. sent_one n s j is format payload last }
  on_one (cancel_job m) on =
      let s : Scene = cut w now (ask caller (cancel_job m)) in
      let row : Job → Decision = λ j. cancel_row s now (cause caller j) j in
      record { row = row; is = by_seen m row on; finds = λ j. finds_canceled s now (cause caller j) j; one = λ j is. canceled_one n s j is now (cause caller j) }
  on_one (hold_job m) on =
      let s : Scene = cut w now (ask caller (hold_job m)) in
      let row : Job → Decision = λ j. hold_in j.phase s j in
      record { row = row; is = by_own m row on; finds = finds_held s; one = held_one n s }
  on_one (release_job m) on =
      let s : Scene = cut w now (ask caller (release_job m)) in
      let row : Job → Decision = λ j. release_in j.phase s j in
      record { row = row; is = by_own m row on; finds = finds_released s; one = released_one n s }
  on_one (get_job_attributes m) on =
      let row : Job → Decision = λ j. answered (Jobs (j ∷ [])) in
      record { row = row; is = by_seen m row on; finds = finds_shown; one = λ j is. (tt, tt) }
  on_one _ on = absurd (none-some n on)

  pub no_job : (call : Call) → on_job call ≡ Some n → job_at n (rows w) ≡ None → (step w now (ask caller call)).reply ≡ Refused 0x0406
  no_job call on none = let it = on_one call on in ap (λ (d : Decision). d.reply) it.is ∙ any_none (is_on_any call && operator) caller (rows w) it.row n none

  only_own : (call : Call) → (operator ≡ false) ⊎ (is_on_any call ≡ false) → (is_on_any call && operator) ≡ false
  only_own call (inl plain) = ap (λ b. is_on_any call && b) plain ∙ and-false (is_on_any call)
  only_own call (inr own) = ap (λ b. b && operator) own

  pub others_job : (call : Call) (j : Job) → on_job call ≡ Some n → job_at n (rows w) ≡ Some j → bytes_eq j.owner caller ≡ false → (operator ≡ false) ⊎ (is_on_any call ≡ false) → (step w now (ask caller call)).reply ≡ Refused 0x0406
  others_job call j on there other plain = let it = on_one call on in ap (λ (d : Decision). d.reply) it.is ∙ any_others (is_on_any call && operator) caller (rows w) it.row n j there other (only_own call plain)

  pub own_job : (call : Call) (j : Job) → on_job call ≡ Some n → job_at n (rows w) ≡ Some j → bytes_eq j.owner caller ≡ true → (step w now (ask caller call)).reply ≡ Refused 0x0406 → ⊥
  own_job call j on there own e = let it = on_one call on in any_callers (is_on_any call && operator) caller (rows w) it.row n j it.finds there own (sym (ap (λ (d : Decision). d.reply) it.is) ∙ e)

  pub others_left : (call : Call) → on_job call ≡ Some n → jobs_but n (step w now (ask caller call)).world.jobs ≡ jobs_but n w.jobs
  others_left call on = let it = on_one call on in ap (λ (d : Decision). jobs_but n (made_on d.change w).jobs) it.is ∙ any_left w n (is_on_any call && operator) caller it.row it.one
