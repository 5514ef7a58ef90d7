-- What is decided on a call has one of a few forms.
use Rattle.std.proofs.Common.{◌≡◌, ℕ, List, [], ◌∷◌, refl, subst, Bool, true, false, cond}
use Rattle.std.specs.Prelude.{Option, Some, None, ◌||◌, bytes_eq, filter, nat_le, nat_lt}
use Rattle.std.specs.List.{list_all}
use Rattle.queue_types.specs.Job.{estimate}
use Rattle.queue_types.specs.Operators.{is_operator}
use Rattle.queue_types.specs.Event.{NewJob, Call, Decision, print_job, validate_job, create_job, send_document, cancel_job, cancel_my_jobs, hold_job, release_job, get_job_attributes, get_jobs, get_printer_attributes}
use Rattle.queue_core.specs.Machine.{answered, refused, becomes, entered, new_job, new_document, new_refusal, unless_refused, call_row, printer_row, send_in, document_sent, is_sendable, is_cancelable, canceled_by, cause, cancel_row, are_there, all_canceled, cancel_my_jobs_row, hold_in, has_pages, let_print, release_in, of_own, of_seen}
use Rattle.queue_types.specs.declared.document.Format.{Format}
use Rattle.queue_types.specs.declared.event.Reply.TheVariants.{Done, Jobs}
use Rattle.queue_types.specs.declared.event.Scene.{Scene}
use Rattle.queue_types.specs.declared.event.WhichJobs.{WhichJobs}
use Rattle.queue_types.specs.declared.job.Job.{Job}
use Rattle.queue_types.specs.declared.job.Phase.{Phase}
use Rattle.queue_types.specs.declared.job.Phase.TheVariants.{Waiting, Running, Stopped}
use Rattle.queue_core.proofs.Numbers.{filter_whole}
use Rattle.queue_core.proofs.Print.{refused_by}

-- the first job of the scene is the caller's own
pub record IsOwn (s : Scene) (caller : List ℕ) (j : Job) : Type 0 where
  pub rest : List Job
  pub first : s.jobs ≡ j ∷ rest
  pub owner : bytes_eq j.owner caller ≡ true

-- the first job of the scene is one that the caller may see
pub record IsSeen (s : Scene) (caller : List ℕ) (j : Job) : Type 0 where
  pub rest : List Job
  pub first : s.jobs ≡ j ∷ rest
  pub allowed : (bytes_eq j.owner caller || is_operator s.settings.operators caller) ≡ true

-- a refusal; an answer alone; or the change that the call asks for
pub data HasForm (s : Scene) (now : ℕ) (caller : List ℕ) : Call → Decision → Type 0 where
  not_possible : (call : Call) → HasForm s now caller call (refused 0x0404)
  not_found : (call : Call) → HasForm s now caller call (refused 0x0406)
  out_of_numbers : (call : Call) → HasForm s now caller call (refused 0x0506)
  done : (call : Call) → HasForm s now caller call (answered Done)
  lists : (which : WhichJobs) (limit : Option ℕ) (mine : Bool) → HasForm s now caller (get_jobs which limit mine) (answered (Jobs s.jobs))
  shows : (n : ℕ) (j : Job) → IsSeen s caller j → HasForm s now caller (get_job_attributes n) (answered (Jobs (j ∷ [])))
  shows_printer : HasForm s now caller get_printer_attributes (printer_row s)
  prints : (new : NewJob) (format : Format) (payload : List ℕ) → new_refusal s ≡ None → HasForm s now caller (print_job new format payload) (entered s (new_job s now caller false new payload) (new_document s.next format payload))
  creates : (new : NewJob) → new_refusal s ≡ None → HasForm s now caller (create_job new) (entered s (new_job s now caller true new []) None)
  sends : (n : ℕ) (format : Format) (payload : List ℕ) (last : Bool) (j : Job) → IsOwn s caller j → is_sendable j payload ≡ true → HasForm s now caller (send_document n format payload last) (document_sent s j format payload last)
  cancels : (n : ℕ) (j : Job) → IsSeen s caller j → is_cancelable j ≡ true → HasForm s now caller (cancel_job n) (becomes s (canceled_by (cause caller j) now j))
  cancels_all : (numbers : Option (List ℕ)) → HasForm s now caller (cancel_my_jobs numbers) (all_canceled s now (filter is_cancelable s.jobs))
  holds : (n : ℕ) (j : Job) → IsOwn s caller j → j.phase ≡ Waiting → HasForm s now caller (hold_job n) (becomes s (record j { hold = true }))
  releases : (n : ℕ) (j : Job) → IsOwn s caller j → j.phase ≡ Waiting → has_pages s.free (estimate j) ≡ true → HasForm s now caller (release_job n) (becomes s (record j { hold = false }))

module _ (s : Scene) (now : ℕ) (caller : List ℕ) where
  unless_form : (call : Call) (full past : Bool) (d : Decision) → (refused_by full past ≡ None → HasForm s now caller call d) → HasForm s now caller call (unless_refused (refused_by full past) d)
  unless_form call true past d form = not_possible call
  unless_form call false true d form = out_of_numbers call
  unless_form call false false d form = form refl

  -- the decision where the test passes
  where_form : (call : Call) (b : Bool) (d : Decision) → (b ≡ true → HasForm s now caller call d) → HasForm s now caller call (cond b d (refused 0x0404))
  where_form call true d form = form refl
  where_form call false d form = not_possible call

  own_form : (call : Call) (row : Job → Decision) → ((j : Job) → IsOwn s caller j → HasForm s now caller call (row j)) → (js : List Job) → s.jobs ≡ js → HasForm s now caller call (of_own caller row js)
  own_form call row each [] first = not_found call
  own_form call row each (j ∷ rest) first =
      elim (bytes_eq j.owner caller) as (λ b. bytes_eq j.owner caller ≡ b → HasForm s now caller call (cond b (row j) (refused 0x0406))) [
        | true ↦ λ owner. each j (record { rest = rest; first = first; owner = owner })
        | false ↦ λ owner. not_found call
      ] refl

  seen_form : (call : Call) (row : Job → Decision) → ((j : Job) → IsSeen s caller j → HasForm s now caller call (row j)) → (js : List Job) → s.jobs ≡ js → HasForm s now caller call (of_seen s.settings.operators caller row js)
  seen_form call row each [] first = not_found call
  seen_form call row each (j ∷ rest) first =
      elim (bytes_eq j.owner caller || is_operator s.settings.operators caller) as (λ b. (bytes_eq j.owner caller || is_operator s.settings.operators caller) ≡ b → HasForm s now caller call (cond b (row j) (refused 0x0406))) [
        | true ↦ λ allowed. each j (record { rest = rest; first = first; allowed = allowed })
        | false ↦ λ allowed. not_found call
      ] refl

  hold_form : (n : ℕ) (j : Job) → IsOwn s caller j → (p : Phase) → j.phase ≡ p → HasForm s now caller (hold_job n) (hold_in p s j)
  hold_form n j own Waiting is = holds n j own is
  hold_form n j own _ is = not_possible (hold_job n)

  release_form : (n : ℕ) (j : Job) → IsOwn s caller j → (p : Phase) → j.phase ≡ p → HasForm s now caller (release_job n) (release_in p s j)
  release_form n j own Waiting is =
      elim j.hold as (λ b. HasForm s now caller (release_job n) (cond b (let_print s j) (answered Done))) [
        | true ↦ where_form (release_job n) (has_pages s.free (estimate j)) _ (releases n j own is)
        | false ↦ done (release_job n)
      ]
  release_form n j own Running is = done (release_job n)
  release_form n j own Stopped is = done (release_job n)
  release_form n j own _ is = not_possible (release_job n)

  named_form : (numbers : List ℕ) → HasForm s now caller (cancel_my_jobs (Some numbers)) (cancel_my_jobs_row s now (Some numbers))
  named_form numbers =
      elim (are_there s.jobs numbers) as (λ b. HasForm s now caller (cancel_my_jobs (Some numbers)) (cond b (cond (list_all is_cancelable s.jobs) (all_canceled s now s.jobs) (refused 0x0404)) (refused 0x0406))) [
        | true ↦ where_form (cancel_my_jobs (Some numbers)) (list_all is_cancelable s.jobs) (all_canceled s now s.jobs)
            (λ all. subst (λ js. HasForm s now caller (cancel_my_jobs (Some numbers)) (all_canceled s now js)) (filter_whole is_cancelable s.jobs all) (cancels_all (Some numbers)))
        | false ↦ not_found (cancel_my_jobs (Some numbers))
      ]

  pub call_form : (call : Call) → HasForm s now caller call (call_row s now caller call)
  call_form (print_job j format payload) = unless_form (print_job j format payload) (nat_le 100 s.live) (nat_lt 2147483647 s.next) _ (prints j format payload)
  call_form (validate_job j) = unless_form (validate_job j) (nat_le 100 s.live) (nat_lt 2147483647 s.next) _ (λ room. done (validate_job j))
  call_form (create_job j) = unless_form (create_job j) (nat_le 100 s.live) (nat_lt 2147483647 s.next) _ (creates j)
  call_form (send_document n format payload last) = own_form (send_document n format payload last) (λ j. send_in s j format payload last) (λ j own. where_form (send_document n format payload last) (is_sendable j payload) _ (sends n format payload last j own)) s.jobs refl
  call_form (cancel_job n) = seen_form (cancel_job n) (λ j. cancel_row s now (cause caller j) j) (λ j seen. where_form (cancel_job n) (is_cancelable j) _ (cancels n j seen)) s.jobs refl
  call_form (cancel_my_jobs None) = cancels_all None
  call_form (cancel_my_jobs (Some numbers)) = named_form numbers
  call_form (hold_job n) = own_form (hold_job n) (λ j. hold_in j.phase s j) (λ j own. hold_form n j own j.phase refl) s.jobs refl
  call_form (release_job n) = own_form (release_job n) (λ j. release_in j.phase s j) (λ j own. release_form n j own j.phase refl) s.jobs refl
  call_form (get_job_attributes n) = seen_form (get_job_attributes n) (λ j. answered (Jobs (j ∷ []))) (shows n) s.jobs refl
  call_form (get_jobs which limit mine) = lists which limit mine
  call_form get_printer_attributes = shows_printer
