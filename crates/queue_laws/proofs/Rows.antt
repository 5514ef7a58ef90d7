-- What holds of each thing that a row of the table may decide, holds of the row.
use Rattle.std.proofs.Common.{◌≡◌, ℕ, List, [], ◌∷◌, refl, Bool, true, false, cond}
use Rattle.std.specs.Prelude.{Some, None, ◌||◌, bytes_eq}
use Rattle.std.specs.List.{list_all}
use Rattle.queue_types.specs.Job.{estimate}
use Rattle.queue_types.specs.Event.{Decision}
use Rattle.queue_types.specs.Operators.{is_operator}
use Rattle.queue_core.specs.Machine.{answered, refused, becomes, new_refusal, unless_refused, canceled_by, is_cancelable, cancel_row, all_canceled, are_there, cancel_my_jobs_row, is_sendable, document_sent, send_in, hold_in, has_pages, let_print, release_in, of_own, of_seen}
use Rattle.queue_types.specs.declared.document.Format.{Format}
use Rattle.queue_types.specs.declared.job.Job.{Job}
use Rattle.queue_types.specs.declared.job.Why.{Why}
use Rattle.queue_types.specs.declared.job.Phase.TheVariants.{Waiting, Running, Stopped}
use Rattle.queue_types.specs.declared.event.Reply.TheVariants.{Done}
use Rattle.queue_types.specs.declared.event.Scene.{Scene}

module _ (P : Decision → Type 0) where
  -- the caller's own job, or none
  pub on_own : (caller : List ℕ) (row : Job → Decision) (js : List Job) → ((j : Job) (rest : List Job) → js ≡ j ∷ rest → bytes_eq j.owner caller ≡ true → P (row j)) → P (refused 0x0406) → P (of_own caller row js)
  on_own caller row [] each none = none
  on_own caller row (j ∷ rest) each none = elim (bytes_eq j.owner caller) as (λ b. bytes_eq j.owner caller ≡ b → P (cond b (row j) (refused 0x0406))) [ true ↦ each j rest refl | false ↦ λ other. none ] refl

  -- a job that the caller may see, or none
  pub on_seen : (operators : List (List ℕ)) (caller : List ℕ) (row : Job → Decision) (js : List Job) → ((j : Job) (rest : List Job) → js ≡ j ∷ rest → P (row j)) → P (refused 0x0406) → P (of_seen operators caller row js)
  on_seen operators caller row [] each none = none
  on_seen operators caller row (j ∷ rest) each none = elim (bytes_eq j.owner caller || is_operator operators caller) as (λ (b : Bool). P (cond b (row j) (refused 0x0406))) [ true ↦ each j rest refl | false ↦ none ]

  module _ (s : Scene) where
    pub on_new : (d : Decision) → P d → ((code : ℕ) → P (refused code)) → P (unless_refused (new_refusal s) d)
    on_new d enters refusal = elim (new_refusal s) as (λ o. P (unless_refused o d)) [ None ↦ enters | Some code ↦ refusal code ]

    pub on_named : (now : ℕ) (numbers : List ℕ) → (list_all is_cancelable s.jobs ≡ true → P (all_canceled s now s.jobs)) → ((code : ℕ) → P (refused code)) → P (cancel_my_jobs_row s now (Some numbers))
    on_named now numbers all refusal =
        elim (are_there s.jobs numbers) as (λ b. P (cond b (cond (list_all is_cancelable s.jobs) (all_canceled s now s.jobs) (refused 0x0404)) (refused 0x0406))) [
          | true ↦ elim (list_all is_cancelable s.jobs) as (λ b. list_all is_cancelable s.jobs ≡ b → P (cond b (all_canceled s now s.jobs) (refused 0x0404))) [ true ↦ all | false ↦ λ never. refusal 0x0404 ] refl
          | false ↦ refusal 0x0406
        ]

    module _ (j : Job) where
      pub on_send : (format : Format) (payload : List ℕ) (last : Bool) → (is_sendable j payload ≡ true → P (document_sent s j format payload last)) → P (refused 0x0404) → P (send_in s j format payload last)
      on_send format payload last taken refusal = elim (is_sendable j payload) as (λ b. is_sendable j payload ≡ b → P (cond b (document_sent s j format payload last) (refused 0x0404))) [ true ↦ taken | false ↦ λ never. refusal ] refl

      pub on_cancel : (now : ℕ) (why : Why) → (is_cancelable j ≡ true → P (becomes s (canceled_by why now j))) → P (refused 0x0404) → P (cancel_row s now why j)
      on_cancel now why ends refusal = elim (is_cancelable j) as (λ b. is_cancelable j ≡ b → P (cond b (becomes s (canceled_by why now j)) (refused 0x0404))) [ true ↦ ends | false ↦ λ never. refusal ] refl

      pub on_hold : (j.phase ≡ Waiting → P (becomes s (record j { hold = true }))) → P (refused 0x0404) → P (hold_in j.phase s j)
      on_hold held refusal = elim j.phase as (λ p. j.phase ≡ p → P (hold_in p s j)) [
        | Waiting ↦ held
        | _ ↦ λ begun. refusal
      ] refl

      on_let : (has_pages s.free (estimate j) ≡ true → P (becomes s (record j { hold = false }))) → P (refused 0x0404) → P (let_print s j)
      on_let released refusal = elim (has_pages s.free (estimate j)) as (λ b. has_pages s.free (estimate j) ≡ b → P (cond b (becomes s (record j { hold = false })) (refused 0x0404))) [ true ↦ released | false ↦ λ few. refusal ] refl

      pub on_release : (j.phase ≡ Waiting → has_pages s.free (estimate j) ≡ true → P (becomes s (record j { hold = false }))) → P (answered Done) → P (refused 0x0404) → P (release_in j.phase s j)
      on_release released already refusal = elim j.phase as (λ p. j.phase ≡ p → P (release_in p s j)) [
        | Waiting ↦ λ waits. elim j.hold as (λ b. P (cond b (let_print s j) (answered Done))) [ true ↦ on_let (released waits) refusal | false ↦ already ]
        | Running ↦ λ begun. already
        | Stopped ↦ λ begun. already
        | _ ↦ λ ended. refusal
      ] refl
