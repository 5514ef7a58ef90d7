-- What the rows of operations on one job leave.
use Rattle.std.proofs.Common.{◌≡◌, ℕ, List, [], ◌∷◌, ◌++◌, map, refl, ap, ◌∙◌, Bool, true, false, cond}
use Rattle.std.specs.Prelude.{Option, Some, None, IfSome, ◌||◌, nat_eq, bytes_eq, fold, not}
use Rattle.std.specs.List.{AllByRecursion as Each}
use Rattle.queue_types.specs.Event.{Decision, NewDocument, ask, get_job_attributes}
use Rattle.queue_types.specs.Operators.{is_operator}
use Rattle.queue_core.specs.World.{World, Entry, rows, made_on, numbered, with_row, add_document, with_document}
use Rattle.queue_core.specs.Machine.{step, answered, refused, cancel_row, send_in, new_document, hold_in, release_in, of_seen}
use Rattle.queue_types.specs.declared.document.Format.{Format}
use Rattle.queue_types.specs.declared.job.Job.{Job}
use Rattle.queue_types.specs.declared.job.Why.{Why}
use Rattle.queue_types.specs.declared.event.Reply.TheVariants.{Jobs}
use Rattle.queue_types.specs.declared.event.Scene.{Scene}
use Rattle.queue_laws.specs.Jobs.{jobs_but}
use Rattle.queue_laws.proofs.Asked.{same_canceled}
use Rattle.queue_laws.proofs.Base.{first_named}
use Rattle.queue_laws.proofs.Callers.{document_row}
use Rattle.queue_laws.proofs.Telling.{but_row}
use Rattle.queue_laws.proofs.OneJob.{of_any}
use Rattle.queue_laws.proofs.Rows.{on_send, on_cancel, on_hold, on_release}

-- it changes the job of that number alone
abbrev pub IsOfOne : ℕ → Decision → Type 0
IsOfOne n d = Each (λ (x : Job). x.number ≡ n) d.change.jobs × IfSome d.change.document (λ x. x.job ≡ n)

-- ---- each row of the table

document_of_one : (n m : ℕ) (format : Format) (payload : List ℕ) → m ≡ n → IfSome (new_document m format payload) (λ x. x.job ≡ n)
document_of_one n m format [] is = tt
document_of_one n m format (b ∷ bytes) is = is

module _ (n : ℕ) (s : Scene) (j : Job) (is : j.number ≡ n) where
  pub sent_one : (format : Format) (payload : List ℕ) (last : Bool) → IsOfOne n (send_in s j format payload last)
  sent_one format payload last = on_send (IsOfOne n) s j format payload last (λ can. ((is, tt), document_of_one n j.number format payload is)) (tt, tt)

  pub canceled_one : (now : ℕ) (why : Why) → IsOfOne n (cancel_row s now why j)
  canceled_one now why = on_cancel (IsOfOne n) s j now why (λ can. (((same_canceled why now j j.phase).number ∙ is, tt), tt)) (tt, tt)

  pub held_one : IsOfOne n (hold_in j.phase s j)
  held_one = on_hold (IsOfOne n) s j (λ waits. ((is, tt), tt)) (tt, tt)

  pub released_one : IsOfOne n (release_in j.phase s j)
  released_one = on_release (IsOfOne n) s j (λ waits has. ((is, tt), tt)) (tt, tt) (tt, tt)

-- ---- the other jobs

but_rows : (n : ℕ) (xs : List Job) (es : List Entry) → Each (λ (x : Job). x.number ≡ n) xs → jobs_but n (fold with_row es xs) ≡ jobs_but n es
but_rows n [] es each = refl
but_rows n (x ∷ xs) es each = but_rows n xs (with_row es x) each.1 ∙ but_row n x es each.0

but_document : (n : ℕ) (d : NewDocument) (es : List Entry) → d.job ≡ n → jobs_but n (map (add_document d) es) ≡ jobs_but n es
but_document n d [] is = refl
but_document n d (e ∷ es) is =
    let rest : jobs_but n (map (add_document d) es) ≡ jobs_but n es = but_document n d es is in
    ap (λ (r : Job). cond (not (nat_eq r.number n)) (add_document d e ∷ jobs_but n (map (add_document d) es)) (jobs_but n (map (add_document d) es))) (document_row d e)
    ∙ elim (nat_eq e.row.number n) as (λ t. nat_eq e.row.number n ≡ t → cond (not t) (add_document d e ∷ jobs_but n (map (add_document d) es)) (jobs_but n (map (add_document d) es)) ≡ cond (not t) (e ∷ jobs_but n es) (jobs_but n es)) [
      | true ↦ λ here. rest
      | false ↦ λ here.
          let same : add_document d e ≡ e = ap (λ t. cond t (record e { documents = e.documents ++ record { format = d.format; bytes = d.bytes } ∷ [] }) e) (ap (nat_eq e.row.number) is ∙ here) in
          (λ i. same i ∷ rest i)
    ] refl

but_documents : (n : ℕ) (o : Option NewDocument) (es : List Entry) → IfSome o (λ d. d.job ≡ n) → jobs_but n (with_document es o) ≡ jobs_but n es
but_documents n None es is = refl
but_documents n (Some d) es is = but_document n d es is

module _ (w : World) (n : ℕ) where
  left_by : (d : Decision) → IsOfOne n d → jobs_but n (made_on d.change w).jobs ≡ jobs_but n w.jobs
  left_by d one = but_documents n d.change.document (fold with_row w.jobs d.change.jobs) one.1 ∙ but_rows n d.change.jobs w.jobs one.0

  any_one : (any : Bool) (caller : List ℕ) (row : Job → Decision) (js : List Job) → ((j : Job) (rest : List Job) → js ≡ j ∷ rest → IsOfOne n (row j)) → IsOfOne n (of_any any caller row js)
  any_one any caller row [] each = (tt, tt)
  any_one any caller row (j ∷ rest) each = elim (bytes_eq j.owner caller || any) as (λ (b : Bool). IsOfOne n (cond b (row j) (refused 0x0406))) [ true ↦ each j rest refl | false ↦ (tt, tt) ]

  pub any_left : (any : Bool) (caller : List ℕ) (row : Job → Decision) → ((j : Job) → j.number ≡ n → IsOfOne n (row j)) → jobs_but n (made_on (of_any any caller row (numbered n (rows w))).change w).jobs ≡ jobs_but n w.jobs
  any_left any caller row each = left_by (of_any any caller row (numbered n (rows w))) (any_one any caller row (numbered n (rows w)) (λ j rest e. each j (first_named n (rows w) j rest e).1))

-- ---- what is only shown

shows : (w : World) (operators : List (List ℕ)) (caller : List ℕ) (js : List Job) → made_on (of_seen operators caller (λ j. answered (Jobs (j ∷ []))) js).change w ≡ w
shows w operators caller [] = refl
shows w operators caller (j ∷ js) = elim (bytes_eq j.owner caller || is_operator operators caller) as (λ (b : Bool). made_on (cond b (answered (Jobs (j ∷ []))) (refused 0x0406)).change w ≡ w) [ true ↦ refl | false ↦ refl ]

pub shown_kept : (w : World) (now n : ℕ) (caller : List ℕ) → (step w now (ask caller (get_job_attributes n))).world ≡ w
shown_kept w now n caller = shows w w.settings.operators caller (numbered n (rows w))
