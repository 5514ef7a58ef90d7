-- What a request leaves of the jobs that it changes.
use Rattle.std.proofs.Common.{◌≡◌, ℕ, ◌+◌, List, [], ◌∷◌, map, refl, ap, sym, ◌∙◌, subst, Bool, true, false, cond}
use Rattle.std.specs.Prelude.{Option, Some, None, nat_eq, nat_le, bytes_eq, filter, fold, ◌&&◌}
use Rattle.std.specs.List.{list_all, AllByRecursion as Each}
use Rattle.std.proofs.lemmas.Bool.{and_parts}
use Rattle.std.proofs.lemmas.Option.{same_Some, none-some}
use Rattle.queue_types.specs.Job.{is_live}
use Rattle.queue_types.specs.Event.{Call, Decision, NewDocument, ask, print_job, validate_job, create_job, send_document, cancel_job, cancel_my_jobs, hold_job, release_job, get_job_attributes}
use Rattle.queue_core.specs.World.{World, Entry, rows, cut, made_on, job_at, numbered, with_row, add_document, with_document, is_one_of}
use Rattle.queue_core.specs.Machine.{decision, step, document_count, answered, entered, new_job, new_document, new_refusal, unless_refused, validate_job_row, canceled, canceled_by, canceled_in, cause, is_cancelable, cancel_row, cancel_my_jobs_row, sent, send_in, hold_in, release_in, of_own, of_seen}
use Rattle.queue_core.specs.Limits.{IsSoundJob}
use Rattle.queue_core.specs.Sound.{IsSound, IsSoundEntry}
use Rattle.queue_types.specs.declared.document.Format.{Format}
use Rattle.queue_types.specs.declared.job.Job.{Job}
use Rattle.queue_types.specs.declared.job.Why.{Why}
use Rattle.queue_types.specs.declared.job.Why.TheVariants.{ByUser, ByOperator}
use Rattle.queue_types.specs.declared.job.Phase.{Phase}
use Rattle.queue_types.specs.declared.job.Phase.TheVariants.{Waiting}
use Rattle.queue_types.specs.declared.event.Reply.TheVariants.{Done, Jobs}
use Rattle.queue_types.specs.declared.event.Scene.{Scene}
use Rattle.queue_core.proofs.Moves.{at-with_row}
use Rattle.queue_core.proofs.Enter.{none_new}
use Rattle.queue_core.proofs.Ordered.{each-filter}
use Rattle.queue_laws.specs.Jobs.{IsSameWork}
use Rattle.queue_laws.proofs.Asked.{same_canceled}
use Rattle.queue_laws.proofs.Base.{at, rows_of, equal, first_named, each_map, each_both, passed}
use Rattle.queue_laws.proofs.Callers.{document_row}
use Rattle.queue_laws.proofs.Standing.{Stands, all_stand}
use Rattle.queue_laws.proofs.Rows.{on_own, on_seen, on_new, on_named, on_send, on_cancel, on_hold, on_release}

-- ---- rows and documents

rows_document : (d : NewDocument) (es : List Entry) → rows_of (map (add_document d) es) ≡ rows_of es
rows_document d [] = refl
rows_document d (e ∷ es) = λ i. document_row d e i ∷ rows_document d es i

rows_documents : (o : Option NewDocument) (es : List Entry) → rows_of (with_document es o) ≡ rows_of es
rows_documents None es = refl
rows_documents (Some d) es = rows_document d es

-- the job of a number is within its limits
pub sound_at : (n : ℕ) (j : Job) (es : List Entry) → Each IsSoundEntry es → at n es ≡ Some j → IsSoundJob j
sound_at n j [] each there = absurd (none-some j there)
sound_at n j (e ∷ es) each there =
    elim (nat_eq e.row.number n) as (λ t. cond t (Some e.row) (at n es) ≡ Some j → IsSoundJob j) [
      | true ↦ λ there. subst IsSoundJob (same_Some e.row j there) each.0.row
      | false ↦ λ there. sound_at n j es each.1 there
    ] there

-- ---- what holds between a job and what it was

-- it holds of a job that stays, is sent a document, canceled by the caller where it can be, or held, and of one of the caller's own
-- that is released by its number
pub record Holds (caller : List ℕ) (call : Call) (R : Job → Job → Type 0) : Type 0 where
  pub same : (j : Job) → R j j
  pub sent : (j : Job) (payload : List ℕ) (last : Bool) → IsSoundJob j → j.incoming ≡ true → R (sent j payload last) j
  pub canceled : (why : Why) (now : ℕ) (j : Job) → why ≡ cause caller j → is_cancelable j ≡ true → R (canceled_by why now j) j
  pub held : (j : Job) → j.phase ≡ Waiting → R (record j { hold = true }) j
  pub released : (j : Job) → call ≡ release_job j.number → bytes_eq j.owner caller ≡ true → j.phase ≡ Waiting → R (record j { hold = false }) j

canceled_same : (why : Why) (now : ℕ) (j : Job) (p : Phase) → IsSameWork (canceled_in why p now j) j
canceled_same why now j Waiting = refl
canceled_same why now j _ = refl

work_holds : (caller : List ℕ) (call : Call) → Holds caller call IsSameWork
work_holds caller call = record {
  same = λ j. refl;
  sent = λ j payload last sound incoming. refl;
  canceled = λ why now j asks can. canceled_same why now j j.phase;
  held = λ j is. refl;
  released = λ j by own is. refl;
}

-- ---- changes

module _ (caller : List ℕ) (call : Call) (R : Job → Job → Type 0) (holds : Holds caller call R) (w : World) (sound : IsSound w) where
  -- so the row is to what stands at its number
  abbrev IsWork : Job → Type 0
  IsWork x = (j : Job) → at x.number w.jobs ≡ Some j → R x j

  abbrev AreWork : Decision → Type 0
  AreWork d = Each IsWork d.change.jobs

  one_work : (n : ℕ) (j x : Job) → at n w.jobs ≡ Some j → x.number ≡ n → R x j → IsWork x
  one_work n j x there number same k at_k = subst (R x) (same_Some j k (sym there ∙ ap (λ m. at m w.jobs) (sym number) ∙ at_k)) same

  module _ (n : ℕ) where
    stays_work : (xs : List Job) (es : List Entry) → Each IsWork xs → ((j k : Job) → at n w.jobs ≡ Some j → at n es ≡ Some k → R k j) → (j k : Job) → at n w.jobs ≡ Some j → at n (fold with_row es xs) ≡ Some k → R k j
    stays_work [] es each before = before
    stays_work (x ∷ xs) es each before = stays_work xs (with_row es x) each.1 (λ j k old then.
        elim (nat_eq x.number n) as (λ t. nat_eq x.number n ≡ t → cond t (Some x) (at n es) ≡ Some k → R k j) [
          | true ↦ λ is e. subst (λ y. R y j) (same_Some x k e) (each.0 j (ap (λ m. at m w.jobs) (equal x.number n is) ∙ old))
          | false ↦ λ is e. before j k old e
        ] refl (sym (at-with_row n x es) ∙ then))

    first_work : (j k : Job) → at n w.jobs ≡ Some j → at n w.jobs ≡ Some k → R k j
    first_work j k old then = subst (λ y. R y j) (same_Some j k (sym old ∙ then)) (holds.same j)

    work_left : (d : Decision) → AreWork d → (j k : Job) → at n w.jobs ≡ Some j → at n (made_on d.change w).jobs ≡ Some k → R k j
    work_left d each j k old then = stays_work d.change.jobs w.jobs each first_work j k old (sym (ap (job_at n) (rows_documents d.change.document (fold with_row w.jobs d.change.jobs))) ∙ then)

  -- ---- a new job

  entered_work : (s : Scene) (x : Job) (document : Option NewDocument) → x.number ≡ w.next → AreWork (unless_refused (new_refusal s) (entered s x document))
  entered_work s x document number = on_new AreWork s (entered s x document) (λ j there. absurd (none-some j (sym (ap (λ m. at m w.jobs) number ∙ none_new w.next 1 w.jobs sound.numbers) ∙ there)), tt) (λ code. tt)

  validated_work : (s : Scene) → AreWork (validate_job_row s)
  validated_work s = on_new AreWork s (answered Done) tt (λ code. tt)

  -- ---- a job of the caller's own

  own_work : (n : ℕ) (row : Job → Decision) → ((j : Job) → at n w.jobs ≡ Some j → j.number ≡ n → bytes_eq j.owner caller ≡ true → AreWork (row j)) → AreWork (of_own caller row (numbered n (rows w)))
  own_work n row each = on_own AreWork caller row (numbered n (rows w)) (λ j rest e. let found = first_named n (rows w) j rest e in each j found.0 found.1) tt

  seen_work : (n : ℕ) (row : Job → Decision) → ((j : Job) → at n w.jobs ≡ Some j → j.number ≡ n → AreWork (row j)) → AreWork (of_seen w.settings.operators caller row (numbered n (rows w)))
  seen_work n row each = on_seen AreWork w.settings.operators caller row (numbered n (rows w)) (λ j rest e. let found = first_named n (rows w) j rest e in each j found.0 found.1) tt

  module _ (n : ℕ) (s : Scene) (j : Job) (there : at n w.jobs ≡ Some j) (number : j.number ≡ n) where
    sent_work : (format : Format) (payload : List ℕ) (last : Bool) → AreWork (send_in s j format payload last)
    sent_work format payload last = on_send AreWork s j format payload last (λ can.
        (one_work n j (sent j payload last) there number (holds.sent j payload last (sound_at n j w.jobs sound.entries there) (and_parts j.incoming (nat_le (j.documents + document_count payload) 16) can).0), tt)) tt

    canceled_work : (now : ℕ) → AreWork (cancel_row s now (cause caller j) j)
    canceled_work now = on_cancel AreWork s j now (cause caller j)
        (λ can. (one_work n j (canceled_by (cause caller j) now j) there ((same_canceled (cause caller j) now j j.phase).number ∙ number) (holds.canceled (cause caller j) now j refl can), tt)) tt

    held_work : AreWork (hold_in j.phase s j)
    held_work = on_hold AreWork s j (λ waits. (one_work n j (record j { hold = true }) there number (holds.held j waits), tt)) tt

    released_work : call ≡ release_job n → bytes_eq j.owner caller ≡ true → AreWork (release_in j.phase s j)
    released_work by own = on_release AreWork s j (λ waits has. (one_work n j (record j { hold = false }) there number (holds.released j (by ∙ ap release_job (sym number)) own waits), tt)) tt tt

  -- ---- several of the caller's jobs

  -- the caller's own, and one that can be canceled
  abbrev IsMine : Job → Type 0
  IsMine j = Stands (rows w) j × (bytes_eq j.owner caller ≡ true)

  abbrev IsAble : Job → Type 0
  IsAble j = IsMine j × (is_cancelable j ≡ true)

  each_work : (now : ℕ) (js : List Job) → Each IsAble js → Each IsWork (map (canceled now) js)
  each_work now [] each = tt
  each_work now (j ∷ js) each =
      let here = each.0 in
      (one_work j.number j (canceled now j) here.0.0 (same_canceled ByUser now j j.phase).number (holds.canceled ByUser now j (sym (ap (λ b. cond b ByUser ByOperator) here.0.1)) here.1), each_work now js each.1)

  each_able : (js : List Job) → list_all is_cancelable js ≡ true → Each IsMine js → Each IsAble js
  each_able [] all each = tt
  each_able (j ∷ js) all each = let both = and_parts (is_cancelable j) (list_all is_cancelable js) all in ((each.0, both.0), each_able js both.1 each.1)

  own_stand : (c : Job → Bool) → ((j : Job) → c j ≡ true → bytes_eq j.owner caller ≡ true) → Each IsMine (filter c (rows w))
  own_stand c own = each_both (Stands (rows w)) (λ j. bytes_eq j.owner caller ≡ true) (filter c (rows w)) (all_stand w sound c) (each_map (λ j. c j ≡ true) (λ j. bytes_eq j.owner caller ≡ true) (filter c (rows w)) own (passed c (rows w)))

  named_work : (s : Scene) (now : ℕ) (numbers : List ℕ) → Each IsMine s.jobs → AreWork (cancel_my_jobs_row s now (Some numbers))
  named_work s now numbers each = on_named AreWork s now numbers (λ all. each_work now s.jobs (each_able s.jobs all each)) (λ code. tt)

  -- ---- each call

  asked_work : (now : ℕ) (c : Call) → call ≡ c → AreWork (decision (cut w now (ask caller c)) now (ask caller c))
  asked_work now (print_job new format payload) is =
      let s : Scene = cut w now (ask caller (print_job new format payload)) in
      entered_work s (new_job s now caller false new payload) (new_document s.next format payload) refl
  asked_work now (validate_job new) is = validated_work (cut w now (ask caller (validate_job new)))
  asked_work now (create_job new) is =
      let s : Scene = cut w now (ask caller (create_job new)) in
      entered_work s (new_job s now caller true new []) None refl
  asked_work now (send_document n format payload last) is =
      let s : Scene = cut w now (ask caller (send_document n format payload last)) in
      own_work n (λ j. send_in s j format payload last) (λ j there number own. sent_work n s j there number format payload last)
  asked_work now (cancel_job n) is =
      let s : Scene = cut w now (ask caller (cancel_job n)) in
      seen_work n (λ j. cancel_row s now (cause caller j) j) (λ j there number. canceled_work n s j there number now)
  asked_work now (cancel_my_jobs None) is =
      let c : Job → Bool = λ j. bytes_eq j.owner caller && is_live j in
      let own : (j : Job) → c j ≡ true → bytes_eq j.owner caller ≡ true = λ j is. (and_parts (bytes_eq j.owner caller) (is_live j) is).0 in
      each_work now (filter is_cancelable (filter c (rows w)))
      (each_both IsMine (λ j. is_cancelable j ≡ true) (filter is_cancelable (filter c (rows w))) (each-filter IsMine is_cancelable (filter c (rows w)) (own_stand c own)) (passed is_cancelable (filter c (rows w))))
  asked_work now (cancel_my_jobs (Some numbers)) is = named_work (cut w now (ask caller (cancel_my_jobs (Some numbers)))) now numbers
      (own_stand (λ j. bytes_eq j.owner caller && is_one_of numbers j) (λ j is. (and_parts (bytes_eq j.owner caller) (is_one_of numbers j) is).0))
  asked_work now (hold_job n) is =
      let s : Scene = cut w now (ask caller (hold_job n)) in
      own_work n (λ j. hold_in j.phase s j) (λ j there number own. held_work n s j there number)
  asked_work now (release_job n) is =
      let s : Scene = cut w now (ask caller (release_job n)) in
      own_work n (λ j. release_in j.phase s j) (λ j there number own. released_work n s j there number is own)
  asked_work now (get_job_attributes n) is = seen_work n (λ j. answered (Jobs (j ∷ []))) (λ j there number. tt)
  asked_work now _ is = tt

-- what holds of each change to a job, a request keeps
pub held_on : (R : Job → Job → Type 0) (caller : List ℕ) (call : Call) → Holds caller call R → (w : World) (now n : ℕ) (j k : Job) → IsSound w → at n w.jobs ≡ Some j → at n (step w now (ask caller call)).world.jobs ≡ Some k → R k j
held_on R caller call holds w now n j k sound old then = work_left caller call R holds w sound n (decision (cut w now (ask caller call)) now (ask caller call)) (asked_work caller call R holds w sound now call refl) j k old then

pub work_kept : (w : World) (now n : ℕ) (caller : List ℕ) (call : Call) (j k : Job) → IsSound w → at n w.jobs ≡ Some j → at n (step w now (ask caller call)).world.jobs ≡ Some k → IsSameWork k j
work_kept w now n caller call = held_on IsSameWork caller call (work_holds caller call) w now n
