-- What a caller asks changes that caller's own rows alone.
use Rattle.std.proofs.Common.{◌≡◌, ◌⊎◌, ℕ, ℤ, ◌<◌, ◌+◌, List, [], ◌∷◌, map, refl, ap, sym, ◌∙◌, arith, subst, inl, inr, Bool, true, false, cond}
use Rattle.std.specs.Prelude.{Option, Some, None, IfSome, nat_eq, bytes_eq, filter, ◌&&◌}
use Rattle.std.specs.List.{AllByRecursion as Each}
use Rattle.std.specs.FinMap.{get}
use Rattle.std.proofs.lemmas.Bool.{and_parts, eqb-false}
use Rattle.std.proofs.lemmas.Option.{same_Some, none-some}
use Rattle.queue_types.specs.Job.{is_live}
use Rattle.queue_types.specs.Event.{Call, Decision, NewJob, NewDocument, ask, print_job, validate_job, create_job, send_document, cancel_job, cancel_my_jobs, hold_job, release_job, get_job_attributes}
use Rattle.queue_types.specs.Operators.{is_operator}
use Rattle.queue_core.specs.World.{World, Entry, rows, cut, new_scene, numbered, found_row, owner_row, is_one_of}
use Rattle.queue_core.specs.Machine.{decision, no_change, answered, refused, credited, changed, becomes, entered, new_job, new_document, new_refusal, unless_refused, validate_job_row, canceled, canceled_by, canceled_in, cause, is_cancelable, cancel_row, all_canceled, cancel_my_jobs_row, sent, send_in, hold_in, release_in, of_own, of_seen}
use Rattle.queue_core.specs.Sound.{IsSound, Rise}
use Rattle.queue_types.specs.declared.document.Format.{Format}
use Rattle.queue_types.specs.declared.job.Job.{Job}
use Rattle.queue_types.specs.declared.job.Why.{Why}
use Rattle.queue_types.specs.declared.job.Why.TheVariants.{ByUser}
use Rattle.queue_types.specs.declared.job.Phase.{Phase}
use Rattle.queue_types.specs.declared.job.Phase.TheVariants.{Waiting}
use Rattle.queue_types.specs.declared.event.FreeRow.{FreeRow}
use Rattle.queue_types.specs.declared.event.Reply.TheVariants.{Jobs, Done}
use Rattle.queue_types.specs.declared.event.Scene.{Scene}
use Rattle.queue_core.proofs.Ordered.{each-filter}
use Rattle.queue_laws.proofs.Base.{at, equal, same_key, first_named, first_below, passed, each_map, each_both}
use Rattle.queue_laws.proofs.Callers.{IsBy, IsRowBy, IsNumberOf}
use Rattle.queue_laws.proofs.Standing.{Stands, all_stand}
use Rattle.queue_laws.proofs.OneJob.{of_job, seen_own}
use Rattle.queue_laws.proofs.Rows.{on_own, on_seen, on_new, on_named, on_send, on_cancel, on_hold, on_release}

-- ---- whose numbers they are

-- no job is below the first number, and none at the next
pub none_below : (caller : List ℕ) (n first next : ℕ) (es : List Entry) → n < first → Rise first es next → IsNumberOf caller n es
none_below caller n first next [] low rise = tt
none_below caller n first next (e ∷ es) low rise = (λ is. absurd (let least = rise.0 in omega arith), none_below caller n (e.row.number + 1) next es (let least = rise.0 in omega arith) rise.1)

none_next : (caller : List ℕ) (first n : ℕ) (es : List Entry) → Rise first es n → IsNumberOf caller n es
none_next caller first n [] rise = tt
none_next caller first n (e ∷ es) rise = (λ is. absurd (let most = first_below (e.row.number + 1) n es rise.1 in omega arith), none_next caller (e.row.number + 1) n es rise.1)

-- the job of a number is the one that has it
pub number_of : (n first next : ℕ) (j : Job) (es : List Entry) → Rise first es next → at n es ≡ Some j → IsNumberOf j.owner n es
number_of n first next j [] rise there = tt
number_of n first next j (e ∷ es) rise there =
    elim (nat_eq e.row.number n) as (λ t. nat_eq e.row.number n ≡ t → cond t (Some e.row) (at n es) ≡ Some j → IsNumberOf j.owner n (e ∷ es)) [
      | true ↦ λ is there. let same : e.row ≡ j = cc in (λ number. ap (λ (k : Job). k.owner) same, none_below j.owner n (e.row.number + 1) next es (let here = equal e.row.number n is in omega arith) rise.1)
      | false ↦ λ is there. (λ number. absurd (eqb-false e.row.number n is number), number_of n (e.row.number + 1) next j es rise.1 there)
    ] refl there

-- ---- changes

pub nothing_by : (caller : List ℕ) (w : World) → IsBy caller w no_change
nothing_by caller w = record { jobs = tt; document = tt; free = tt; grants = refl; report = tt; next = inl refl }

pub credited_by : (caller : List ℕ) (before js : List Job) (o : Option ℤ) → Each (λ (a : FreeRow). a.account ≡ caller) (map (credited before js) (found_row caller o))
credited_by caller before js None = tt
credited_by caller before js (Some f) = (refl, tt)

-- the account of the first job's owner
pub each_credited : (w : World) (owner : List ℕ) (j x : Job) (rest js : List Job) → js ≡ j ∷ rest → j.owner ≡ owner → Each (λ (f : FreeRow). f.account ≡ owner) (map (credited js (x ∷ [])) (owner_row w.free js))
each_credited w owner j x rest js e own =
    subst (λ js. Each (λ (f : FreeRow). f.account ≡ owner) (map (credited js (x ∷ [])) (owner_row w.free js))) (sym e)
    (subst (λ a. Each (λ (f : FreeRow). f.account ≡ a) (map (credited (j ∷ rest) (x ∷ [])) (found_row j.owner (get w.free j.owner)))) own (credited_by j.owner (j ∷ rest) (x ∷ []) (get w.free j.owner)))

document_by : (P : ℕ → Type 0) (n : ℕ) (format : Format) (payload : List ℕ) → P n → IfSome (new_document n format payload) (λ d. P d.job)
document_by P n format [] here = tt
document_by P n format (b ∷ bytes) here = here

-- a job of the same number and owner
pub record IsSame (x j : Job) : Type 0 where
  pub number : x.number ≡ j.number
  pub owner : x.owner ≡ j.owner

pub same_canceled : (why : Why) (now : ℕ) (j : Job) (p : Phase) → IsSame (canceled_in why p now j) j
same_canceled why now j Waiting = record { number = refl; owner = refl }
same_canceled why now j _ = record { number = refl; owner = refl }

each_canceled : (caller : List ℕ) (es : List Entry) (now : ℕ) (js : List Job) → Each (λ j. IsRowBy caller es j) js → Each (λ x. IsRowBy caller es x) (map (canceled now) js)
each_canceled caller es now [] each = tt
each_canceled caller es now (j ∷ js) each =
    let same = same_canceled ByUser now j j.phase in
    ((same.owner ∙ each.0.0, subst (λ m. IsNumberOf caller m es) (sym same.number) each.0.1), each_canceled caller es now js each.1)

module _ (w : World) (now : ℕ) (caller : List ℕ) (call : Call) (sound : IsSound w) where
  abbrev scene : Scene
  scene = cut w now (ask caller call)

  abbrev By : Decision → Type 0
  By d = IsBy caller w d.change

  nothing : By (answered Done)
  nothing = nothing_by caller w

  -- where no account is looked up but the caller's
  abbrev LooksUpOwn : Type 0
  LooksUpOwn = (before js : List Job) → Each (λ (a : FreeRow). a.account ≡ caller) (map (credited before js) scene.free)

  changed_by : LooksUpOwn → (js : List Job) → Each (IsRowBy caller w.jobs) js → IsBy caller w (changed scene js)
  changed_by looks js each = record { jobs = each; document = tt; free = looks scene.jobs js; grants = refl; report = tt; next = inl refl }

  -- ---- Validate-Job

  validated_by : By (validate_job_row scene)
  validated_by = on_new By scene (answered Done) nothing (λ code. nothing)

  -- ---- a job of the caller's own

  module _ (n : ℕ) (named : scene.jobs ≡ filter (λ j. nat_eq j.number n) (rows w)) where
    row_by : (j x : Job) (rest : List Job) → scene.jobs ≡ j ∷ rest → j.owner ≡ caller → IsSame x j → IsRowBy caller w.jobs x
    row_by j x rest e own same =
        let found = first_named n (rows w) j rest (sym named ∙ e) in
        let number : IsNumberOf j.owner n w.jobs = number_of n 1 w.next j w.jobs sound.numbers found.0 in
        (same.owner ∙ own, subst (λ m. IsNumberOf caller m w.jobs) (sym (same.number ∙ found.1)) (subst (λ a. IsNumberOf a n w.jobs) own number))

    becomes_by : LooksUpOwn → (j x : Job) (rest : List Job) → scene.jobs ≡ j ∷ rest → j.owner ≡ caller → IsSame x j → By (becomes scene x)
    becomes_by looks j x rest e own same = changed_by looks (x ∷ []) (row_by j x rest e own same, tt)

    own_by : (row : Job → Decision) → ((j : Job) (rest : List Job) → scene.jobs ≡ j ∷ rest → j.owner ≡ caller → By (row j)) → By (of_own caller row scene.jobs)
    own_by row each = on_own By caller row scene.jobs (λ j rest e own. each j rest e (same_key j.owner caller own)) nothing

    sent_by : LooksUpOwn → (format : Format) (payload : List ℕ) (last : Bool) → By (of_own caller (λ j. send_in scene j format payload last) scene.jobs)
    sent_by looks format payload last = own_by (λ j. send_in scene j format payload last) (λ j rest e own. on_send By scene j format payload last (λ can.
        let row : IsRowBy caller w.jobs (sent j payload last) = row_by j (sent j payload last) rest e own (record { number = refl; owner = refl }) in
        record { jobs = (row, tt); document = document_by (λ m. IsNumberOf caller m w.jobs) j.number format payload row.1; free = looks scene.jobs (sent j payload last ∷ []); grants = refl; report = tt; next = inl refl }) nothing)

    held_by : LooksUpOwn → By (of_own caller (λ j. hold_in j.phase scene j) scene.jobs)
    held_by looks = own_by (λ j. hold_in j.phase scene j) (λ j rest e own. on_hold By scene j (λ waits. becomes_by looks j (record j { hold = true }) rest e own (record { number = refl; owner = refl })) nothing)

    released_by : LooksUpOwn → By (of_own caller (λ j. release_in j.phase scene j) scene.jobs)
    released_by looks = own_by (λ j. release_in j.phase scene j) (λ j rest e own. on_release By scene j (λ waits has. becomes_by looks j (record j { hold = false }) rest e own (record { number = refl; owner = refl })) nothing nothing)

    shown_by : By (of_seen w.settings.operators caller (λ j. answered (Jobs (j ∷ []))) scene.jobs)
    shown_by = on_seen By w.settings.operators caller (λ j. answered (Jobs (j ∷ []))) scene.jobs (λ j rest e. nothing) nothing

  -- ---- several of the caller's jobs

  module _ (c : Job → Bool) (named : scene.jobs ≡ filter c (rows w)) (mine : (j : Job) → c j ≡ true → j.owner ≡ caller) where
    each_here : Each (λ j. IsRowBy caller w.jobs j) (filter c (rows w))
    each_here =
        let own = each_map (λ j. c j ≡ true) (λ j. j.owner ≡ caller) (filter c (rows w)) mine (passed c (rows w)) in
        each_map (λ j. Stands (rows w) j × (j.owner ≡ caller)) (λ j. IsRowBy caller w.jobs j) (filter c (rows w))
        (λ j h. (h.1, subst (λ a. IsNumberOf a j.number w.jobs) h.1 (number_of j.number 1 w.next j w.jobs sound.numbers h.0)))
        (each_both (Stands (rows w)) (λ j. j.owner ≡ caller) (filter c (rows w)) (all_stand w sound c) own)

    each_scene : Each (λ j. IsRowBy caller w.jobs j) scene.jobs
    each_scene = subst (λ js. Each (λ j. IsRowBy caller w.jobs j) js) (sym named) each_here

    all_by : LooksUpOwn → (js : List Job) → Each (λ j. IsRowBy caller w.jobs j) js → By (all_canceled scene now js)
    all_by looks js each = changed_by looks (map (canceled now) js) (each_canceled caller w.jobs now js each)

    all_able_by : LooksUpOwn → By (all_canceled scene now (filter is_cancelable scene.jobs))
    all_able_by looks = all_by looks (filter is_cancelable scene.jobs) (each-filter (λ j. IsRowBy caller w.jobs j) is_cancelable scene.jobs each_scene)

    all_named_by : LooksUpOwn → (numbers : List ℕ) → By (cancel_my_jobs_row scene now (Some numbers))
    all_named_by looks numbers = on_named By scene now numbers (λ all. all_by looks scene.jobs each_scene) (λ code. nothing)

-- ---- a new job

entered_by : (w : World) (caller : List ℕ) → IsSound w → (now : ℕ) (incoming : Bool) (j : NewJob) (payload : List ℕ) (document : Option NewDocument) → IfSome document (λ d. IsNumberOf caller d.job w.jobs)
    → IsBy caller w (unless_refused (new_refusal (new_scene w caller)) (entered (new_scene w caller) (new_job (new_scene w caller) now caller incoming j payload) document)).change
entered_by w caller sound now incoming j payload document number =
    let s : Scene = new_scene w caller in
    on_new (λ d. IsBy caller w d.change) s (entered s (new_job s now caller incoming j payload) document) (record {
      jobs = ((refl, none_next caller 1 w.next w.jobs sound.numbers), tt);
      document = number;
      free = tt;
      grants = refl;
      report = tt;
      next = inr refl;
    }) (λ code. nothing_by caller w)

-- ---- Cancel-Job

-- it changes the rows of the job's owner alone
module _ (w : World) (now : ℕ) (caller : List ℕ) (n : ℕ) (sound : IsSound w) (owner : List ℕ) (mine : (j : Job) → at n w.jobs ≡ Some j → j.owner ≡ owner) where
  abbrev of_cancel : Scene
  of_cancel = cut w now (ask caller (cancel_job n))

  abbrev ByOwner : Decision → Type 0
  ByOwner d = IsBy owner w d.change

  end_by : (j x : Job) (rest : List Job) → of_cancel.jobs ≡ j ∷ rest → IsSame x j → ByOwner (becomes of_cancel x)
  end_by j x rest e same =
      let found = first_named n (rows w) j rest e in
      let own : j.owner ≡ owner = mine j found.0 in
      let number : IsNumberOf j.owner n w.jobs = number_of n 1 w.next j w.jobs sound.numbers found.0 in
      let row : IsRowBy owner w.jobs x = (same.owner ∙ own, subst (λ m. IsNumberOf owner m w.jobs) (sym (same.number ∙ found.1)) (subst (λ a. IsNumberOf a n w.jobs) own number)) in
      record { jobs = (row, tt); document = tt; free = each_credited w owner j x rest of_cancel.jobs e own; grants = refl; report = tt; next = inl refl }

  pub cancel_by : IsBy owner w (decision (cut w now (ask caller (cancel_job n))) now (ask caller (cancel_job n))).change
  cancel_by =
      on_seen ByOwner w.settings.operators caller (λ j. cancel_row of_cancel now (cause caller j) j) of_cancel.jobs
      (λ j rest e. on_cancel ByOwner of_cancel j now (cause caller j) (λ can. end_by j (canceled_by (cause caller j) now j) rest e (same_canceled (cause caller j) now j j.phase)) (nothing_by owner w)) (nothing_by owner w)

-- of a caller that is no operator
plain_by : (w : World) (now : ℕ) (caller : List ℕ) (n : ℕ) → IsSound w → is_operator w.settings.operators caller ≡ false → IsBy caller w (decision (cut w now (ask caller (cancel_job n))) now (ask caller (cancel_job n))).change
plain_by w now caller n sound plain =
    let s : Scene = cut w now (ask caller (cancel_job n)) in
    elim (at n w.jobs) as (λ o. at n w.jobs ≡ o → IsBy caller w (decision s now (ask caller (cancel_job n))).change) [
      | None ↦ λ none. cancel_by w now caller n sound caller (λ j there. absurd (none-some j (sym none ∙ there)))
      | Some j ↦ λ there.
          elim (bytes_eq j.owner caller) as (λ b. bytes_eq j.owner caller ≡ b → IsBy caller w (decision s now (ask caller (cancel_job n))).change) [
            | true ↦ λ own. cancel_by w now caller n sound caller (λ k here. ap (λ (x : Job). x.owner) (same_Some k j (sym here ∙ there)) ∙ same_key j.owner caller own)
            | false ↦ λ other.
                let none : decision s now (ask caller (cancel_job n)) ≡ refused 0x0406 =
                seen_own w.settings.operators caller (λ j. cancel_row s now (cause caller j) j) (numbered n (rows w)) plain
                ∙ of_job caller (rows w) (λ j. cancel_row s now (cause caller j) j) n j there false other in
                subst (λ (d : Decision). IsBy caller w d.change) (sym none) (nothing_by caller w)
          ] refl
    ] refl

-- ---- each call

-- no account is looked up, or the caller's
no_account : (caller : List ℕ) (before js : List Job) → Each (λ (a : FreeRow). a.account ≡ caller) (map (credited before js) [])
no_account caller before js = tt

its_account : (w : World) (caller : List ℕ) (before js : List Job) → Each (λ (a : FreeRow). a.account ≡ caller) (map (credited before js) (found_row caller (get w.free caller)))
its_account w caller before js = credited_by caller before js (get w.free caller)

-- but for an operator's Cancel-Job
pub asked_by : (w : World) (now : ℕ) (caller : List ℕ) (call : Call) → IsSound w → (is_operator w.settings.operators caller ≡ false) ⊎ ((n : ℕ) → call ≡ cancel_job n → ⊥) → IsBy caller w (decision (cut w now (ask caller call)) now (ask caller call)).change
asked_by w now caller (print_job j format payload) sound may = entered_by w caller sound now false j payload (new_document w.next format payload) (document_by (λ m. IsNumberOf caller m w.jobs) w.next format payload (none_next caller 1 w.next w.jobs sound.numbers))
asked_by w now caller (validate_job j) sound may = validated_by w now caller (validate_job j) sound
asked_by w now caller (create_job j) sound may = entered_by w caller sound now true j [] None tt
asked_by w now caller (send_document n format payload last) sound may = sent_by w now caller (send_document n format payload last) sound n refl (no_account caller) format payload last
asked_by w now caller (cancel_job n) sound (inl plain) = plain_by w now caller n sound plain
asked_by w now caller (cancel_job n) sound (inr not_cancel) = absurd (not_cancel n refl)
asked_by w now caller (cancel_my_jobs None) sound may = all_able_by w now caller (cancel_my_jobs None) sound (λ j. bytes_eq j.owner caller && is_live j) refl (λ j is. same_key j.owner caller (and_parts (bytes_eq j.owner caller) (is_live j) is).0) (its_account w caller)
asked_by w now caller (cancel_my_jobs (Some numbers)) sound may =
    all_named_by w now caller (cancel_my_jobs (Some numbers)) sound (λ j. bytes_eq j.owner caller && is_one_of numbers j) refl
    (λ j is. same_key j.owner caller (and_parts (bytes_eq j.owner caller) (is_one_of numbers j) is).0) (its_account w caller) numbers
asked_by w now caller (hold_job n) sound may = held_by w now caller (hold_job n) sound n refl (its_account w caller)
asked_by w now caller (release_job n) sound may = released_by w now caller (release_job n) sound n refl (its_account w caller)
asked_by w now caller (get_job_attributes n) sound may = shown_by w now caller (get_job_attributes n) sound n refl
asked_by w now caller _ sound may = nothing_by caller w
