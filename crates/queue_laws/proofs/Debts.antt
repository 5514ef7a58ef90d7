-- What a request takes of an account's free pages.
use Rattle.std.proofs.Common.{◌≡◌, ℕ, ℤ, pos, ◌+ℤ◌, ◌-ℤ◌, ◌-◌, ◌+◌, ◌≤◌, ◌⊎◌, List, [], ◌∷◌, map, refl, ap, sym, ◌∙◌, subst, arith, inl, inr, Bool, true, false, cond}
use Rattle.std.specs.Prelude.{Option, Some, None, bytes_eq, int_le, ◌≤ℤ◌, filter, fold, option_map, ◌&&◌}
use Rattle.std.specs.FinMap.{get}
use Rattle.std.specs.List.{AllByRecursion as Each}
use Rattle.std.specs.Option.{option_map_or}
use Rattle.std.proofs.lemmas.Int.{ints}
use Rattle.std.proofs.lemmas.Option.{same_Some}
use Rattle.queue_types.specs.Job.{is_live, estimate, owed}
use Rattle.queue_types.specs.Event.{Call, Decision, NewJob, NewDocument, ask, print_job, validate_job, create_job, send_document, cancel_job, cancel_my_jobs, hold_job, release_job, get_job_attributes}
use Rattle.queue_core.specs.World.{World, rows, cut, new_scene, made_on, put_free, found_row, owner_row, job_at, numbered, is_one_of}
use Rattle.queue_core.specs.Machine.{decision, step, taken, given_back, returned, credited, answered, refused, becomes, entered, new_job, new_document, new_refusal, unless_refused, validate_job_row, canceled, canceled_by, canceled_in, cause, is_cancelable, cancel_row, all_canceled, cancel_my_jobs_row, send_in, hold_in, has_pages, release_in, of_own, of_seen}
use Rattle.queue_core.specs.Sound.{IsSound}
use Rattle.queue_types.specs.declared.document.Format.{Format}
use Rattle.queue_types.specs.declared.job.Job.{Job}
use Rattle.queue_types.specs.declared.job.Why.{Why}
use Rattle.queue_types.specs.declared.job.Why.TheVariants.{ByUser}
use Rattle.queue_types.specs.declared.job.Phase.{Phase}
use Rattle.queue_types.specs.declared.job.Phase.TheVariants.{Waiting}
use Rattle.queue_types.specs.declared.event.Reply.TheVariants.{Done, Jobs}
use Rattle.queue_types.specs.declared.event.Scene.{Scene}
use Rattle.queue_core.proofs.Many.{returned-cons}
use Rattle.queue_core.proofs.Ordered.{each-filter}
use Rattle.queue_core.proofs.Own.{gives_back, moved_from}
use Rattle.queue_core.proofs.Rows.{back}
use Rattle.queue_laws.proofs.Asked.{same_canceled}
use Rattle.queue_laws.proofs.Base.{at, own_key, same_key, named, none_named}
use Rattle.queue_laws.proofs.LeftAlone.{account_stays, others_account}
use Rattle.queue_laws.proofs.Standing.{Stands, chosen_stand}
use Rattle.queue_laws.proofs.Rows.{on_own, on_seen, on_new, on_named, on_send, on_cancel, on_hold, on_release}

-- ---- amounts

-- no fewer pages, or enough
abbrev pub OwesNone : ℤ → ℤ → Type 0
OwesNone f g = (f ≤ℤ g) ⊎ (pos 0 ≤ℤ g)

at_least : (a b : ℤ) → int_le a b ≡ true → a ≤ℤ b
at_least a b e = omega (arith, ints)

itself_least : (f g : ℤ) → f ≡ g → OwesNone f g
itself_least f g e = inl (subst (λ z. f ≤ℤ z) e (omega (arith, ints)))

gains : (f z : ℤ) → pos 0 ≤ℤ z → f ≤ℤ (f +ℤ z)
gains f z h = omega (arith, ints)

no_less : (b : Bool) (m n : ℕ) → n ≤ m → pos 0 ≤ℤ cond b (pos m -ℤ pos n) (pos 0)
no_less true m n h = omega (arith, ints)
no_less false m n h = omega (arith, ints)

both_gain : (y z : ℤ) → pos 0 ≤ℤ y → pos 0 ≤ℤ z → pos 0 ≤ℤ (y +ℤ z)
both_gain y z h k = omega (arith, ints)

-- free pages that cover the estimate cover what is set aside of it
covers : (b live : Bool) (owing count pages : ℕ) (f : ℤ) → pos pages ≤ℤ f → pos 0 ≤ℤ (f +ℤ cond b (pos (owing + count) -ℤ pos (cond live (pages - count) 0 + count)) (pos 0))
covers true true owing count pages f h = omega (arith, ints)
covers true false owing count pages f h = omega (arith, ints)
covers false live owing count pages f h = omega (arith, ints)

enough : (caller : List ℕ) (o : Option ℤ) (pages : ℕ) (f : ℤ) → o ≡ Some f → has_pages (found_row caller o) pages ≡ true → pos pages ≤ℤ f
enough caller None pages f is has = absurd (cc)
enough caller (Some z) pages f is has = subst (λ z. pos pages ≤ℤ z) (same_Some z f is) (at_least (pos pages) z has)

-- ---- what a job has taken

less_live : (live : Bool) (owing count : ℕ) → (cond live 0 0 + count) ≤ (owing + count)
less_live true owing count = omega arith
less_live false owing count = omega arith

canceled_less : (why : Why) (now : ℕ) (j : Job) (p : Phase) → taken (canceled_in why p now j) ≤ taken j
canceled_less why now j Waiting = omega arith
canceled_less why now j _ = omega arith

held_less : (j : Job) → taken (record j { hold = true }) ≤ taken j
held_less j = less_live (is_live j) (owed j) j.count

module _ (w : World) (caller : List ℕ) where
  abbrev pub LeavesNone : Decision → Type 0
  LeavesNone d = (f g : ℤ) → get w.free caller ≡ Some f → get (made_on d.change w).free caller ≡ Some g → OwesNone f g

  kept : (f g : ℤ) → get w.free caller ≡ Some f → get w.free caller ≡ Some g → OwesNone f g
  kept f g e h = itself_least f g (same_Some f g (sym e ∙ h))

  paid : (before js : List Job) → ((f : ℤ) → get w.free caller ≡ Some f → OwesNone f (f +ℤ returned before caller js))
      → (f g : ℤ) → get w.free caller ≡ Some f → get (fold put_free w.free (map (credited before js) (found_row caller (get w.free caller)))) caller ≡ Some g → OwesNone f g
  paid before js each f g e h =
      let now_free : get (fold put_free w.free (map (credited before js) (found_row caller (get w.free caller)))) caller ≡ Some (f +ℤ returned before caller js) =
      moved_from w.free caller caller before js (get w.free caller) refl
      ∙ ap (λ t. cond t (option_map (λ f. f +ℤ returned before caller js) (get w.free caller)) (get w.free caller)) (own_key caller caller refl)
      ∙ ap (option_map (λ f. f +ℤ returned before caller js)) e in
      subst (OwesNone f) (same_Some (f +ℤ returned before caller js) g (sym now_free ∙ h)) (each f e)

  -- ---- a new job

  entered_owes : (now : ℕ) (incoming : Bool) (new : NewJob) (payload : List ℕ) (document : Option NewDocument)
      → LeavesNone (unless_refused (new_refusal (new_scene w caller)) (entered (new_scene w caller) (new_job (new_scene w caller) now caller incoming new payload) document))
  entered_owes now incoming new payload document =
      let s : Scene = new_scene w caller in
      on_new LeavesNone s (entered s (new_job s now caller incoming new payload) document) kept (λ code. kept)

  validated_owes : (s : Scene) → LeavesNone (validate_job_row s)
  validated_owes s = on_new LeavesNone s (answered Done) kept (λ code. kept)

  -- ---- a job of the caller's own

  module _ (here : Scene) where
    own_owes : (row : Job → Decision) → ((j : Job) (rest : List Job) → here.jobs ≡ j ∷ rest → LeavesNone (row j)) → LeavesNone (of_own caller row here.jobs)
    own_owes row each = on_own LeavesNone caller row here.jobs (λ j rest e own. each j rest e) kept

    -- where the caller's account is looked up
    module _ (looked_up : here.free ≡ found_row caller (get w.free caller)) where
      becomes_owes : (j x : Job) (rest : List Job) → here.jobs ≡ j ∷ rest → x.number ≡ j.number
          → ((f : ℤ) → get w.free caller ≡ Some f → OwesNone f (f +ℤ back x j caller)) → LeavesNone (becomes here x)
      becomes_owes j x rest e number each = subst (λ rows. (f g : ℤ) → get w.free caller ≡ Some f → get (fold put_free w.free (map (credited here.jobs (x ∷ [])) rows)) caller ≡ Some g → OwesNone f g) (sym looked_up)
          (paid here.jobs (x ∷ []) (λ f is. subst (λ z. OwesNone f (f +ℤ z)) (sym (ap (λ js. returned js caller (x ∷ [])) e ∙ gives_back j x rest caller number)) (each f is)))

      less_owes : (j x : Job) (rest : List Job) → here.jobs ≡ j ∷ rest → x.number ≡ j.number → taken x ≤ taken j → LeavesNone (becomes here x)
      less_owes j x rest e number less = becomes_owes j x rest e number (λ f is. inl (gains f (back x j caller) (no_less (bytes_eq x.owner caller) (taken j) (taken x) less)))

      held_owes : LeavesNone (of_own caller (λ j. hold_in j.phase here j) here.jobs)
      held_owes = own_owes (λ j. hold_in j.phase here j) (λ j rest e. on_hold LeavesNone here j (λ waits. less_owes j (record j { hold = true }) rest e refl (held_less j)) kept)

      -- what is free covers the estimate
      released_owes : LeavesNone (of_own caller (λ j. release_in j.phase here j) here.jobs)
      released_owes = own_owes (λ j. release_in j.phase here j) (λ j rest e. on_release LeavesNone here j (λ waits has.
          becomes_owes j (record j { hold = false }) rest e refl (λ f is. inr (covers (bytes_eq j.owner caller) (is_live j) (cond (is_live j) (cond j.hold 0 (estimate j - j.count)) 0) j.count (estimate j) f (enough caller (get w.free caller) (estimate j) f is (subst (λ rows. has_pages rows (estimate j) ≡ true) looked_up has))))) kept kept)

  -- a document takes no pages
  sent_owes : (now n : ℕ) (format : Format) (payload : List ℕ) (last : Bool)
      → LeavesNone (of_own caller (λ j. send_in (cut w now (ask caller (send_document n format payload last))) j format payload last) (numbered n (rows w)))
  sent_owes now n format payload last =
      let s : Scene = cut w now (ask caller (send_document n format payload last)) in
      own_owes s (λ j. send_in s j format payload last) (λ j rest e. on_send LeavesNone s j format payload last (λ can. kept) kept)

  -- ---- several of the caller's jobs

  one_back : (now : ℕ) (before : List Job) (j : Job) → Stands before j → pos 0 ≤ℤ given_back before caller (canceled now j)
  one_back now before j there =
      let x : Job = canceled now j in
      let at_x : job_at x.number before ≡ Some j = ap (λ m. job_at m before) (same_canceled ByUser now j j.phase).number ∙ there in
      subst (λ o. pos 0 ≤ℤ cond (bytes_eq x.owner caller) (pos (option_map_or taken o 0) -ℤ pos (taken x)) (pos 0)) (sym at_x) (no_less (bytes_eq x.owner caller) (taken j) (taken x) (canceled_less ByUser now j j.phase))

  all_back : (now : ℕ) (before js : List Job) → Each (Stands before) js → pos 0 ≤ℤ returned before caller (map (canceled now) js)
  all_back now before [] each = omega (arith, ints)
  all_back now before (j ∷ js) each =
      subst (λ z. pos 0 ≤ℤ z) (sym (returned-cons before caller (canceled now j) (map (canceled now) js)))
      (both_gain (given_back before caller (canceled now j)) (returned before caller (map (canceled now) js)) (one_back now before j each.0) (all_back now before js each.1))

  module _ (now : ℕ) (numbers : Option (List ℕ)) (c : Job → Bool) (sound : IsSound w) (named : (cut w now (ask caller (cancel_my_jobs numbers))).jobs ≡ filter c (rows w)) where
    abbrev of_call : Scene
    of_call = cut w now (ask caller (cancel_my_jobs numbers))

    all_stand : Each (Stands of_call.jobs) of_call.jobs
    all_stand = subst (λ js. Each (Stands js) js) (sym named) (chosen_stand w sound c)

    all_owe : (js : List Job) → Each (Stands of_call.jobs) js → LeavesNone (all_canceled of_call now js)
    all_owe js each = paid of_call.jobs (map (canceled now) js) (λ f is. inl (gains f (returned of_call.jobs caller (map (canceled now) js)) (all_back now of_call.jobs js each)))

    able_owe : LeavesNone (cancel_my_jobs_row of_call now None)
    able_owe = all_owe (filter is_cancelable of_call.jobs) (each-filter (Stands of_call.jobs) is_cancelable of_call.jobs all_stand)

    named_owe : (asked : List ℕ) → LeavesNone (cancel_my_jobs_row of_call now (Some asked))
    named_owe asked = on_named LeavesNone of_call now asked (λ all. all_owe of_call.jobs all_stand) (λ code. kept)

-- ---- Cancel-Job: of the account of the job's owner

cancel_owes : (w : World) (now n : ℕ) (caller : List ℕ) (j : Job) → at n w.jobs ≡ Some j → LeavesNone w j.owner (decision (cut w now (ask caller (cancel_job n))) now (ask caller (cancel_job n)))
cancel_owes w now n caller j there =
    let s : Scene = cut w now (ask caller (cancel_job n)) in
    let looked_up : s.free ≡ found_row j.owner (get w.free j.owner) = ap (owner_row w.free) (named n (rows w) j there).is in
    on_seen (LeavesNone w j.owner) w.settings.operators caller (λ k. cancel_row s now (cause caller k) k) s.jobs
    (λ k rest e. on_cancel (LeavesNone w j.owner) s k now (cause caller k)
    (λ can. less_owes w j.owner s looked_up k (canceled_by (cause caller k) now k) rest e (same_canceled (cause caller k) now k k.phase).number (canceled_less (cause caller k) now k k.phase)) (kept w j.owner)) (kept w j.owner)

-- without the job nothing changes
none_owes : (w : World) (now n : ℕ) (caller a : List ℕ) → at n w.jobs ≡ None → LeavesNone w a (decision (cut w now (ask caller (cancel_job n))) now (ask caller (cancel_job n)))
none_owes w now n caller a none =
    let s : Scene = cut w now (ask caller (cancel_job n)) in
    let is : decision s now (ask caller (cancel_job n)) ≡ refused 0x0406 = ap (of_seen w.settings.operators caller (λ k. cancel_row s now (cause caller k) k)) (none_named n (rows w) none) in
    subst (LeavesNone w a) (sym is) (kept w a)

cancel_no_debt : (w : World) (now n : ℕ) (caller a : List ℕ) (f g : ℤ) → IsSound w → get w.free a ≡ Some f → get (step w now (ask caller (cancel_job n))).world.free a ≡ Some g → OwesNone f g
cancel_no_debt w now n caller a f g sound before then =
    elim (at n w.jobs) as (λ o. at n w.jobs ≡ o → OwesNone f g) [
      | None ↦ λ none. none_owes w now n caller a none f g before then
      | Some j ↦ λ there.
          elim (bytes_eq j.owner a) as (λ b. bytes_eq j.owner a ≡ b → OwesNone f g) [
            | true ↦ λ is. let same : j.owner ≡ a = same_key j.owner a is in cancel_owes w now n caller j there f g (ap (get w.free) same ∙ before) (ap (get (step w now (ask caller (cancel_job n))).world.free) same ∙ then)
            | false ↦ λ other. itself_least f g (same_Some f g (sym before ∙ sym (others_account w now n caller a j sound there other) ∙ then))
          ] refl
    ] refl

-- ---- each other call

asked_owes : (w : World) (now : ℕ) (caller : List ℕ) (call : Call) → IsSound w → ((n : ℕ) → call ≡ cancel_job n → ⊥) → LeavesNone w caller (decision (cut w now (ask caller call)) now (ask caller call))
asked_owes w now caller (print_job new format payload) sound not_cancel = entered_owes w caller now false new payload (new_document w.next format payload)
asked_owes w now caller (validate_job new) sound not_cancel = validated_owes w caller (cut w now (ask caller (validate_job new)))
asked_owes w now caller (create_job new) sound not_cancel = entered_owes w caller now true new [] None
asked_owes w now caller (send_document n format payload last) sound not_cancel = sent_owes w caller now n format payload last
asked_owes w now caller (cancel_job n) sound not_cancel = absurd (not_cancel n refl)
asked_owes w now caller (cancel_my_jobs None) sound not_cancel = able_owe w caller now None (λ j. bytes_eq j.owner caller && is_live j) sound refl
asked_owes w now caller (cancel_my_jobs (Some numbers)) sound not_cancel = named_owe w caller now (Some numbers) (λ j. bytes_eq j.owner caller && is_one_of numbers j) sound refl numbers
asked_owes w now caller (hold_job n) sound not_cancel = held_owes w caller (cut w now (ask caller (hold_job n))) refl
asked_owes w now caller (release_job n) sound not_cancel = released_owes w caller (cut w now (ask caller (release_job n))) refl
asked_owes w now caller (get_job_attributes n) sound not_cancel =
    on_seen (LeavesNone w caller) w.settings.operators caller (λ j. answered (Jobs (j ∷ []))) (numbered n (rows w)) (λ j rest e. kept w caller) (kept w caller)
asked_owes w now caller _ sound not_cancel = kept w caller

other_no_debt : (w : World) (now : ℕ) (caller a : List ℕ) (call : Call) (f g : ℤ) → ((n : ℕ) → call ≡ cancel_job n → ⊥) → IsSound w → get w.free a ≡ Some f → get (step w now (ask caller call)).world.free a ≡ Some g → OwesNone f g
other_no_debt w now caller a call f g not_cancel sound before then =
    elim (bytes_eq caller a) as (λ b. bytes_eq caller a ≡ b → OwesNone f g) [
      | true ↦ λ is. let same : caller ≡ a = same_key caller a is in asked_owes w now caller call sound not_cancel f g (ap (get w.free) same ∙ before) (ap (get (step w now (ask caller call)).world.free) same ∙ then)
      | false ↦ λ other. itself_least f g (same_Some f g (sym before ∙ sym (account_stays w now caller a call sound (inr not_cancel) other) ∙ then))
    ] refl

pub no_debt : (w : World) (now : ℕ) (caller a : List ℕ) (call : Call) (f g : ℤ) → IsSound w → get w.free a ≡ Some f → get (step w now (ask caller call)).world.free a ≡ Some g → (f ≤ℤ g) ⊎ (pos 0 ≤ℤ g)
no_debt w now caller a (cancel_job n) f g sound before then = cancel_no_debt w now n caller a f g sound before then
no_debt w now caller a call f g sound before then = other_no_debt w now caller a call f g (λ n e. absurd (cc)) sound before then
