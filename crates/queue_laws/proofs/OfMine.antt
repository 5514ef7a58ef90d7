-- What Cancel-My-Jobs gives back.
use Rattle.std.proofs.Common.{◌≡◌, ℕ, ℤ, pos, ◌+ℤ◌, ◌-ℤ◌, ◌+◌, List, [], ◌∷◌, map, refl, ap, subst, sym, ◌∙◌, arith, Bool, true, false, cond}
use Rattle.std.specs.Prelude.{Option, Some, None, bytes_eq, nat_le, filter, sum_by, option_map, ◌&&◌}
use Rattle.std.specs.FinMap.{get}
use Rattle.std.specs.List.{AllByRecursion as Each}
use Rattle.std.specs.Option.{option_map_or}
use Rattle.std.proofs.lemmas.Int.{ints}
use Rattle.std.proofs.lemmas.List.Sums.{sum_by-cons}
use Rattle.std.proofs.lemmas.Bool.{and_parts, le-leb, true≢false}
use Rattle.queue_types.specs.Event.{Decision, ask, cancel_my_jobs}
use Rattle.queue_types.specs.Job.{is_live_in, is_live, state, state_in, owed}
use Rattle.queue_core.specs.World.{World, rows, cut, made_on, job_at, is_one_of}
use Rattle.queue_core.specs.Machine.{step, taken, given_back, returned, canceled, canceled_in, is_cancelable, is_cancelable_in, all_canceled}
use Rattle.queue_core.specs.Sound.{IsSound}
use Rattle.queue_core.proofs.Many.{returned-cons}
use Rattle.queue_types.specs.declared.job.Job.{Job}
use Rattle.queue_types.specs.declared.job.Why.TheVariants.{ByUser}
use Rattle.queue_types.specs.declared.job.Phase.{Phase}
use Rattle.queue_types.specs.declared.job.Phase.TheVariants.{Waiting, Running, Stopped}
use Rattle.queue_types.specs.declared.event.Scene.{Scene}
use Rattle.queue_core.proofs.Ordered.{each-filter}
use Rattle.queue_core.proofs.Own.{moved_from}
use Rattle.queue_laws.specs.Doing.{is_among, waiting_among}
use Rattle.queue_laws.specs.Jobs.{waiting_of}
use Rattle.queue_laws.specs.Replies.{refuses}
use Rattle.queue_laws.proofs.Asked.{same_canceled}
use Rattle.queue_laws.proofs.Base.{each_both, each_map, own_key, passed}
use Rattle.queue_laws.proofs.OfNumber.{both_filters}
use Rattle.queue_laws.proofs.OfPages.{nothing_owed}
use Rattle.queue_laws.proofs.OnNamed.{one_of}
use Rattle.queue_laws.proofs.OneDone.{few_waiting}
use Rattle.queue_laws.proofs.Standing.{Stands, chosen_stand}
use Rattle.queue_laws.proofs.Rows.{on_named}

-- ---- one job

-- what is set aside for a job that waits
abbrev freed : Job → ℕ
freed j = cond (nat_le (state j) 4) (owed j) 0

whole : (owing count : ℕ) → pos (owing + count) -ℤ pos (0 + count) ≡ pos owing
whole owing count = omega (arith, ints)

none : (n : ℕ) → pos n -ℤ pos n ≡ pos 0
none n = omega (arith, ints)

amount : (now : ℕ) (j : Job) (p : Phase) → pos (taken j) -ℤ pos (taken (canceled_in ByUser p now j)) ≡ pos (cond (nat_le (state_in p j.hold j.incoming) 4) (owed j) 0)
amount now j Waiting = whole (owed j) j.count ∙ ap (λ t. pos (cond t (owed j) 0)) (sym (le-leb (state_in Waiting j.hold j.incoming) 4 (few_waiting j.hold j.incoming)))
amount now j _ = none (taken j)

-- ---- several jobs

module _ (now : ℕ) (caller : List ℕ) (before : List Job) where
  abbrev IsOwn : Job → Type 0
  IsOwn j = Stands before j × (bytes_eq j.owner caller ≡ true)

  one_back : (j : Job) → IsOwn j → given_back before caller (canceled now j) ≡ pos (freed j)
  one_back j is =
      let x : Job = canceled now j in
      let same = same_canceled ByUser now j j.phase in
      ap (λ t. cond t (pos (option_map_or taken (job_at x.number before) 0) -ℤ pos (taken x)) (pos 0)) (ap (λ a. bytes_eq a caller) same.owner ∙ is.1)
      ∙ ap (λ o. pos (option_map_or taken o 0) -ℤ pos (taken x)) (ap (λ n. job_at n before) same.number ∙ is.0)
      ∙ amount now j j.phase

  all_back : (js : List Job) → Each IsOwn js → returned before caller (map (canceled now) js) ≡ pos (sum_by freed js)
  all_back [] each = refl
  all_back (j ∷ js) each =
      let here = one_back j each.0 in
      let more = all_back js each.1 in
      omega (arith, ints, here, more, returned-cons before caller (canceled now j) (map (canceled now) js), sum_by-cons freed j js)

-- ---- sums over the jobs that are chosen

one_more : (c : Job → Bool) (f : Job → ℕ) (j : Job) (js : List Job) → sum_by f (filter c (j ∷ js)) ≡ cond (c j) (f j) 0 + sum_by f (filter c js)
one_more c f j js = elim (c j) as (λ b. sum_by f (cond b (j ∷ filter c js) (filter c js)) ≡ cond b (f j) 0 + sum_by f (filter c js)) [ true ↦ sum_by-cons f j (filter c js) | false ↦ omega arith ]

agree : (c d : Job → Bool) (f g : Job → ℕ) (js : List Job) → ((j : Job) → cond (c j) (f j) 0 ≡ cond (d j) (g j) 0) → sum_by f (filter c js) ≡ sum_by g (filter d js)
agree c d f g [] same = refl
agree c d f g (j ∷ js) same =
    let here = same j in
    let more = agree c d f g js same in
    omega (arith, here, more, one_more c f j js, one_more d g j js)

able : (own : Bool) (p : Phase) (j : Job) (hold incoming : Bool) (owing : ℕ) → cond ((own && is_live_in p) && is_cancelable_in p j) (cond (nat_le (state_in p hold incoming) 4) owing 0) 0 ≡ cond (own && nat_le (state_in p hold incoming) 4) owing 0
able true Waiting j hold incoming owing = refl
able true Running j hold incoming owing = nothing_owed (is_cancelable_in Running j)
able true Stopped j hold incoming owing = nothing_owed (is_cancelable_in Stopped j)
able true _ j hold incoming owing = refl
able false p j hold incoming owing = refl

asked : (own low among : Bool) (owing : ℕ) → cond (own && among) (cond low owing 0) 0 ≡ cond ((own && low) && among) owing 0
asked true true among owing = refl
asked true false among owing = nothing_owed among
asked false low among owing = refl

-- ---- the free pages of the caller's account

module _ (w : World) (now : ℕ) (caller : List ℕ) (free : ℤ) (sound : IsSound w) (account : get w.free caller ≡ Some free) where
  abbrev FreeBy : Decision → ℕ → Type 0
  FreeBy d pages = get (made_on d.change w).free caller ≡ Some (free +ℤ pos pages)

  abbrev live_own : Job → Bool
  live_own j = bytes_eq j.owner caller && is_live j

  module _ (numbers : Option (List ℕ)) (c : Job → Bool) (chosen : (cut w now (ask caller (cancel_my_jobs numbers))).jobs ≡ filter c (rows w)) (own : (j : Job) → c j ≡ true → bytes_eq j.owner caller ≡ true) where
    abbrev scene : Scene
    scene = cut w now (ask caller (cancel_my_jobs numbers))

    all_own : Each (IsOwn now caller scene.jobs) scene.jobs
    all_own = subst (λ js. Each (IsOwn now caller js) js) (sym chosen) (each_both (Stands (filter c (rows w))) (λ j. bytes_eq j.owner caller ≡ true) (filter c (rows w))
        (chosen_stand w sound c)
        (each_map (λ j. c j ≡ true) (λ j. bytes_eq j.owner caller ≡ true) (filter c (rows w)) own (passed c (rows w))))

    free_by : (js : List Job) → Each (IsOwn now caller scene.jobs) js → FreeBy (all_canceled scene now js) (sum_by freed js)
    free_by js each =
        let xs : List Job = map (canceled now) js in
        moved_from w.free caller caller scene.jobs xs (get w.free caller) refl
        ∙ ap (λ t. cond t (option_map (λ f. f +ℤ returned scene.jobs caller xs) (get w.free caller)) (get w.free caller)) (own_key caller caller refl)
        ∙ ap (option_map (λ f. f +ℤ returned scene.jobs caller xs)) account
        ∙ ap (λ z. Some (free +ℤ z)) (all_back now caller scene.jobs js each)

  pub mine_free : get (step w now (ask caller (cancel_my_jobs None))).world.free caller ≡ Some (free +ℤ pos (sum_by owed (waiting_of caller (rows w))))
  mine_free =
      let js : List Job = (cut w now (ask caller (cancel_my_jobs None))).jobs in
      let first : (j : Job) → live_own j ≡ true → bytes_eq j.owner caller ≡ true = λ j is. (and_parts (bytes_eq j.owner caller) (is_live j) is).0 in
      free_by None live_own refl first (filter is_cancelable js) (each-filter (IsOwn now caller js) is_cancelable js (all_own None live_own refl first))
      ∙ ap (λ n. Some (free +ℤ pos n)) (ap (sum_by freed) (both_filters is_cancelable live_own (rows w))
      ∙ agree (λ j. live_own j && is_cancelable j) (λ j. bytes_eq j.owner caller && nat_le (state j) 4) freed owed (rows w) (λ j. able (bytes_eq j.owner caller) j.phase j j.hold j.incoming (owed j)))

  module _ (numbers : List ℕ) where
    abbrev is_asked : Job → Bool
    is_asked j = bytes_eq j.owner caller && is_one_of numbers j

    abbrev named : Scene
    named = cut w now (ask caller (cancel_my_jobs (Some numbers)))

    abbrev pages : ℕ
    pages = sum_by owed (waiting_among numbers caller (rows w))

    abbrev FreeUnless : Decision → Type 0
    FreeUnless d = refuses d.reply ≡ false → FreeBy d pages

    same_pages : sum_by freed named.jobs ≡ pages
    same_pages =
        agree is_asked (λ j. (bytes_eq j.owner caller && nat_le (state j) 4) && is_among numbers j.number) freed owed (rows w)
        (λ j. ap (λ b. cond (bytes_eq j.owner caller && b) (freed j) 0) (one_of numbers j) ∙ asked (bytes_eq j.owner caller) (nat_le (state j) 4) (is_among numbers j.number) (owed j))
        ∙ ap (sum_by owed) (sym (both_filters (λ j. is_among numbers j.number) (λ j. bytes_eq j.owner caller && nat_le (state j) 4) (rows w)))

    all_free : FreeBy (all_canceled named now named.jobs) pages
    all_free =
        let first : (j : Job) → is_asked j ≡ true → bytes_eq j.owner caller ≡ true = λ j is. (and_parts (bytes_eq j.owner caller) (is_one_of numbers j) is).0 in
        free_by (Some numbers) is_asked refl first named.jobs (all_own (Some numbers) is_asked refl first)
        ∙ ap (λ n. Some (free +ℤ pos n)) same_pages

    pub named_free : refuses (step w now (ask caller (cancel_my_jobs (Some numbers)))).reply ≡ false → get (step w now (ask caller (cancel_my_jobs (Some numbers)))).world.free caller ≡ Some (free +ℤ pos pages)
    named_free = on_named FreeUnless named now numbers (λ all taken. all_free) (λ code never. absurd (true≢false never))
