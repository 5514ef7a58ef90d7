-- Several jobs of the caller's own are canceled at once: the world stays sound, and its jobs move along the allowed pairs.
use Rattle.std.proofs.Common.{◌≡◌, ◌≢◌, ℕ, ℤ, pos, ◌+ℤ◌, ◌-ℤ◌, ◌+◌, ◌<◌, List, [], ◌∷◌, map, refl, ap, sym, ◌∙◌, arith, subst, inl, inr, Bool, true, false, cond}
use Rattle.std.specs.Prelude.{Option, Some, None, IsTrue, ◌&&◌, nat_eq, bytes_eq, option_map, filter, fold}
use Rattle.std.specs.List.{list_all, AllByRecursion as Each}
use Rattle.std.specs.Option.{option_map_or}
use Rattle.std.specs.FinMap.{FinMap, get, same_map, slice_cmp-IsAntisymmetric, nat_cmp-IsAntisymmetric}
use Rattle.std.specs.Cmp.Lexicographic.{nat_list_cmp_total}
use Rattle.std.proofs.lemmas.Bool.{and_parts, eqb-true}
use Rattle.std.proofs.lemmas.Cmp.{nat_list_eq_equiv}
use Rattle.std.proofs.lemmas.Int.{ints}
use Rattle.std.proofs.lemmas.List.Elements.{filter_passes}
use Rattle.queue_core.specs.World.{World, Entry, rows, cut, made_on, with_row, text_cmp, job_at, is_one_of}
use Rattle.queue_types.specs.Event.{ask, cancel_my_jobs}
use Rattle.queue_types.specs.Job.{is_live, state_in}
use Rattle.queue_core.specs.Limits.{IsMoment, FitsPhase}
use Rattle.queue_core.specs.Machine.{taken, returned, given_back, canceled, canceled_in, is_cancelable, is_cancelable_in, all_canceled, are_there, cancel_my_jobs_row, refused}
use Rattle.queue_core.specs.Order.{AreRising}
use Rattle.queue_core.specs.Runs.{Follows, is_pair}
use Rattle.queue_core.specs.Sound.{IsSound, IsIdle, Rise}
use Rattle.queue_types.specs.declared.job.Job.{Job}
use Rattle.queue_types.specs.declared.job.Phase.{Phase}
use Rattle.queue_types.specs.declared.job.Phase.TheVariants.{Waiting, Running, Stopped}
use Rattle.queue_types.specs.declared.job.Why.{Why}
use Rattle.queue_types.specs.declared.job.Why.TheVariants.{ByUser, AtDevice}
use Rattle.queue_types.specs.declared.event.Scene.{Scene}
use Rattle.queue_core.proofs.Keep.{at, each-map, ne_from_lt}
use Rattle.queue_core.proofs.Moves.{stays, at-with_row}
use Rattle.queue_core.proofs.Numbers.{filter_whole}
use Rattle.queue_core.proofs.Ordered.{each_of, each-filter}
use Rattle.queue_core.proofs.Orders.{rising-filter}
use Rattle.queue_core.proofs.Own.{Keeps, unchanged, moved, moved_from, moved_get, same_key, itself}
use Rattle.queue_core.proofs.Rows.{Replaces, KeepsDocuments, same_job, still_sound, row_keeps, row_entries, rows_of, with_jobs, back, kept_amount}

-- ---- a job once it is canceled

pub replaced : (why : Why) (now : ℕ) (j : Job) (p : Phase) → j.phase ≡ p → is_cancelable_in p j ≡ true → Replaces (canceled_in why p now j) j
replaced why now j Waiting is can = record { number = refl; owner = refl; count = refl; live = omega arith }
replaced why now j Running is can = record { number = refl; owner = refl; count = refl; live = omega arith }
replaced why now j Stopped is can = record { number = refl; owner = refl; count = refl; live = omega arith }
replaced why now j _ is can = absurd (cc)

-- marked as stopping
stopping : (why : Why) (j : Job) (p : Phase) → j.phase ≡ p → (FitsPhase p j → FitsPhase p (record j { stopping = Some why })) → KeepsDocuments (record j { stopping = Some why }) j
stopping why j p is fits = record {
  documents = refl;
  octets = refl;
  sound = λ s. still_sound (record j { stopping = Some why }) j (same_job j) s s.count s.begun s.ended s.documents s.octets (subst (λ q. FitsPhase q (record j { stopping = Some why })) (sym is) (fits (subst (λ q. FitsPhase q j) is s.phase)));
}

not_the_device : (why : Why) → why ≢ AtDevice → Some why ≢ Some AtDevice
not_the_device why asks same = asks (cc)

pub keeps_documents : (why : Why) (now : ℕ) (j : Job) (p : Phase) → why ≢ AtDevice → IsMoment now → j.phase ≡ p → is_cancelable_in p j ≡ true → KeepsDocuments (canceled_in why p now j) j
keeps_documents why now j Waiting asks moment is can = record {
  documents = refl;
  octets = refl;
  sound = λ s. still_sound (canceled_in why Waiting now j) j (same_job j) s s.count s.begun moment s.documents s.octets (refl, refl, refl, (subst (λ p. FitsPhase p j) is s.phase).3);
}
keeps_documents why now j Running asks moment is can = stopping why j Running is (λ f. (f.0, f.1, f.2, f.3, not_the_device why asks))
keeps_documents why now j Stopped asks moment is can = stopping why j Stopped is (λ f. (f.0, f.1, f.2, f.3, not_the_device why asks))
keeps_documents why now j _ asks moment is can = absurd (cc)

-- its user asks
pub by_user : ByUser ≢ AtDevice
by_user e = absurd (cc)

pub stays_idle : (why : Why) (now : ℕ) (j : Job) (p : Phase) → is_cancelable_in p j ≡ true → IsIdle j → IsIdle (canceled_in why p now j)
stays_idle why now j Waiting can h = (h.0, h.1, refl)
stays_idle why now j _ can h = h

waiting_ends : (hold incoming : Bool) → IsTrue (is_pair (state_in Waiting hold incoming) 7)
waiting_ends true incoming = refl
waiting_ends false true = refl
waiting_ends false false = refl

pub follows : (why : Why) (now : ℕ) (j : Job) (p : Phase) → j.phase ≡ p → is_cancelable_in p j ≡ true → Follows (Some j) (Some (canceled_in why p now j))
follows why now j Waiting is can = inr (subst (λ p. IsTrue (is_pair (state_in p j.hold j.incoming) 7)) (sym is) (waiting_ends j.hold j.incoming))
follows why now j Running is can = inl refl
follows why now j Stopped is can = inl refl
follows why now j _ is can = absurd (cc)

-- ---- the jobs of a rising list

rising_above : (e : Entry) (first next : ℕ) (es : List Entry) → e.row.number < first → Rise first es next → Each (λ (k : Job). e.row.number < k.number) (rows_of es)
rising_above e first next [] low rise = tt
rising_above e first next (f ∷ es) low rise = (let least = rise.0 in omega arith, rising_above e (f.row.number + 1) next es (let least = rise.0 in omega arith) rise.1)

pub rising : (first next : ℕ) (es : List Entry) → Rise first es next → AreRising (rows_of es)
rising first next [] rise = tt
rising first next (e ∷ es) rise = (rising_above e (e.row.number + 1) next es (omega arith) rise.1, rising (e.row.number + 1) next es rise.1)

pub each_both : (P Q : Job → Type 0) (js : List Job) → Each P js → Each Q js → Each (λ j. P j × Q j) js
each_both P Q [] p q = tt
each_both P Q (j ∷ js) p q = ((p.0, q.0), each_both P Q js p.1 q.1)

behind : (j : Job) (js ks : List Job) → Each (λ k. j.number < k.number) ks → Each (λ k. job_at k.number js ≡ Some k) ks → Each (λ k. job_at k.number (j ∷ js) ≡ Some k) ks
behind j js [] above each = tt
behind j js (k ∷ ks) above each = (ap (λ b. cond b (Some j) (job_at k.number js)) (ne_from_lt j.number k.number above.0) ∙ each.0, behind j js ks above.1 each.1)

-- each stands at its own number
pub at_its_number : (js : List Job) → AreRising js → Each (λ j. job_at j.number js ≡ Some j) js
at_its_number [] rising = tt
at_its_number (j ∷ js) rising = (ap (λ b. cond b (Some j) (job_at j.number js)) (itself j.number), behind j js js rising.0 (at_its_number js rising.1))

pub passed : (p : Job → Bool) (js : List Job) → Each (λ j. p j ≡ true) (filter p js)
passed p js = each_of (λ j. p j ≡ true) (filter p js) (filter_passes p js)

-- ---- what comes back to an account

shift : (f : Job → ℤ) (z : ℤ) (js : List Job) → fold (λ sum j. sum +ℤ f j) z js ≡ z +ℤ fold (λ sum j. sum +ℤ f j) (pos 0) js
shift f z [] = omega (arith, ints)
shift f z (j ∷ js) =
    let here = shift f (z +ℤ f j) js in
    let more = shift f (pos 0 +ℤ f j) js in
    omega (arith, ints, here, more)

pub returned-cons : (before : List Job) (a : List ℕ) (x : Job) (xs : List Job) → returned before a (x ∷ xs) ≡ given_back before a x +ℤ returned before a xs
returned-cons before a x xs = let more = shift (given_back before a) (pos 0 +ℤ given_back before a x) xs in omega (arith, ints, more)

gives : (before : List Job) (a : List ℕ) (j x : Job) → job_at x.number before ≡ Some j → given_back before a x ≡ back x j a
gives before a j x there = ap (λ o. cond (bytes_eq x.owner a) (pos (option_map_or taken o 0) -ℤ pos (taken x)) (pos 0)) there

-- nothing comes back to another account
none_back : (before : List Job) (a caller : List ℕ) (xs : List Job) → bytes_eq a caller ≡ false → Each (λ x. x.owner ≡ caller) xs → returned before a xs ≡ pos 0
none_back before a caller [] other own = refl
none_back before a caller (x ∷ xs) other own =
    let apart : bytes_eq x.owner a ≡ false = ap (λ t. bytes_eq t a) own.0 ∙ nat_list_eq_equiv.symm caller a ∙ other in
    let here : given_back before a x ≡ pos 0 = ap (λ b. cond b (pos (option_map_or taken (job_at x.number before) 0) -ℤ pos (taken x)) (pos 0)) apart in
    let more = none_back before a caller xs other own.1 in
    omega (arith, ints, returned-cons before a x xs, here, more)

twice : (y z : ℤ) (o : Option ℤ) → option_map (λ f. f +ℤ (y +ℤ z)) o ≡ option_map (λ f. f +ℤ z) (option_map (λ f. f +ℤ y) o)
twice y z None = refl
twice y z (Some f) = ap Some (omega (arith, ints))

-- ---- one after the other

-- it stands in the world and among the jobs that the scene has, and can be canceled
abbrev IsReady : World → List Job → Job → Type 0
IsReady w before j = (at j.number w.jobs ≡ Some j) × (job_at j.number before ≡ Some j) × (is_cancelable j ≡ true)

-- a row of a smaller number leaves the others ready
still_ready : (w : World) (m : FinMap text_cmp ℤ) (before : List Job) (x j : Job) (ks : List Job) → x.number ≡ j.number → Each (λ k. j.number < k.number) ks → Each (IsReady w before) ks → Each (IsReady (with_jobs w m (with_row w.jobs x)) before) ks
still_ready w m before x j [] same above each = tt
still_ready w m before x j (k ∷ ks) same above each =
    let here : at k.number (with_row w.jobs x) ≡ Some k =
    at-with_row k.number x w.jobs ∙ ap (λ b. cond b (Some x) (at k.number w.jobs)) (ap (λ n. nat_eq n k.number) same ∙ ne_from_lt j.number k.number above.0) ∙ each.0.0 in
    ((here, each.0.1, each.0.2), still_ready w m before x j ks same above.1 each.1)

many_sound : (now : ℕ) (before : List Job) → IsMoment now → (js : List Job) (w : World) (m : FinMap text_cmp ℤ) → IsSound w → AreRising js → Each (IsReady w before) js
    → ((q : List ℕ) → get m q ≡ option_map (λ f. f +ℤ returned before q (map (canceled now) js)) (get w.free q))
    → IsSound (with_jobs w m (fold with_row w.jobs (map (canceled now) js)))
many_sound now before moment [] w m sound rising each free =
    let same : w.free ≡ m = same_map nat_list_cmp_total (slice_cmp-IsAntisymmetric nat_cmp-IsAntisymmetric) _ _ (λ q. kept_amount (get w.free q) ∙ sym (free q)) in
    subst (λ t. IsSound (with_jobs w t w.jobs)) same sound
many_sound now before moment (j ∷ js) w m sound rising each free =
    let x = canceled now j in
    let can = each.0.2 in
    let fits = replaced ByUser now j j.phase refl can in
    let there : at x.number w.jobs ≡ Some j = ap (λ n. at n w.jobs) fits.number ∙ each.0.0 in
    let known : job_at x.number before ≡ Some j = ap (λ n. job_at n before) fits.number ∙ each.0.1 in
    let back_now = moved w.free x.owner (j ∷ []) (x ∷ []) in
    let got : (q : List ℕ) → get back_now q ≡ option_map (λ f. f +ℤ back x j q) (get w.free q) = moved_get w.free j x [] fits.number in
    let next : IsSound (with_jobs w back_now (with_row w.jobs x)) =
    row_keeps w back_now (with_row w.jobs x) x j sound there fits refl (row_entries w.jobs x j there (keeps_documents ByUser now j j.phase by_user moment refl can) sound.entries) (λ none h. stays_idle ByUser now j j.phase can h) got in
    many_sound now before moment js (with_jobs w back_now (with_row w.jobs x)) m next rising.1 (still_ready w back_now before x j js fits.number rising.0 each.1)
    (λ q.
    free q
    ∙ ap (λ z. option_map (λ f. f +ℤ z) (get w.free q)) (returned-cons before q x (map (canceled now) js) ∙ ap (λ z. z +ℤ returned before q (map (canceled now) js)) (gives before q j x known))
    ∙ twice (back x j q) (returned before q (map (canceled now) js)) (get w.free q)
    ∙ ap (option_map (λ f. f +ℤ returned before q (map (canceled now) js))) (sym (got q)))

-- rows that each follow what stood at their number
pub many_move : (old es : List Entry) (xs : List Job) → ((n : ℕ) → Follows (at n old) (at n es)) → Each (λ x. Follows (at x.number old) (Some x)) xs → (n : ℕ) → Follows (at n old) (at n (fold with_row es xs))
many_move old es [] before each n = before n
many_move old es (x ∷ xs) before each n =
    many_move old (with_row es x) xs
    (λ k. subst (Follows (at k old)) (sym (at-with_row k x es))
    (elim (nat_eq x.number k) as (λ t. nat_eq x.number k ≡ t → Follows (at k old) (cond t (Some x) (at k es))) [
      | true ↦ λ is. subst (λ i. Follows (at i old) (Some x)) (eqb-true x.number k is) each.0
      | false ↦ λ is. before k
    ] refl))
    each.1 n

each_follows : (now : ℕ) (w : World) (before js : List Job) → Each (IsReady w before) js → Each (λ x. Follows (at x.number w.jobs) (Some x)) (map (canceled now) js)
each_follows now w before [] each = tt
each_follows now w before (j ∷ js) each =
    let there : at (canceled now j).number w.jobs ≡ Some j = ap (λ n. at n w.jobs) (replaced ByUser now j j.phase refl each.0.2).number ∙ each.0.0 in
    (subst (λ o. Follows o (Some (canceled now j))) (sym there) (follows ByUser now j j.phase refl each.0.2), each_follows now w before js each.1)

each_owned : (now : ℕ) (caller : List ℕ) (js : List Job) → Each (λ j. (j.owner ≡ caller) × (is_cancelable j ≡ true)) js → Each (λ x. x.owner ≡ caller) (map (canceled now) js)
each_owned now caller [] each = tt
each_owned now caller (j ∷ js) each = ((replaced ByUser now j j.phase refl each.0.1).owner ∙ each.0.0, each_owned now caller js each.1)

-- ---- the event

-- Cancel-My-Jobs, on the caller's jobs that pass a test
module _ (w : World) (now : ℕ) (caller : List ℕ) (numbers : Option (List ℕ)) (c : Job → Bool) (sound : IsSound w) (moment : IsMoment now) (named : (cut w now (ask caller (cancel_my_jobs numbers))).jobs ≡ filter c (rows w)) (own : (j : Job) → c j ≡ true → j.owner ≡ caller) where
  abbrev scene : Scene
  scene = cut w now (ask caller (cancel_my_jobs numbers))

  abbrev asked : List Job
  asked = filter c (rows w)

  abbrev able : List Job
  able = filter is_cancelable asked

  in_turn : AreRising (rows w)
  in_turn = rising 1 w.next w.jobs sound.numbers

  ready : Each (IsReady w asked) able
  ready =
      let here = each-filter (λ j. job_at j.number (rows w) ≡ Some j) is_cancelable asked (each-filter (λ j. job_at j.number (rows w) ≡ Some j) c (rows w) (at_its_number (rows w) in_turn)) in
      let known = each-filter (λ j. job_at j.number asked ≡ Some j) is_cancelable asked (at_its_number asked (rising-filter c (rows w) in_turn)) in
      each-map (λ j. (job_at j.number (rows w) ≡ Some j) × ((job_at j.number asked ≡ Some j) × (is_cancelable j ≡ true))) (IsReady w asked) able (λ j h. (h.0, h.1.0, h.1.1))
      (each_both (λ j. job_at j.number (rows w) ≡ Some j) (λ j. (job_at j.number asked ≡ Some j) × (is_cancelable j ≡ true)) able here
      (each_both (λ j. job_at j.number asked ≡ Some j) (λ j. is_cancelable j ≡ true) able known (passed is_cancelable asked)))

  owned : Each (λ x. x.owner ≡ caller) (map (canceled now) able)
  owned = each_owned now caller able
      (each_both (λ j. j.owner ≡ caller) (λ j. is_cancelable j ≡ true) able (each-filter (λ j. j.owner ≡ caller) is_cancelable asked (each-map (λ j. c j ≡ true) (λ j. j.owner ≡ caller) asked own (passed c (rows w)))) (passed is_cancelable asked))

  free_moves : (q : List ℕ) → get (moved w.free caller asked (map (canceled now) able)) q ≡ option_map (λ f. f +ℤ returned asked q (map (canceled now) able)) (get w.free q)
  free_moves q =
      moved_from w.free caller q asked (map (canceled now) able) (get w.free caller) refl
      ∙ elim (bytes_eq q caller) as (λ t. bytes_eq q caller ≡ t → cond t (option_map (λ f. f +ℤ returned asked caller (map (canceled now) able)) (get w.free caller)) (get w.free q) ≡ option_map (λ f. f +ℤ returned asked q (map (canceled now) able)) (get w.free q)) [
        | true ↦ λ is. ap (λ a. option_map (λ f. f +ℤ returned asked a (map (canceled now) able)) (get w.free a)) (sym (same_key q caller is))
        | false ↦ λ is. kept_amount (get w.free q) ∙ ap (λ z. option_map (λ f. f +ℤ z) (get w.free q)) (sym (none_back asked q caller (map (canceled now) able) is owned))
      ] refl

  able_keeps : Keeps w (with_jobs w (moved w.free caller asked (map (canceled now) able)) (fold with_row w.jobs (map (canceled now) able)))
  able_keeps = record {
    sound = many_sound now asked moment able w (moved w.free caller asked (map (canceled now) able)) sound (rising-filter is_cancelable asked (rising-filter c (rows w) in_turn)) ready free_moves;
    moves = many_move w.jobs w.jobs (map (canceled now) able) (stays w) (each_follows now w asked able ready);
  }

  pub all_keeps : Keeps w (made_on (all_canceled scene now (filter is_cancelable scene.jobs)).change w)
  all_keeps = subst (λ js. Keeps w (with_jobs w (moved w.free caller js (map (canceled now) (filter is_cancelable js))) (fold with_row w.jobs (map (canceled now) (filter is_cancelable js))))) (sym named) able_keeps

pub cancel_my_keeps : (w : World) (now : ℕ) (caller : List ℕ) (numbers : Option (List ℕ)) → IsSound w → IsMoment now → Keeps w (made_on (cancel_my_jobs_row (cut w now (ask caller (cancel_my_jobs numbers))) now numbers).change w)
cancel_my_keeps w now caller None sound moment =
    all_keeps w now caller None (λ j. bytes_eq j.owner caller && is_live j) sound moment refl (λ j is. same_key j.owner caller (and_parts (bytes_eq j.owner caller) (is_live j) is).0)
cancel_my_keeps w now caller (Some numbers) sound moment =
    let s : Scene = cut w now (ask caller (cancel_my_jobs (Some numbers))) in
    let keeps : Keeps w (made_on (all_canceled s now (filter is_cancelable s.jobs)).change w) =
    all_keeps w now caller (Some numbers) (λ j. bytes_eq j.owner caller && is_one_of numbers j) sound moment refl
    (λ j is. same_key j.owner caller (and_parts (bytes_eq j.owner caller) (is_one_of numbers j) is).0) in
    elim (are_there s.jobs numbers) as (λ b. Keeps w (made_on (cond b (cond (list_all is_cancelable s.jobs) (all_canceled s now s.jobs) (refused 0x0404)) (refused 0x0406)).change w)) [
      | true ↦
          elim (list_all is_cancelable s.jobs) as (λ b. list_all is_cancelable s.jobs ≡ b → Keeps w (made_on (cond b (all_canceled s now s.jobs) (refused 0x0404)).change w)) [
            | true ↦ λ all. subst (λ js. Keeps w (made_on (all_canceled s now js).change w)) (filter_whole is_cancelable s.jobs all) keeps
            | false ↦ λ all. unchanged w sound
          ] refl
      | false ↦ unchanged w sound
    ]
