-- What Cancel-My-Jobs with job numbers makes of each job.
use Rattle.std.proofs.Common.{◌≡◌, ◌⊎◌, ℕ, List, [], ◌∷◌, refl, ap, subst, sym, ◌∙◌, inl, inr, Bool, true, false, cond}
use Rattle.std.specs.Prelude.{Some, None, nat_eq, bytes_eq, ◌&&◌, ◌||◌}
use Rattle.std.specs.List.{list_all, AllByRecursion as Each}
use Rattle.std.proofs.lemmas.Bool.{and_parts, both_ways, false_from_ne_true}
use Rattle.std.proofs.lemmas.Option.{same_Some, none-some}
use Rattle.queue_types.specs.Event.{Decision, ask, cancel_job, cancel_my_jobs}
use Rattle.queue_types.specs.Operators.{is_operator}
use Rattle.queue_core.specs.World.{World, Entry, rows, cut, is_one_of}
use Rattle.queue_core.specs.Machine.{Step, step, refused, is_cancelable, all_canceled, are_there}
use Rattle.queue_core.specs.Sound.{IsSound}
use Rattle.queue_types.specs.declared.job.Job.{Job}
use Rattle.queue_types.specs.declared.event.Reply.{Reply}
use Rattle.queue_types.specs.declared.event.Reply.TheVariants.{Refused, Done}
use Rattle.queue_types.specs.declared.event.Scene.{Scene}
use Rattle.queue_laws.specs.Doing.{entry_at, is_among}
use Rattle.queue_laws.specs.Jobs.{has_job, is_owned_by}
use Rattle.queue_laws.proofs.Base.{rows_of, equal, each_map, each_both, passed}
use Rattle.queue_laws.proofs.OneJob.{are_own, not_possible}
use Rattle.queue_laws.proofs.OneDone.{by, row_at, number_at}
use Rattle.queue_laws.proofs.OfNumber.{stays_at, not_all}
use Rattle.queue_laws.proofs.OnMine.{Sees, one, by_tests, one_step, none_step, as_one, owns_it}
use Rattle.queue_laws.proofs.Standing.{Stands, all_stand}
use Rattle.queue_laws.proofs.Rows.{on_named}

not_done : (A : Type 0) (r : Reply) (code : ℕ) → r ≡ Refused code → r ≡ Done → A
not_done A r code refuses done = absurd (cc)

not_refused : (A : Type 0) (r : Reply) (code : ℕ) → r ≡ Done → r ≡ Refused code → A
not_refused A r code done refuses = absurd (cc)

other_code : (A : Type 0) (r : Reply) → r ≡ Refused 0x0406 → r ≡ Refused 0x0404 → A
other_code A r there here = absurd (not_possible (sym here ∙ there))

-- ---- numbers

pub one_of : (numbers : List ℕ) (j : Job) → is_one_of numbers j ≡ is_among numbers j.number
unfolding is_one_of
one_of numbers j = refl

each_among : (P : ℕ → Type 0) (numbers : List ℕ) (n : ℕ) → Each P numbers → is_among numbers n ≡ true → P n
each_among P [] n each among = absurd (cc)
each_among P (m ∷ numbers) n each among =
    elim (nat_eq m n) as (λ t. nat_eq m n ≡ t → (t || is_among numbers n) ≡ true → P n) [
      | true ↦ λ is among. subst P (equal m n is) each.0
      | false ↦ λ is among. each_among P numbers n each.1 among
    ] refl among

all_pass : {A : Type 0} (d : A → Bool) (xs : List A) → Each (λ x. d x ≡ true) xs → list_all d xs ≡ true
all_pass d [] each = refl
all_pass d (x ∷ xs) each = ap (λ b. b && list_all d xs) each.0 ∙ all_pass d xs each.1

module _ (caller : List ℕ) where
  has_mine : (m : ℕ) (es : List Entry) (e : Entry) → entry_at m es ≡ Some e → bytes_eq e.row.owner caller ≡ true → has_job caller m (rows_of es) ≡ true
  has_mine m [] e there own = absurd (none-some e there)
  has_mine m (f ∷ es) e there own =
      elim (nat_eq f.row.number m) as (λ t. cond t (Some f) (entry_at m es) ≡ Some e → ((t && is_owned_by caller f.row) || has_job caller m (rows_of es)) ≡ true) [
        | true ↦ λ there. ap (λ b. b || has_job caller m (rows_of es)) (ap (λ (x : Entry). bytes_eq x.row.owner caller) (same_Some f e there) ∙ own)
        | false ↦ λ there. has_mine m es e there own
      ] there

module _ (w : World) (now : ℕ) (caller numbers : List ℕ) where
  -- the caller's own job of that number, and whether it can be canceled
  record IsMine (m : ℕ) (test : Bool) : Type 0 where
    entry : Entry
    there : entry_at m w.jobs ≡ Some entry
    own : bytes_eq entry.row.owner caller ≡ true
    can : is_cancelable entry.row ≡ test

  module _ (m : ℕ) where
    done_by : (e : Entry) → entry_at m w.jobs ≡ Some e → (own can : Bool) → bytes_eq e.row.owner caller ≡ own → is_cancelable e.row ≡ can → (by_tests w now caller m e.row own can).reply ≡ Done → IsMine m true
    done_by e there true true own can done = record { entry = e; there = there; own = own; can = can }
    done_by e there true false own can done = not_done _ _ 0x0404 refl done
    done_by e there false can own is done = not_done _ _ 0x0406 refl done

    -- of a caller that is no operator, or owns the job
    abbrev SeesIt : Type 0
    SeesIt = (e : Entry) → entry_at m w.jobs ≡ Some e → Sees w now caller e.row

    is_mine : SeesIt → (one w now caller m).reply ≡ Done → IsMine m true
    is_mine sees done =
        elim (entry_at m w.jobs) as (λ o. entry_at m w.jobs ≡ o → IsMine m true) [
          | None ↦ λ none. not_done _ (one w now caller m).reply 0x0406 (ap (λ (s : Step). s.reply) (none_step w now caller m none)) done
          | Some e ↦ λ there. done_by e there (bytes_eq e.row.owner caller) (is_cancelable e.row) refl refl (sym (ap (λ (s : Step). s.reply) (one_step w now caller m e there (sees e there))) ∙ done)
        ] refl

    refused_by : (e : Entry) → entry_at m w.jobs ≡ Some e → (own can : Bool) → bytes_eq e.row.owner caller ≡ own → is_cancelable e.row ≡ can → (by_tests w now caller m e.row own can).reply ≡ Refused 0x0404 → IsMine m false
    refused_by e there true true own can refuses = not_refused _ _ 0x0404 refl refuses
    refused_by e there true false own can refuses = record { entry = e; there = there; own = own; can = can }
    refused_by e there false can own is refuses = other_code _ _ refl refuses

    is_not_mine : SeesIt → (one w now caller m).reply ≡ Refused 0x0404 → IsMine m false
    is_not_mine sees refuses =
        elim (entry_at m w.jobs) as (λ o. entry_at m w.jobs ≡ o → IsMine m false) [
          | None ↦ λ none. other_code _ (one w now caller m).reply (ap (λ (s : Step). s.reply) (none_step w now caller m none)) refuses
          | Some e ↦ λ there. refused_by e there (bytes_eq e.row.owner caller) (is_cancelable e.row) refl refl (sym (ap (λ (s : Step). s.reply) (one_step w now caller m e there (sees e there))) ∙ refuses)
        ] refl

  -- ---- all of them or none

  abbrev scene : Scene
  scene = cut w now (ask caller (cancel_my_jobs (Some numbers)))

  abbrev is_asked : Job → Bool
  is_asked j = bytes_eq j.owner caller && is_one_of numbers j

  abbrev by_all : Bool → Bool → Decision
  by_all there can = cond there (cond can (all_canceled scene now scene.jobs) (refused 0x0404)) (refused 0x0406)

  named_step : (there can : Bool) → are_there scene.jobs numbers ≡ there → list_all is_cancelable scene.jobs ≡ can → step w now (ask caller (cancel_my_jobs (Some numbers))) ≡ by w (by_all there can)
  named_step there can are is = ap (λ b. by w (by_all b (list_all is_cancelable scene.jobs))) are ∙ ap (λ b. by w (by_all there b)) is

  pub named_others_stay : (n : ℕ) → is_among numbers n ≡ false → entry_at n (step w now (ask caller (cancel_my_jobs (Some numbers)))).world.jobs ≡ entry_at n w.jobs
  named_others_stay n isnt =
      on_named (λ d. entry_at n (by w d).world.jobs ≡ entry_at n w.jobs) scene now numbers
      (λ all. stays_at now n scene.jobs w.jobs (each_map (λ k. is_asked k ≡ true) (λ k. nat_eq k.number n ≡ false) scene.jobs other (passed is_asked (rows w))))
      (λ code. refl)
    where
      other : (k : Job) → is_asked k ≡ true → nat_eq k.number n ≡ false
      other k asked = false_from_ne_true (nat_eq k.number n) (λ is. both_ways (is_among numbers n) isnt (ap (is_among numbers) (sym (equal k.number n is)) ∙ sym (one_of numbers k) ∙ (and_parts (bytes_eq k.owner caller) (is_one_of numbers k) asked).1))

  -- the job of one of the numbers, of which the caller has all
  has_each : (n : ℕ) (ms : List ℕ) → list_all (λ m. has_job caller m (rows w)) ms ≡ true → is_among ms n ≡ true → has_job caller n (rows w) ≡ true
  has_each n [] all among = absurd (cc)
  has_each n (m ∷ ms) all among =
      let both = and_parts (has_job caller m (rows w)) (list_all (λ m. has_job caller m (rows w)) ms) all in
      elim (nat_eq m n) as (λ t. nat_eq m n ≡ t → (t || is_among ms n) ≡ true → has_job caller n (rows w) ≡ true) [
        | true ↦ λ is among. ap (λ k. has_job caller k (rows w)) (sym (equal m n is)) ∙ both.0
        | false ↦ λ is among. has_each n ms both.1 among
      ] refl among

  pub named_refused : (n : ℕ) → (is_operator w.settings.operators caller ≡ false) ⊎ IsSound w → list_all (λ m. has_job caller m (rows w)) numbers ≡ true → is_among numbers n ≡ true → (one w now caller n).reply ≡ Refused 0x0404 → step w now (ask caller (cancel_my_jobs (Some numbers))) ≡ record { world = w; reply = Refused 0x0404 }
  named_refused n may mine among refuses =
      let sees : SeesIt n = λ e there. elim may as (λ _. Sees w now caller e.row) [
        | inl plain ↦ inl plain
        | inr sound ↦ inr (owns_it caller n 1 w.next w.jobs e sound.numbers there (has_each n numbers mine among))
      ] in
      let it = is_not_mine n sees refuses in
      let asked : is_asked it.entry.row ≡ true = ap (λ b. b && is_one_of numbers it.entry.row) it.own ∙ one_of numbers it.entry.row ∙ ap (is_among numbers) (number_at n w.jobs it.entry it.there) ∙ among in
      named_step true false (are_own caller numbers (rows w) ∙ mine) (not_all n w.next is_asked is_cancelable w.jobs it.entry it.there asked it.can)

  module _ (sound : IsSound w) (may : (is_operator w.settings.operators caller ≡ false) ⊎ (list_all (λ m. has_job caller m (rows w)) numbers ≡ true)) (done : Each (λ m. (step w now (ask caller (cancel_job m))).reply ≡ Done) numbers) where
    sees_each : (n : ℕ) → is_among numbers n ≡ true → SeesIt n
    sees_each n among e there = elim may as (λ _. Sees w now caller e.row) [
      | inl plain ↦ inl plain
      | inr mine ↦ inr (owns_it caller n 1 w.next w.jobs e sound.numbers there (has_each n numbers mine among))
    ]

    cancels : (n : ℕ) → is_among numbers n ≡ true → IsMine n true
    cancels n among = is_mine n (sees_each n among) (each_among (λ m. (step w now (ask caller (cancel_job m))).reply ≡ Done) numbers n done among)

    all_mine : list_all (λ m. has_job caller m (rows w)) numbers ≡ true
    all_mine = elim may as (λ _. list_all (λ m. has_job caller m (rows w)) numbers ≡ true) [
      | inl plain ↦ all_pass (λ m. has_job caller m (rows w)) numbers
          (each_map (λ m. (one w now caller m).reply ≡ Done) (λ m. has_job caller m (rows w) ≡ true) numbers (λ m is. let it = is_mine m (λ e there. inl plain) is in has_mine caller m w.jobs it.entry it.there it.own) done)
      | inr mine ↦ mine
    ]

    can_each : (k : Job) → Stands (rows w) k × (is_asked k ≡ true) → is_cancelable k ≡ true
    can_each k h =
        let it = cancels k.number (sym (one_of numbers k) ∙ (and_parts (bytes_eq k.owner caller) (is_one_of numbers k) h.1).1) in
        let same : k ≡ it.entry.row = same_Some k it.entry.row (sym h.0 ∙ row_at k.number w.jobs it.entry it.there) in
        ap is_cancelable same ∙ it.can

    all_can : list_all is_cancelable scene.jobs ≡ true
    all_can = all_pass is_cancelable scene.jobs (each_map (λ k. Stands (rows w) k × (is_asked k ≡ true)) (λ k. is_cancelable k ≡ true) scene.jobs can_each (each_both (Stands (rows w)) (λ k. is_asked k ≡ true) scene.jobs (all_stand w sound is_asked) (passed is_asked (rows w))))

    all_step : step w now (ask caller (cancel_my_jobs (Some numbers))) ≡ by w (all_canceled scene now scene.jobs)
    all_step = named_step true true (are_own caller numbers (rows w) ∙ all_mine) all_can

    pub named_done : (step w now (ask caller (cancel_my_jobs (Some numbers)))).reply ≡ Done
    named_done = ap (λ (s : Step). s.reply) all_step

    pub named_as_one : (n : ℕ) → is_among numbers n ≡ true → entry_at n (step w now (ask caller (cancel_my_jobs (Some numbers)))).world.jobs ≡ entry_at n (step w now (ask caller (cancel_job n))).world.jobs
    named_as_one n among = ap (λ (s : Step). entry_at n s.world.jobs) all_step ∙ as_one w now caller sound n is_asked (sees_each n among) tests
      where
        tests : (e : Entry) → entry_at n w.jobs ≡ Some e → is_asked e.row ≡ (bytes_eq e.row.owner caller && is_cancelable e.row)
        tests e there =
            let it = cancels n among in
            let same : it.entry ≡ e = same_Some it.entry e (sym it.there ∙ there) in
            ap (λ b. bytes_eq e.row.owner caller && b) (one_of numbers e.row ∙ ap (is_among numbers) (number_at n w.jobs e there) ∙ among)
            ∙ ap (λ b. bytes_eq e.row.owner caller && b) (sym it.can ∙ ap (λ (x : Entry). is_cancelable x.row) same)
