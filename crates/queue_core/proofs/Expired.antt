-- Held jobs expire: the world stays sound, and its jobs move along the allowed pairs.
use Rattle.std.proofs.Common.{◌≡◌, ℕ, ℤ, pos, ◌+ℤ◌, ◌-ℤ◌, ◌+◌, ◌<◌, List, [], ◌∷◌, ◌++◌, map, refl, ap, sym, ◌∙◌, arith, subst, Bool, true, false, cond, ◌||◌}
use Rattle.std.specs.Prelude.{Option, Some, None, nat_eq, bytes_eq, option_map, filter, fold}
use Rattle.std.specs.List.{list_any, AllByRecursion as Each}
use Rattle.std.specs.FinMap.{FinMap, get, get-insert, same_map, slice_cmp-IsAntisymmetric, nat_cmp-IsAntisymmetric}
use Rattle.std.specs.Cmp.Lexicographic.{nat_list_cmp_total}
use Rattle.std.proofs.lemmas.Cmp.{nat_list_eq_equiv}
use Rattle.std.proofs.lemmas.Int.{ints}
use Rattle.std.proofs.lemmas.List.Sums.{sum_by-cons}
use Rattle.std.proofs.lemmas.Map.Text.{is_eq-slice_cmp}
use Rattle.queue_types.specs.Job.{owed, state}
use Rattle.queue_types.specs.Event.{expire}
use Rattle.queue_core.specs.World.{World, rows, cut, made_on, with_row, text_cmp, job_at, found_row, put_free, has_expired, owners, rows_of_accounts}
use Rattle.queue_core.specs.Limits.{IsMoment}
use Rattle.queue_core.specs.Machine.{expired, freed, expire_row}
use Rattle.queue_core.specs.Order.{AreRising}
use Rattle.queue_core.specs.Runs.{Follows}
use Rattle.queue_core.specs.Sound.{IsSound, reserved_for}
use Rattle.queue_types.specs.declared.job.Job.{Job}
use Rattle.queue_types.specs.declared.event.FreeRow.{FreeRow}
use Rattle.queue_core.proofs.ExpiredJobs.{expired_replaces, expired_keeps_documents, expired_stays_idle, expired_follows, expired_state, among_owners}
use Rattle.queue_core.proofs.Keep.{at, each-map, ne_from_lt, same_key}
use Rattle.queue_core.proofs.Many.{rising, each_both, at_its_number, passed, many_move}
use Rattle.queue_core.proofs.Moves.{stays, at-with_row}
use Rattle.queue_core.proofs.Ordered.{each-filter}
use Rattle.queue_core.proofs.Orders.{rising-filter}
use Rattle.queue_core.proofs.Own.{Keeps, moved, moved_get}
use Rattle.queue_core.proofs.Rows.{row_keeps, row_entries, with_jobs, back, kept_amount}

-- ---- what comes back

-- a job that expires gives back what is set aside for it
gives_owed : (b : Bool) (o c : ℕ) → cond b (pos (o + c) -ℤ pos (0 + c)) (pos 0) ≡ pos (cond b o 0)
gives_owed true o c = omega (arith, ints)
gives_owed false o c = refl

back_is : (now : ℕ) (j : Job) (q : List ℕ) → back (expired now j) j q ≡ pos (cond (bytes_eq j.owner q) (owed j) 0)
back_is now j q = gives_owed (bytes_eq j.owner q) (owed j) j.count

one_more : (q : List ℕ) (j : Job) (js : List Job) → reserved_for q (j ∷ js) ≡ cond (bytes_eq j.owner q) (owed j) 0 + reserved_for q js
one_more q j js = sum_by-cons (λ (k : Job). cond (bytes_eq k.owner q) (owed k) 0) j js

twice : (z : ℤ) (a b c : ℕ) (o : Option ℤ) → z ≡ pos a → c ≡ a + b → option_map (λ f. f +ℤ pos c) o ≡ option_map (λ f. f +ℤ pos b) (option_map (λ f. f +ℤ z) o)
twice z a b c None is sum = refl
twice z a b c (Some f) is sum = ap Some (omega (arith, ints))

-- ---- one after the other

-- it stands in the world, on hold or open
abbrev IsHeldAt : World → Job → Type 0
IsHeldAt w j = (at j.number w.jobs ≡ Some j) × (state j ≡ 4)

-- a row of a smaller number leaves the others there
still_there : (w : World) (m : FinMap text_cmp ℤ) (x j : Job) (ks : List Job) → x.number ≡ j.number → Each (λ k. j.number < k.number) ks → Each (IsHeldAt w) ks → Each (IsHeldAt (with_jobs w m (with_row w.jobs x))) ks
still_there w m x j [] same above each = tt
still_there w m x j (k ∷ ks) same above each =
    let here : at k.number (with_row w.jobs x) ≡ Some k =
    at-with_row k.number x w.jobs ∙ ap (λ b. cond b (Some x) (at k.number w.jobs)) (ap (λ n. nat_eq n k.number) same ∙ ne_from_lt j.number k.number above.0) ∙ each.0.0 in
    ((here, each.0.1), still_there w m x j ks same above.1 each.1)

all_sound : (now : ℕ) → IsMoment now → (js : List Job) (w : World) (m : FinMap text_cmp ℤ) → IsSound w → AreRising js → Each (IsHeldAt w) js
    → ((q : List ℕ) → get m q ≡ option_map (λ f. f +ℤ pos (reserved_for q js)) (get w.free q))
    → IsSound (with_jobs w m (fold with_row w.jobs (map (expired now) js)))
all_sound now moment [] w m sound rise each free =
    let same : w.free ≡ m = same_map nat_list_cmp_total (slice_cmp-IsAntisymmetric nat_cmp-IsAntisymmetric) _ _ (λ q. kept_amount (get w.free q) ∙ sym (free q)) in
    subst (λ t. IsSound (with_jobs w t w.jobs)) same sound
all_sound now moment (j ∷ js) w m sound rise each free =
    let x = expired now j in
    let back_now = moved w.free x.owner (j ∷ []) (x ∷ []) in
    let got : (q : List ℕ) → get back_now q ≡ option_map (λ f. f +ℤ back x j q) (get w.free q) = moved_get w.free j x [] refl in
    let next : IsSound (with_jobs w back_now (with_row w.jobs x)) =
    row_keeps w back_now (with_row w.jobs x) x j sound each.0.0 (expired_replaces now j) refl (row_entries w.jobs x j each.0.0 (expired_keeps_documents now j moment) sound.entries) (λ none h. expired_stays_idle now j h) got in
    all_sound now moment js (with_jobs w back_now (with_row w.jobs x)) m next rise.1 (still_there w back_now x j js refl rise.0 each.1)
    (λ q.
    free q
    ∙ twice (back x j q) (cond (bytes_eq j.owner q) (owed j) 0) (reserved_for q js) (reserved_for q (j ∷ js)) (get w.free q) (back_is now j q) (one_more q j js)
    ∙ ap (option_map (λ f. f +ℤ pos (reserved_for q js))) (sym (got q)))

each_follows : (now : ℕ) (w : World) (js : List Job) → Each (IsHeldAt w) js → Each (λ x. Follows (at x.number w.jobs) (Some x)) (map (expired now) js)
each_follows now w [] each = tt
each_follows now w (j ∷ js) each = (subst (λ o. Follows o (Some (expired now j))) (sym each.0.0) (expired_follows now j each.0.1), each_follows now w js each.1)

-- ---- the accounts

-- the sums of an account q, where those of a list are put with an amount more; how many times it stands in the list doesn't matter
module _ (g : List ℕ → ℕ) (m : FinMap text_cmp ℤ) (q : List ℕ) where
  abbrev sum : Option ℤ
  sum = option_map (λ f. f +ℤ pos (g q)) (get m q)

  -- where it was put, its sum, and else what it has
  abbrev put_if : Bool → Option ℤ
  put_if s = cond s sum (get m q)

  joined : (s t u : Bool) → put_if ((s || t) || u) ≡ put_if (s || (t || u))
  joined true t u = refl
  joined false t u = refl

  no_sum : (s t : Bool) → get m q ≡ None → put_if s ≡ put_if t
  no_sum s t none = both s ∙ sym (both t)
    where
      both : (s : Bool) → put_if s ≡ None
      both true = ap (option_map (λ f. f +ℤ pos (g q))) none
      both false = none

  still : (s : Bool) → put_if s ≡ put_if (s || false)
  still true = refl
  still false = refl

  once : (s : Bool) → sum ≡ put_if (s || true)
  once true = refl
  once false = refl

  -- an account that isn't there is not put
  absent : (a : List ℕ) (o : Option ℤ) (s t : Bool) → bytes_eq q a ≡ t → get m a ≡ None → o ≡ put_if s → o ≡ put_if (s || t)
  absent a o s true same none before = before ∙ no_sum s (s || true) (ap (get m) (same_key q a same) ∙ none)
  absent a o s false other none before = before ∙ still s

  present : (a : List ℕ) (f : ℤ) (o : Option ℤ) (s t : Bool) → bytes_eq q a ≡ t → get m a ≡ Some f → o ≡ put_if s → cond t (Some (f +ℤ pos (g a))) o ≡ put_if (s || t)
  present a f o s true same there before =
      let here : sum ≡ Some (f +ℤ pos (g a)) = ap (λ p. option_map (λ f. f +ℤ pos (g p)) (get m p)) (same_key q a same) ∙ ap (option_map (λ f. f +ℤ pos (g a))) there in
      sym here ∙ once s
  present a f o s false other there before = before ∙ still s

  module _ (h : FreeRow → FreeRow) (is : (a : List ℕ) (f : ℤ) → h (record { account = a; free = f }) ≡ record { account = a; free = f +ℤ pos (g a) }) where
    -- one account, and then the rest
    put_one : (a : List ℕ) (rows : List FreeRow) (u : Bool) (n : FinMap text_cmp ℤ) (s : Bool) (o : Option ℤ) → get m a ≡ o → get n q ≡ put_if s
        → ((k : FinMap text_cmp ℤ) (t : Bool) → get k q ≡ put_if t → get (fold put_free k (map h rows)) q ≡ put_if (t || u))
        → get (fold put_free n (map h (found_row a o ++ rows))) q ≡ put_if (s || (bytes_eq q a || u))
    put_one a rows u n s None none before rest = rest n (s || bytes_eq q a) (absent a (get n q) s (bytes_eq q a) refl none before) ∙ joined s (bytes_eq q a) u
    put_one a rows u n s (Some f) there before rest =
        ap (λ row. get (fold put_free (put_free n row) (map h rows)) q) (is a f)
        ∙ rest (put_free n (record { account = a; free = f +ℤ pos (g a) })) (s || bytes_eq q a)
        (get-insert nat_list_cmp_total n a (f +ℤ pos (g a)) q ∙ ap (λ t. cond t (Some (f +ℤ pos (g a))) (get n q)) (is_eq-slice_cmp q a) ∙ present a f (get n q) s (bytes_eq q a) refl there before)
        ∙ joined s (bytes_eq q a) u

    put_each : (names : List (List ℕ)) (n : FinMap text_cmp ℤ) (s : Bool) → get n q ≡ put_if s → get (fold put_free n (map h (rows_of_accounts m names))) q ≡ put_if (s || list_any (λ a. bytes_eq q a) names)
    put_each [] n s before = before ∙ still s
    put_each (a ∷ names) n s before = put_one a (rows_of_accounts m names) (list_any (λ a. bytes_eq q a) names) n s (get m a) refl before (λ k t is. put_each names k t is)

-- nothing is set aside for one who owns none of them
none_owed : (q : List ℕ) (js : List Job) → list_any (λ j. bytes_eq q j.owner) js ≡ false → reserved_for q js ≡ 0
none_owed q [] none = refl
none_owed q (j ∷ js) none =
    elim (bytes_eq q j.owner) as (λ t. bytes_eq q j.owner ≡ t → (t || list_any (λ j. bytes_eq q j.owner) js) ≡ false → reserved_for q (j ∷ js) ≡ 0) [
      | true ↦ λ is none. absurd (cc)
      | false ↦ λ is none.
          let apart : bytes_eq j.owner q ≡ false = nat_list_eq_equiv.symm j.owner q ∙ is in
          let step : reserved_for q (j ∷ js) ≡ cond false (owed j) 0 + reserved_for q js = one_more q j js ∙ ap (λ t. cond t (owed j) 0 + reserved_for q js) apart in
          let rest = none_owed q js none in
          omega arith
    ] refl none

-- the accounts after a sweep that ends these jobs
pub accounts_move : (m : FinMap text_cmp ℤ) (js : List Job) (q : List ℕ) → get (fold put_free m (map (freed js) (rows_of_accounts m (owners js)))) q ≡ option_map (λ f. f +ℤ pos (reserved_for q js)) (get m q)
accounts_move m js q =
    put_each (λ a. reserved_for a js) m q (freed js) (λ a f. refl) (owners js) m false refl
    ∙ ap (λ t. cond t (option_map (λ f. f +ℤ pos (reserved_for q js)) (get m q)) (get m q)) (among_owners q [] js)
    ∙ elim (list_any (λ j. bytes_eq q j.owner) js) as (λ t. list_any (λ j. bytes_eq q j.owner) js ≡ t → cond t (option_map (λ f. f +ℤ pos (reserved_for q js)) (get m q)) (get m q) ≡ option_map (λ f. f +ℤ pos (reserved_for q js)) (get m q)) [
      | true ↦ λ is. refl
      | false ↦ λ is. kept_amount (get m q) ∙ ap (λ n. option_map (λ f. f +ℤ pos n) (get m q)) (sym (none_owed q js is))
    ] refl

-- ---- the event

module _ (w : World) (now : ℕ) (sound : IsSound w) (moment : IsMoment now) where
  abbrev ending : List Job
  ending = filter (has_expired w.settings.keep now) (rows w)

  in_turn : AreRising (rows w)
  in_turn = rising 1 w.next w.jobs sound.numbers

  held : Each (IsHeldAt w) ending
  held = each_both (λ j. at j.number w.jobs ≡ Some j) (λ j. state j ≡ 4) ending
      (each-filter (λ j. job_at j.number (rows w) ≡ Some j) (has_expired w.settings.keep now) (rows w) (at_its_number (rows w) in_turn))
      (each-map (λ j. has_expired w.settings.keep now j ≡ true) (λ j. state j ≡ 4) ending (expired_state w.settings.keep now) (passed (has_expired w.settings.keep now) (rows w)))

  pub expired_keeps : Keeps w (made_on (expire_row (cut w now expire) now).change w)
  expired_keeps = record {
    sound = all_sound now moment ending w (fold put_free w.free (map (freed ending) (rows_of_accounts w.free (owners ending)))) sound (rising-filter (has_expired w.settings.keep now) (rows w) in_turn) held (accounts_move w.free ending);
    moves = many_move w.jobs w.jobs (map (expired now) ending) (stays w) (each_follows now w ending held);
  }
