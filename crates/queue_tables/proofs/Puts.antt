-- A world with one job put: what the statements leave is its content.
use Rattle.std.proofs.Common.{◌≡◌, inl, inr, ℕ, ℤ, pos, ◌+◌, ◌*◌, ◌-◌, ◌≤◌, ◌<◌, ◌+ℤ◌, List, [], ◌∷◌, ◌++◌, map, filter, length, flat_map, fold, take, drop, get_or, Bool, true, false, ◌==◌, if◌then◌else◌, Option, Some, None, refl, sym, ap, subst, ◌∙◌, arith, sum_by, bytes_eq, T}
use Rattle.std.proofs.lemmas.Int.{ints}
use Rattle.std.proofs.lemmas.Nat.{mul-le}
use Rattle.std.specs.Prelude.{neg_ℤ}
use Rattle.std.specs.FinMap.{entries, is_sorted, entries_sorted}
use Rattle.std.specs.List.{AllByRecursion as Each}
use Rattle.std.specs.Option.{option_map_or}
use Rattle.std.proofs.lemmas.Bool.{cases_Bool, eqb-true}
use Rattle.std.proofs.lemmas.List.Sums.{fold_more, fold-append}
use Rattle.std.proofs.Common.{take-append-drop}
use Rattle.sqlite.specs.Order.{Row}
use Rattle.sqlite.specs.State.{State}
use Rattle.sqlite.specs.Ops.{fits_i64}
use Rattle.queue_types.specs.declared.job.Job.{Job}
use Rattle.queue_types.specs.declared.document.Document.{Document}
use Rattle.queue_types.specs.Job.{owed, is_live}
use Rattle.queue_core.specs.World.{World, Entry, with_row, job_at, rows, text_cmp}
use Rattle.queue_core.specs.Balance.{AreAmounts}
use Rattle.queue_core.specs.Sound.{reserved, printed}
use Rattle.queue_tables.specs.Kept.{replaced}
use Rattle.queue_tables.specs.Values.{job_values}
use Rattle.queue_tables.specs.Content.{Content, Holds, content_of, document_rows, pieces_from}
use Rattle.queue_tables.specs.Steps.{IsSummable, CanAdd, is_numbered, is_named, with_sums, with_job_row, with_job_anew, with_put, with_puts}
use Rattle.queue_tables.proofs.Held.{like_holds, same_order}
use Rattle.queue_tables.proofs.Entries.{job_rows, put_new, rows_in, put_in_place, row_at, not_there, sum_put, sum_bound, found_rows, length-fold}
use Rattle.queue_tables.proofs.Accounts.{account_rows, added_at, sums_put, sums_of, sums_alike, one_account, fits, same_text, text_itself}

-- ---- rows

pub rows_twice : (es : List Entry) → map job_values (rows_in es) ≡ job_rows es
rows_twice [] = refl
rows_twice (e ∷ es) = ap (λ (rs : List Row). job_values e.row ∷ rs) (rows_twice es)

-- what is made of the documents of each job stays
pub parts_put : (f : ℕ → List Document → List Row) → ((n : ℕ) → f n [] ≡ []) → (j : Job) (es : List Entry)
    → flat_map (λ (e : Entry). f e.row.number e.documents) (with_row es j) ≡ flat_map (λ (e : Entry). f e.row.number e.documents) es
parts_put f none j [] = rw (none j.number) refl
parts_put f none j (e ∷ es) = elim (cases_Bool (e.row.number == j.number)) [
  | inl same ↦ rw same (ap (λ (n : ℕ). f n e.documents ++ flat_map (λ (e : Entry). f e.row.number e.documents) es) (sym (eqb-true e.row.number j.number same)))
  | inr apart ↦ rw apart (ap (λ (rs : List Row). f e.row.number e.documents ++ rs) (parts_put f none j es))
]

-- ---- sums

pub turned : (a b : List ℕ) → bytes_eq a b ≡ bytes_eq b a
turned a b = elim (cases_Bool (bytes_eq b a)) [
  | inl same ↦ rw same (subst (λ k. bytes_eq a k ≡ true) (sym (same_text b a same)) (text_itself a))
  | inr apart ↦ rw apart (elim (cases_Bool (bytes_eq a b)) [
    | inl same ↦ absurd (let e : bytes_eq b a ≡ true = subst (λ k. bytes_eq b k ≡ true) (sym (same_text a b same)) (text_itself b) in cc)
    | inr e ↦ e
  ])
]

once_more : (b : Bool) (r s k : ℕ) → s ≡ r + (if b then k else 0) → (if b then pos r +ℤ pos k else pos r) ≡ pos s
once_more true r s k e = let it : s ≡ r + k = e in grind (arith, ints)
once_more false r s k e = ap pos (let it : s ≡ r + 0 = e in omega (arith, it))

both_moved : (b d : Bool) (r s o k : ℕ) → s + (if d then o else 0) ≡ r + (if b then k else 0)
    → (if b then (if d then pos r +ℤ neg_ℤ (pos o) else pos r) +ℤ pos k else (if d then pos r +ℤ neg_ℤ (pos o) else pos r)) ≡ pos s
both_moved true true r s o k e = let it : s + o ≡ r + k = e in omega (arith, ints, it)
both_moved true false r s o k e = let it : s + 0 ≡ r + k = e in omega (arith, ints, it)
both_moved false true r s o k e = let it : s + o ≡ r + 0 = e in omega (arith, ints, it)
both_moved false false r s o k e = let it : s + 0 ≡ r + 0 = e in omega (arith, ints, it)

-- an amount of a job, in its owner's account
abbrev pub of_account : (Job → ℕ) → List ℕ → Job → ℕ
of_account f a k = if bytes_eq k.owner a then f k else 0

-- one amount of the accounts' sums over the jobs
module _ (f : Job → ℕ) (j : Job) (w : World) where
  pub sum_new : (a : List ℕ) → job_at j.number (rows w) ≡ None
      → added_at j.owner (pos (f j)) (λ a. pos (sum_by (of_account f a) (rows w))) a ≡ pos (sum_by (of_account f a) (rows (with_put j w)))
  sum_new a none =
      let s : sum_by (of_account f a) (rows (with_put j w)) + option_map_or (of_account f a) (job_at j.number (rows w)) 0 ≡ sum_by (of_account f a) (rows w) + of_account f a j = sum_put (of_account f a) j w.jobs in
      let t : sum_by (of_account f a) (rows (with_put j w)) + 0 ≡ sum_by (of_account f a) (rows w) + of_account f a j = rw none at s in
      rw (turned a j.owner) (once_more (bytes_eq j.owner a) (sum_by (of_account f a) (rows w)) (sum_by (of_account f a) (rows (with_put j w))) (f j) (omega (arith, t)))

  pub sum_anew : (a : List ℕ) (was : Job) → job_at j.number (rows w) ≡ Some was
      → added_at j.owner (pos (f j)) (added_at was.owner (neg_ℤ (pos (f was))) (λ a. pos (sum_by (of_account f a) (rows w)))) a ≡ pos (sum_by (of_account f a) (rows (with_put j w)))
  sum_anew a was there =
      let s : sum_by (of_account f a) (rows (with_put j w)) + option_map_or (of_account f a) (job_at j.number (rows w)) 0 ≡ sum_by (of_account f a) (rows w) + of_account f a j = sum_put (of_account f a) j w.jobs in
      let t : sum_by (of_account f a) (rows (with_put j w)) + of_account f a was ≡ sum_by (of_account f a) (rows w) + of_account f a j = rw there at s in
      rw (turned a j.owner, turned a was.owner) (both_moved (bytes_eq j.owner a) (bytes_eq was.owner a) (sum_by (of_account f a) (rows w)) (sum_by (of_account f a) (rows (with_put j w))) (f was) (f j) t)

-- ---- 64 bits

fits_more : (r k : ℕ) → r ≤ 214748364800000000 → k ≤ 100000000 → fits_i64 (pos r +ℤ pos k) ≡ true
fits_more r k low less = fits (pos r +ℤ pos k) (omega (arith, ints)) (omega (arith, ints))

fits_less : (r k : ℕ) → r ≤ 214748364800000000 → k ≤ 100000000 → fits_i64 (pos r +ℤ neg_ℤ (pos k)) ≡ true
fits_less r k low less = fits (pos r +ℤ neg_ℤ (pos k)) (omega (arith, ints)) (omega (arith, ints))

fits_both : (b : Bool) (r o k : ℕ) → r ≤ 214748364800000000 → o ≤ 100000000 → k ≤ 100000000 → fits_i64 ((if b then pos r +ℤ neg_ℤ (pos o) else pos r) +ℤ pos k) ≡ true
fits_both true r o k low less more = fits ((pos r +ℤ neg_ℤ (pos o)) +ℤ pos k) (omega (arith, ints)) (omega (arith, ints))
fits_both false r o k low less more = fits_more r k low more

-- ---- amounts

small_owed : (live hold : Bool) (i k n : ℕ) → i ≤ 100000 → k ≤ 999 → (if live then (if hold then 0 else i * k - n) else 0) ≤ 100000000
small_owed true true i k n low less = omega arith
small_owed true false i k n low less = let it : i * k ≤ 100000 * 999 = mul-le i k 100000 999 low less in omega (arith, it)
small_owed false hold i k n low less = omega arith

pub owed_is_small : (j : Job) → AreAmounts j → owed j ≤ 100000000
owed_is_small j a = small_owed (is_live j) j.hold j.impressions j.copies j.count a.impressions a.copies

small_if : (b : Bool) (n : ℕ) → n ≤ 100000000 → (if b then n else 0) ≤ 100000000
small_if true n low = low
small_if false n low = omega arith

pub sum_fits : (f : Job → ℕ) → ((j : Job) → AreAmounts j → f j ≤ 100000000) → (a : List ℕ) (w : World) → IsSummable w.jobs → sum_by (of_account f a) (rows w) ≤ 214748364800000000
sum_fits f small a w s =
    let b = sum_bound (of_account f a) (λ j it. small_if (bytes_eq j.owner a) (f j) (small j it)) w.jobs s.amounts in
    let few : length w.jobs ≤ 2147483648 = s.few in
    omega (arith, b, few)

amounts_at : (n : ℕ) (was : Job) (es : List Entry) → Each (λ e. AreAmounts e.row) es → job_at n (rows_in es) ≡ Some was → AreAmounts was × (was.number ≡ n)
amounts_at n was [] all there = absurd cc
amounts_at n was (e ∷ es) all there = elim (cases_Bool (e.row.number == n)) [
  | inl same ↦ let is : e.row ≡ was = (let some : ◌≡◌ {A = Option Job} (Some e.row) (Some was) = rw same at there in cc) in (subst AreAmounts is all.0, subst (λ (k : Job). k.number ≡ n) is (eqb-true e.row.number n same))
  | inr apart ↦ amounts_at n was es all.1 (rw apart at there)
]

-- ---- CanAdd

can_add : (name : List ℕ) (x y : ℤ) (r p : List ℕ → ℤ) (es : List (List ℕ × ℤ)) (c : Content) → T (is_sorted text_cmp es) → c.accounts ≡ account_rows r p es
    → fits_i64 (r name +ℤ x) ≡ true → fits_i64 (p name +ℤ y) ≡ true → CanAdd name x y c
can_add name x y r p es c rise is first second = elim (one_account name r p es rise) [
  | inl none ↦ inl (ap (filter (is_named name)) is ∙ none)
  | inr one ↦ inr (record { named = name; free = one.0; set_aside = r name; done = p name; once = ap (filter (is_named name)) is ∙ one.1 }, first, second)
]

abbrev pages_in : (Job → ℕ) → World → List ℕ → ℤ
pages_in f w a = pos (sum_by (of_account f a) (rows w))

abbrev less : (Job → ℕ) → Job → World → List ℕ → ℤ
less f was w = added_at was.owner (neg_ℤ (pos (f was))) (pages_in f w)

pub count_is_small : (j : Job) → AreAmounts j → j.count ≤ 100000000
count_is_small j a = a.count

-- ---- a new job

pub can_enter : (j : Job) (w : World) → IsSummable w.jobs → AreAmounts j → CanAdd j.owner (pos (owed j)) (pos j.count) (with_job_row (job_values j) (content_of w))
can_enter j w s a = can_add j.owner (pos (owed j)) (pos j.count) (pages_in owed w) (pages_in (λ k. k.count) w) (entries w.free) (with_job_row (job_values j) (content_of w)) (entries_sorted w.free) refl
    (fits_more (reserved j.owner w) (owed j) (sum_fits owed owed_is_small j.owner w s) (owed_is_small j a))
    (fits_more (printed j.owner w) j.count (sum_fits (λ k. k.count) count_is_small j.owner w s) a.count)

pub entered : (j : Job) (w : World) (s : State) → job_at j.number (rows w) ≡ None → Holds (with_sums j.owner (pos (owed j)) (pos j.count) (with_job_row (job_values j) (content_of w))) s → Holds (content_of (with_put j w)) s
entered j w s none has = like_holds (with_sums j.owner (pos (owed j)) (pos j.count) (with_job_row (job_values j) (content_of w))) (content_of (with_put j w)) s (record {
  meta = same_order refl;
  jobs = same_order (ap (λ (rs : List Row). rs ++ job_values j ∷ []) (rows_twice w.jobs) ∙ sym (put_new j w.jobs (not_there j.number w.jobs none)) ∙ sym (rows_twice (with_row w.jobs j)));
  documents = same_order (sym (parts_put (λ n ds. document_rows n 1 ds) (λ n. refl) j w.jobs));
  pieces = same_order (sym (parts_put (λ n ds. pieces_from n 1 ds) (λ n. refl) j w.jobs));
  accounts = same_order (sums_of j.owner (pos (owed j)) (pos j.count) (pages_in owed w) (pages_in (λ k. k.count) w) (entries w.free)
      ∙ sums_alike (added_at j.owner (pos (owed j)) (pages_in owed w)) (added_at j.owner (pos j.count) (pages_in (λ k. k.count) w)) (pages_in owed (with_put j w)) (pages_in (λ k. k.count) (with_put j w))
      (λ a. sum_new owed j w a none) (λ a. sum_new (λ k. k.count) j w a none) (entries w.free));
  grants = same_order refl;
  reports = same_order refl;
  policy = same_order refl;
  operators = same_order refl;
}) has

-- ---- a job that is there

module _ (j was : Job) (w : World) (s : IsSummable w.jobs) (there : job_at j.number (rows w) ≡ Some was) where
  abbrev pub without : Content
  without = with_sums was.owner (neg_ℤ (pos (owed was))) (neg_ℤ (pos was.count)) (with_job_anew j (content_of w))

  pub one_row : filter (is_numbered j.number) (content_of w).jobs ≡ job_values was ∷ []
  one_row = ap (filter (is_numbered j.number)) (rows_twice w.jobs) ∙ row_at j.number w.jobs s.distinct ∙ ap found_rows there

  pub number_is : was.number ≡ j.number
  number_is = (amounts_at j.number was w.jobs s.amounts there).1

  was_amounts : AreAmounts was
  was_amounts = (amounts_at j.number was w.jobs s.amounts there).0

  pub can_return : CanAdd was.owner (neg_ℤ (pos (owed was))) (neg_ℤ (pos was.count)) (with_job_anew j (content_of w))
  can_return = can_add was.owner (neg_ℤ (pos (owed was))) (neg_ℤ (pos was.count)) (pages_in owed w) (pages_in (λ k. k.count) w) (entries w.free) (with_job_anew j (content_of w)) (entries_sorted w.free) refl
      (fits_less (reserved was.owner w) (owed was) (sum_fits owed owed_is_small was.owner w s) (owed_is_small was was_amounts))
      (fits_less (printed was.owner w) was.count (sum_fits (λ k. k.count) count_is_small was.owner w s) was_amounts.count)

  without_is : without.accounts ≡ account_rows (less owed was w) (less (λ k. k.count) was w) (entries w.free)
  without_is = sums_of was.owner (neg_ℤ (pos (owed was))) (neg_ℤ (pos was.count)) (pages_in owed w) (pages_in (λ k. k.count) w) (entries w.free)

  pub can_take : AreAmounts j → CanAdd j.owner (pos (owed j)) (pos j.count) without
  can_take a = can_add j.owner (pos (owed j)) (pos j.count) (less owed was w) (less (λ k. k.count) was w) (entries w.free) without (entries_sorted w.free) without_is
      (fits_both (bytes_eq j.owner was.owner) (reserved j.owner w) (owed was) (owed j) (sum_fits owed owed_is_small j.owner w s) (owed_is_small was was_amounts) (owed_is_small j a))
      (fits_both (bytes_eq j.owner was.owner) (printed j.owner w) was.count j.count (sum_fits (λ k. k.count) count_is_small j.owner w s) was_amounts.count a.count)

  pub put_anew : (st : State) → Holds (with_sums j.owner (pos (owed j)) (pos j.count) without) st → Holds (content_of (with_put j w)) st
  put_anew st has = like_holds (with_sums j.owner (pos (owed j)) (pos j.count) without) (content_of (with_put j w)) st (record {
    meta = same_order refl;
    jobs = same_order (ap (replaced (is_numbered j.number) (λ v. job_values j)) (rows_twice w.jobs) ∙ sym (put_in_place j was w.jobs s.distinct there) ∙ sym (rows_twice (with_row w.jobs j)));
    documents = same_order (sym (parts_put (λ n ds. document_rows n 1 ds) (λ n. refl) j w.jobs));
    pieces = same_order (sym (parts_put (λ n ds. pieces_from n 1 ds) (λ n. refl) j w.jobs));
    accounts = same_order (ap (replaced (is_named j.owner) (sums_put (pos (owed j)) (pos j.count))) without_is
        ∙ sums_of j.owner (pos (owed j)) (pos j.count) (less owed was w) (less (λ k. k.count) was w) (entries w.free)
        ∙ sums_alike (added_at j.owner (pos (owed j)) (less owed was w)) (added_at j.owner (pos j.count) (less (λ k. k.count) was w)) (pages_in owed (with_put j w)) (pages_in (λ k. k.count) (with_put j w))
        (λ a. sum_anew owed j w a was there) (λ a. sum_anew (λ k. k.count) j w a was there) (entries w.free));
    grants = same_order refl;
    reports = same_order refl;
    policy = same_order refl;
    operators = same_order refl;
  }) has

-- ---- one job after another

next_put : (js : List Job) (k : ℕ) (x : Job) (es : List Entry) → k < length js → x ≡ get_or js k x → fold with_row es (take (k + 1) js) ≡ with_row (fold with_row es (take k js)) x
next_put js k x es below is = fold_more with_row es js k x below ∙ ap (with_row (fold with_row es (take k js))) (sym is)

pub few_yet : (js : List Job) (k : ℕ) (es : List Entry) → length (fold with_row es (take k js)) ≤ length (fold with_row es js)
few_yet js k es =
    subst (λ (n : List Entry). length (fold with_row es (take k js)) ≤ length n)
    (sym (fold-append with_row es (take k js) (drop k js)) ∙ ap (fold with_row es) (take-append-drop k js)) (length-fold (drop k js) (fold with_row es (take k js)))

pub put_more : (js : List Job) (k : ℕ) (x : Job) (w : World) (s : State) → k < length js → x ≡ get_or js k x → Holds (content_of (with_put x (with_puts (take k js) w))) s → Holds (content_of (with_puts (take (k + 1) js) w)) s
put_more js k x w s below is has = subst (λ (es : List Entry). Holds (content_of (record w { jobs = es })) s) (sym (next_put js k x w.jobs below is)) has

pub few_more : (js : List Job) (k : ℕ) (x : Job) (es : List Entry) → k < length js → x ≡ get_or js k x → length (fold with_row es js) ≤ 2147483648 → length (with_row (fold with_row es (take k js)) x) ≤ 2147483648
few_more js k x es below is few =
    let more = few_yet js (k + 1) es in
    subst (λ (n : List Entry). length n ≤ 2147483648) (next_put js k x es below is) (omega (arith, more, few))
