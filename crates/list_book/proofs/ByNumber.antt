-- Jobs whose numbers rise are found by few looks.
use Rattle.std.proofs.Common.{◌≡◌, ℕ, zero, suc, ◌<◌, ◌≤◌, ◌+◌, List, [], ◌∷◌, length, get_or, refl, ap, sym, ◌∙◌, arith, subst, Bool, true, false, cond, eq-eqb}
use Rattle.std.specs.Prelude.{nat_eq, nat_lt, filter, fold, option_map}
use Rattle.std.specs.List.{AllByRecursion as Each}
use Rattle.std.specs.List.Sorted.{IsPartitionedBy}
use Rattle.std.proofs.lemmas.Bool.{eqb-true, lt-ltb, ltb-true, ne_eqb}
use Rattle.std.proofs.lemmas.List.Elements.{All-from_recursion}
use Rattle.queue_core.specs.Order.{AreRising}
use Rattle.queue_types.specs.Event.{Change}
use Rattle.queue_core.specs.Sound.{IsSound, Rise}
use Rattle.queue_core.specs.World.{made_on, with_document, with_row}
use Rattle.list_book.specs.declared.lists.Lists.{Lists}
use Rattle.list_book.proofs.Put.{documents_is, with_rows_of}
use Rattle.queue_types.specs.declared.job.Job.{Job}
use Rattle.list_book.specs.declared.lists.KeptDocument.{KeptDocument}
use Rattle.list_book.specs.Lists.{IsTidy, entries_of, kept_of, put_row, put_rows, with_kept, world_of}

-- a job has none of the numbers below its own, and those behind it neither
each_above : (n : ℕ) (j : Job) (js : List Job) → n ≤ j.number → Each (λ k. j.number < k.number) js → Each (λ k. nat_eq k.number n ≡ false) js
each_above n j [] h each = tt
each_above n j (k ∷ js) h each = (ne_eqb k.number n (λ same. let more = each.0 in absurd (omega (arith, same, more, h))), each_above n j js h each.1)

pub filter_each : (same : Job → Bool) (js : List Job) → Each (λ j. same j ≡ false) js → filter same js ≡ []
filter_each same [] each = refl
filter_each same (j ∷ js) each = ap (λ b. cond b (j ∷ filter same js) (filter same js)) each.0 ∙ filter_each same js each.1

-- the job at i has this number, so no other has it
pub found : (js : List Job) (i n : ℕ) (d : Job) → AreRising js → i < length js → (get_or js i d).number ≡ n → filter (λ j. nat_eq j.number n) js ≡ get_or js i d ∷ []
found [] i n d rising h here = absurd (omega arith)
found (j ∷ js) zero n d rising h here =
    ap (λ b. cond b (j ∷ filter (λ k. nat_eq k.number n) js) (filter (λ k. nat_eq k.number n) js)) (eq-eqb _ _ here)
    ∙ ap (λ t. j ∷ t) (filter_each (λ k. nat_eq k.number n) js (each_above n j js (let e = here in omega (arith, e)) rising.0))
found (j ∷ js) (suc i) n d rising h here =
    let more = All-from_recursion (λ k. j.number < k.number) js rising.0 i d (omega arith) in
    ap (λ b. cond b (j ∷ filter (λ k. nat_eq k.number n) js) (filter (λ k. nat_eq k.number n) js)) (ne_eqb j.number n (λ same. absurd (omega (arith, same, here, more))))
    ∙ found js i n d rising.1 (omega arith) here

-- those before i have smaller numbers, those from i on none that is smaller, and the one at i another: so none has this number
pub absent : (js : List Job) (i n : ℕ) (d : Job) → AreRising js → ((k : ℕ) (e : Job) → k < i → (get_or js k e).number < n) → ((k : ℕ) (e : Job) → i ≤ k → k < length js → n ≤ (get_or js k e).number)
    → (i < length js → (get_or js i d).number ≡ n → ⊥) → Each (λ j. nat_eq j.number n ≡ false) js
absent [] i n d rising before behind other = tt
absent (j ∷ js) zero n d rising before behind other =
    let most = behind 0 j (omega arith) (omega arith) in
    (ne_eqb j.number n (other (omega arith)), each_above n j js most rising.0)
absent (j ∷ js) (suc i) n d rising before behind other =
    let less = before 0 j (omega arith) in (
      ne_eqb j.number n (λ same. absurd (omega (arith, same, less))),
      absent js i n d rising.1 (λ k e h. before (suc k) e (omega arith)) (λ k e l h. behind (suc k) e (omega arith) (omega arith)) (λ h. other (omega arith)),
    )

-- of rising numbers those that are smaller stand in front
pub smaller_front : (n : ℕ) (js : List Job) → AreRising js → IsPartitionedBy (λ j. nat_lt j.number n) js
smaller_front n [] rising a b d le lt e = absurd (omega arith)
smaller_front n (j ∷ js) rising zero zero d le lt e = e
smaller_front n (j ∷ js) rising zero (suc b) d le lt e =
    let more = All-from_recursion (λ k. j.number < k.number) js rising.0 b d (omega arith) in
    let less = ltb-true (get_or js b d).number n e in
    lt-ltb j.number n (omega (arith, more, less))
smaller_front n (j ∷ js) rising (suc a) zero d le lt e = absurd (omega arith)
smaller_front n (j ∷ js) rising (suc a) (suc b) d le lt e = smaller_front n js rising.1 a b d (omega arith) (omega arith) e

pub ne_from_lt : (a b : ℕ) → a < b → nat_eq a b ≡ false
ne_from_lt a b h = ne_eqb a b (λ same. absurd (omega (arith, same, h)))

-- ---- a sound queue's numbers rise, also in the middle of a change

first_of : (first next : ℕ) (ds : List KeptDocument) (js : List Job) (n : ℕ) → n < first → Rise first (entries_of ds js) next → Each (λ k. n < k.number) js
first_of first next ds [] n h rise = tt
first_of first next ds (j ∷ js) n h rise = let least = rise.0 in (omega (arith, least, h), first_of (j.number + 1) next ds js n (omega (arith, least, h)) rise.1)

pub rising_rows : (first next : ℕ) (ds : List KeptDocument) (js : List Job) → Rise first (entries_of ds js) next → AreRising js
rising_rows first next ds [] rise = tt
rising_rows first next ds (j ∷ js) rise = (first_of (j.number + 1) next ds js j.number (omega arith) rise.1, rising_rows (j.number + 1) next ds js rise.1)

kept_above : (n : ℕ) (x : Job) (js : List Job) → Each (λ k. n < k.number) (put_row js x) → Each (λ k. n < k.number) js
kept_above n x [] = λ each. tt
kept_above n x (j ∷ js) =
    elim (nat_eq j.number x.number) as (λ t. nat_eq j.number x.number ≡ t → Each (λ k. n < k.number) (cond t (x ∷ js) (j ∷ put_row js x)) → Each (λ k. n < k.number) (j ∷ js)) [
      | true ↦ λ e each. (subst (λ m. n < m) (sym (eqb-true _ _ e)) each.0, each.1)
      | false ↦ λ e each. (each.0, kept_above n x js each.1)
    ] refl

rose : (x : Job) (js : List Job) → AreRising (put_row js x) → AreRising js
rose x [] = λ rising. tt
rose x (j ∷ js) =
    elim (nat_eq j.number x.number) as (λ t. nat_eq j.number x.number ≡ t → AreRising (cond t (x ∷ js) (j ∷ put_row js x)) → AreRising (j ∷ js)) [
      | true ↦ λ e rising. (subst (λ m. Each (λ k. m < k.number) js) (sym (eqb-true _ _ e)) rising.0, rising.1)
      | false ↦ λ e rising. (kept_above j.number x js rising.0, rose x js rising.1)
    ] refl

-- where numbers rise once rows are put, they rose before
pub rose_before : (xs js : List Job) → AreRising (put_rows js xs) → AreRising js
rose_before [] js rising = rising
rose_before (x ∷ xs) js rising = rose x js (rose_before xs (put_row js x) rising)

-- the rows of a change rise where it makes a sound world
pub rising_made : (l : Lists) (c : Change) → IsTidy l.jobs.items l.documents.items → IsSound (made_on c (world_of l)) → AreRising (put_rows l.jobs.items c.jobs)
rising_made l c tidy sound =
    let rows : fold with_row (entries_of l.documents.items l.jobs.items) c.jobs ≡ entries_of l.documents.items (put_rows l.jobs.items c.jobs) = (with_rows_of l.documents.items c.jobs l.jobs.items tidy).0 in
    let all : with_document (fold with_row (entries_of l.documents.items l.jobs.items) c.jobs) c.document ≡ entries_of (with_kept l.documents.items (option_map kept_of c.document)) (put_rows l.jobs.items c.jobs) =
    ap (λ es. with_document es c.document) rows ∙ documents_is l.documents.items (put_rows l.jobs.items c.jobs) c.document in
    rising_rows 1 (made_on c (world_of l)).next (with_kept l.documents.items (option_map kept_of c.document)) (put_rows l.jobs.items c.jobs)
    (subst (λ es. Rise 1 es (made_on c (world_of l)).next) all sound.numbers)

pub rising_jobs : (l : Lists) → IsSound (world_of l) → AreRising l.jobs.items
rising_jobs l sound = rising_rows 1 l.next l.documents.items l.jobs.items sound.numbers

-- where no job is at the place of the number, none has it
pub nowhere : (js : List Job) (i n : ℕ) → AreRising js → ((k : ℕ) (e : Job) → k < i → (get_or js k e).number < n) → ((k : ℕ) (e : Job) → i ≤ k → k < length js → n ≤ (get_or js k e).number)
    → ((d : Job) → i < length js → (get_or js i d).number ≡ n → ⊥) → filter (λ j. nat_eq j.number n) js ≡ []
nowhere [] i n rising before behind other = refl
nowhere (j ∷ js) i n rising before behind other = filter_each (λ k. nat_eq k.number n) (j ∷ js) (absent (j ∷ js) i n j rising before behind (other j))
