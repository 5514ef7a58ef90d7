-- What stays true of a world as one of its rows changes; and what its lemmas take of keys and options.
use Rattle.std.proofs.Common.{◌≡◌, ℕ, ◌+◌, ◌≤◌, ◌<◌, List, [], ◌∷◌, map, refl, ap, arith, rules, subst, Bool, true, false, cond}
use Rattle.std.specs.Prelude.{Option, Some, None, IsSome, is_some, bytes_eq, nat_eq, sum_by}
use Rattle.std.specs.List.{AllByRecursion as Each}
use Rattle.std.proofs.lemmas.Bool.{ne_eqb}
use Rattle.std.proofs.lemmas.Bool.Decides.{nat_tests}
use Rattle.std.proofs.lemmas.List.Sums.{sum_by-cons}
use Rattle.std.proofs.lemmas.Slice.Eq.{bytes_eq-Decides}
use Rattle.queue_core.specs.World.{Entry, job_at, with_row}
use Rattle.queue_core.specs.Sound.{Rise}
use Rattle.queue_types.specs.declared.job.Job.{Job}

-- ---- keys and options

pub same_key : (a b : List ℕ) → bytes_eq a b ≡ true → a ≡ b
same_key a b e = search (rules, bytes_eq-Decides)

pub ne_from_lt : (a b : ℕ) → a < b → nat_eq a b ≡ false
ne_from_lt a b less = ne_eqb a b (λ e. omega arith)

pub ne_from_gt : (a b : ℕ) → b < a → nat_eq a b ≡ false
ne_from_gt a b greater = ne_eqb a b (λ e. omega arith)

pub no_value : {A : Type 0} (b : Bool) (x : A) (o : Option A) → cond b (Some x) o ≡ None → (b ≡ false) × (o ≡ None)
no_value true x o e = absurd (cc)
no_value false x o e = (refl, e)

pub some_step : (b : Bool) (y : Job) (o p : Option Job) → (IsSome o → IsSome p) → IsSome (cond b (Some y) o) → IsSome (cond b (Some y) p)
some_step true y o p f some = refl
some_step false y o p f some = f some

-- ---- the rows of a world

abbrev pub at : ℕ → List Entry → Option Job
at n es = job_at n (map (λ e. e.row) es)

pub each-map : {X : Type 0} (P Q : X → Type 0) (xs : List X) → ((x : X) → P x → Q x) → Each P xs → Each Q xs
each-map P Q [] f all = tt
each-map P Q (x ∷ xs) f all = (f x all.0, each-map P Q xs f all.1)

-- Each of another predicate, where that of the changed row follows from the old row's
pub each-with_row : (P Q : Entry → Type 0) (x j : Job) (es : List Entry) → at x.number es ≡ Some j → ((e : Entry) → P e → Q e) → ((e : Entry) → e.row ≡ j → P e → Q (record e { row = x })) → Each P es → Each Q (with_row es x)
each-with_row P Q x j [] there other here all = absurd (cc)
each-with_row P Q x j (e ∷ es) there other here all =
    elim (nat_eq e.row.number x.number) as (λ t. cond t (Some e.row) (at x.number es) ≡ Some j → ((e : Entry) → P e → Q e) → ((e : Entry) → e.row ≡ j → P e → Q (record e { row = x })) → Each P (e ∷ es) → Each Q (cond t (record e { row = x } ∷ es) (e ∷ with_row es x))) [
      | true ↦ λ there other here all. (here e (cc) all.0, each-map P Q es other all.1)
      | false ↦ λ there other here all. (other e all.0, each-with_row P Q x j es there other here all.1)
    ] there other here all

-- the numbers still rise
pub rise-with_row : (x j : Job) (first next : ℕ) (es : List Entry) → at x.number es ≡ Some j → Rise first es next → Rise first (with_row es x) next
rise-with_row x j first next [] there rise = absurd (cc)
rise-with_row x j first next (e ∷ es) there rise =
    elim (nat_eq e.row.number x.number) as (λ t. nat_eq e.row.number x.number ≡ t → cond t (Some e.row) (at x.number es) ≡ Some j → Rise first (e ∷ es) next → Rise first (cond t (record e { row = x } ∷ es) (e ∷ with_row es x)) next) [
      | true ↦ λ is there rise. let same : e.row.number ≡ x.number = grind (arith, nat_tests) in (subst (λ n. first ≤ n) same rise.0, subst (λ n. Rise (n + 1) es next) same rise.1)
      | false ↦ λ is there rise. (rise.0, rise-with_row x j (e.row.number + 1) next es there rise.1)
    ] refl there rise

either : (b : Bool) (y x : Job) (o : Option Job) → IsSome (cond b (Some y) o) → IsSome (cond b (Some x) o)
either true y x o some = refl
either false y x o some = some

-- no job goes
pub some-with_row : (n : ℕ) (x j : Job) (es : List Entry) → at x.number es ≡ Some j → IsSome (at n es) → IsSome (at n (with_row es x))
some-with_row n x j [] there is = absurd (cc)
some-with_row n x j (e ∷ es) there is =
    elim (nat_eq e.row.number x.number) as (λ t. nat_eq e.row.number x.number ≡ t → cond t (Some e.row) (at x.number es) ≡ Some j → IsSome (at n (e ∷ es)) → IsSome (at n (cond t (record e { row = x } ∷ es) (e ∷ with_row es x)))) [
      | true ↦ λ is there some. let same : e.row.number ≡ x.number = grind (arith, nat_tests) in subst (λ m. is_some (cond (nat_eq m n) (Some x) (at n es)) ≡ true) same (either (nat_eq e.row.number n) e.row x (at n es) some)
      | false ↦ λ is there some. some_step (nat_eq e.row.number n) e.row (at n es) (at n (with_row es x)) (some-with_row n x j es there) some
    ] refl there is

-- a sum loses the old row's part and gains the new one's
pub sum-with_row : (f : Job → ℕ) (x j : Job) (es : List Entry) → at x.number es ≡ Some j → sum_by f (map (λ e. e.row) (with_row es x)) + f j ≡ sum_by f (map (λ e. e.row) es) + f x
sum-with_row f x j [] there = absurd (cc)
sum-with_row f x j (e ∷ es) there =
    elim (nat_eq e.row.number x.number) as (λ t. cond t (Some e.row) (at x.number es) ≡ Some j → sum_by f (map (λ e. e.row) (cond t (record e { row = x } ∷ es) (e ∷ with_row es x))) + f j ≡ sum_by f (map (λ e. e.row) (e ∷ es)) + f x) [
      | true ↦ λ there. let same : e.row ≡ j = cc in let old : f e.row ≡ f j = ap f same in omega (arith, sum_by-cons f x (map (λ e. e.row) es), sum_by-cons f e.row (map (λ e. e.row) es), old)
      | false ↦ λ there. let more = sum-with_row f x j es there in omega (arith, sum_by-cons f e.row (map (λ e. e.row) es), sum_by-cons f e.row (map (λ e. e.row) (with_row es x)), more)
    ] there
