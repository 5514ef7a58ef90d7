-- How the jobs of each number move as a row changes or enters.
use Rattle.std.proofs.Common.{◌≡◌, ℕ, ℤ, List, [], ◌∷◌, ◌++◌, refl, ap, sym, ◌∙◌, arith, subst, inl, Bool, true, false, cond}
use Rattle.std.specs.Prelude.{Option, Some, None, nat_eq}
use Rattle.std.specs.FinMap.{FinMap}
use Rattle.std.proofs.lemmas.Bool.{eqb-true}
use Rattle.std.proofs.lemmas.Bool.Decides.{nat_tests}
use Rattle.queue_core.specs.World.{World, Entry, rows, with_row, job_at, text_cmp}
use Rattle.queue_core.specs.Runs.{Follows, MovesAlong}
use Rattle.queue_types.specs.declared.job.Job.{Job}
use Rattle.queue_core.proofs.Keep.{at}
use Rattle.queue_core.proofs.Rows.{rows_of}

-- a job that stays as it is keeps its state
pub follows_itself : (o : Option Job) → Follows o o
follows_itself None = tt
follows_itself (Some j) = inl refl

pub stays : (w : World) → MovesAlong w w
stays w n = follows_itself (job_at n (rows w))

pub shadow : {A : Type 0} (t : Bool) (x y z : A) → cond t x z ≡ cond t x (cond t y z)
shadow true x y z = refl
shadow false x y z = refl

pub swap_tests : {A : Type 0} (s t : Bool) (x y z : A) → (s ≡ true → t ≡ true → ⊥) → cond s x (cond t y z) ≡ cond t y (cond s x z)
swap_tests s t x y z =
    elim s as (λ s. (s ≡ true → t ≡ true → ⊥) → cond s x (cond t y z) ≡ cond t y (cond s x z)) [
      | true ↦ λ no. elim t as (λ t. (true ≡ true → t ≡ true → ⊥) → x ≡ cond t y x) [ true ↦ λ no. absurd (no refl refl) | false ↦ λ no. refl ] no
      | false ↦ λ no. refl
    ]

not_both : (a b n : ℕ) → nat_eq a b ≡ false → nat_eq a n ≡ true → nat_eq b n ≡ true → ⊥
not_both a b n e s t = grind (arith, nat_tests)

-- what stands at a number once a row is put
pub at-with_row : (n : ℕ) (x : Job) (es : List Entry) → at n (with_row es x) ≡ cond (nat_eq x.number n) (Some x) (at n es)
at-with_row n x [] = refl
at-with_row n x (e ∷ es) =
    elim (nat_eq e.row.number x.number) as (λ t. nat_eq e.row.number x.number ≡ t → at n (cond t (record e { row = x } ∷ es) (e ∷ with_row es x)) ≡ cond (nat_eq x.number n) (Some x) (cond (nat_eq e.row.number n) (Some e.row) (at n es))) [
      | true ↦ λ is. shadow (nat_eq x.number n) (Some x) (Some e.row) (at n es) ∙ ap (λ m. cond (nat_eq x.number n) (Some x) (cond (nat_eq m n) (Some e.row) (at n es))) (sym (eqb-true e.row.number x.number is))
      | false ↦ λ is. ap (λ o. cond (nat_eq e.row.number n) (Some e.row) o) (at-with_row n x es) ∙ swap_tests (nat_eq e.row.number n) (nat_eq x.number n) (Some e.row) (Some x) (at n es) (not_both e.row.number x.number n is)
    ] refl

-- one row becomes what follows it
pub row_moves : (w : World) (m : FinMap text_cmp ℤ) (es : List Entry) (x j : Job) → rows_of es ≡ rows_of (with_row w.jobs x) → at x.number w.jobs ≡ Some j → Follows (Some j) (Some x) → MovesAlong w (record w { jobs = es; free = m })
row_moves w m es x j same there follows n =
    subst (Follows (at n w.jobs)) (sym (ap (job_at n) same ∙ at-with_row n x w.jobs))
    (elim (nat_eq x.number n) as (λ t. nat_eq x.number n ≡ t → Follows (at n w.jobs) (cond t (Some x) (at n w.jobs))) [
      | true ↦ λ is. subst (λ o. Follows o (Some x)) (sym (ap (λ k. at k w.jobs) (sym (eqb-true x.number n is)) ∙ there)) follows
      | false ↦ λ is. follows_itself (at n w.jobs)
    ] refl)

-- one row enters at the end
pub new_moves : (n : ℕ) (x : Entry) (es : List Entry) → Follows None (Some x.row) → Follows (at n es) (at n (es ++ x ∷ []))
new_moves n x [] enters =
    elim (nat_eq x.row.number n) as (λ t. Follows None (cond t (Some x.row) None)) [ true ↦ enters | false ↦ tt ]
new_moves n x (e ∷ es) enters =
    elim (nat_eq e.row.number n) as (λ t. Follows (cond t (Some e.row) (at n es)) (cond t (Some e.row) (at n (es ++ x ∷ [])))) [
      | true ↦ inl refl
      | false ↦ new_moves n x es enters
    ]
