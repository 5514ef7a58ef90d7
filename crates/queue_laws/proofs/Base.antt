-- Numbers, names, lists and the job of a number.
use Rattle.std.proofs.Common.{◌≡◌, ℕ, List, [], ◌∷◌, map, refl, ap, ◌∙◌, Bool, true, false, cond}
use Rattle.std.specs.Prelude.{Option, Some, None, nat_eq, bytes_eq, filter}
use Rattle.std.specs.List.{AllByRecursion as Each}
use Rattle.std.proofs.lemmas.Cmp.{nat_list_eq_equiv}
use Rattle.queue_core.specs.World.{Entry, job_at, numbered}
use Rattle.queue_types.specs.declared.job.Job.{Job}
pub use Rattle.std.proofs.lemmas.Bool.{eqb-true as equal}
pub use Rattle.queue_core.proofs.Enter.{first_below, fresh}
pub use Rattle.queue_core.proofs.Own.{first_named, itself, same_key}

-- ---- names

pub own_key : (a b : List ℕ) → a ≡ b → bytes_eq a b ≡ true
own_key a b e = ap (λ t. bytes_eq t b) e ∙ nat_list_eq_equiv.refl b

-- ---- lists

pub each_map : {A : Type 0} (P Q : A → Type 0) (xs : List A) → ((x : A) → P x → Q x) → Each P xs → Each Q xs
each_map P Q [] f each = tt
each_map P Q (x ∷ xs) f each = (f x each.0, each_map P Q xs f each.1)

pub each_both : {A : Type 0} (P Q : A → Type 0) (xs : List A) → Each P xs → Each Q xs → Each (λ x. P x × Q x) xs
each_both P Q [] p q = tt
each_both P Q (x ∷ xs) p q = ((p.0, q.0), each_both P Q xs p.1 q.1)

pub passed : {A : Type 0} (p : A → Bool) (xs : List A) → Each (λ x. p x ≡ true) (filter p xs)
passed p [] = tt
passed p (x ∷ xs) = elim (p x) as (λ b. p x ≡ b → Each (λ y. p y ≡ true) (cond b (x ∷ filter p xs) (filter p xs))) [
  | true ↦ λ is. (is, passed p xs)
  | false ↦ λ is. passed p xs
] refl

-- ---- the job of a number

abbrev pub rows_of : List Entry → List Job
rows_of es = map (λ e. e.row) es

abbrev pub at : ℕ → List Entry → Option Job
at n es = job_at n (rows_of es)

pub none_named : (n : ℕ) (js : List Job) → job_at n js ≡ None → numbered n js ≡ []
none_named n [] e = refl
none_named n (j ∷ js) e =
    elim (nat_eq j.number n) as (λ t. cond t (Some j) (job_at n js) ≡ None → cond t (j ∷ numbered n js) (numbered n js) ≡ []) [
      | true ↦ λ e. absurd (cc)
      | false ↦ λ e. none_named n js e
    ] e

pub record IsNamed (n : ℕ) (js : List Job) (j : Job) : Type 0 where
  pub rest : List Job
  pub is : numbered n js ≡ j ∷ rest

pub named : (n : ℕ) (js : List Job) (j : Job) → job_at n js ≡ Some j → IsNamed n js j
named n [] j e = absurd (cc)
named n (k ∷ js) j e =
    elim (nat_eq k.number n) as (λ t. nat_eq k.number n ≡ t → cond t (Some k) (job_at n js) ≡ Some j → IsNamed n (k ∷ js) j) [
      | true ↦ λ is e. let same : k ≡ j = cc in record { rest = numbered n js; is = ap (λ t. cond t (k ∷ numbered n js) (numbered n js)) is ∙ ap (λ x. x ∷ numbered n js) same }
      | false ↦ λ is e. let more = named n js j e in record { rest = more.rest; is = ap (λ t. cond t (k ∷ numbered n js) (numbered n js)) is ∙ more.is }
    ] refl e
