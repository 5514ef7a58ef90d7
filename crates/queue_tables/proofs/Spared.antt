-- What the jobs and accounts of a world have that a step of a change asks for.
use Rattle.std.proofs.Common.{◌≡◌, ℕ, ◌≤◌, List, [], ◌∷◌, length, filter, fold, take, Option, Some, None, inl, inr, sym, ap, subst, ◌∙◌, arith, All, ◌==◌}
use Rattle.std.specs.List.{AllByRecursion as Each}
use Rattle.std.specs.FinMap.{get}
use Rattle.std.proofs.lemmas.Bool.{cases_Bool}
use Rattle.std.proofs.lemmas.List.Elements.{All-take, recursion_from_All}
use Rattle.queue_types.specs.declared.job.Job.{Job}
use Rattle.queue_core.specs.World.{World, Entry, with_row, job_at, rows}
use Rattle.queue_core.specs.Balance.{AreAmounts}
use Rattle.queue_tables.specs.Content.{content_of}
use Rattle.queue_tables.specs.Forms.{IsFormedJob, AreFormed}
use Rattle.queue_tables.specs.Steps.{IsSummable, AreDistinct, bare, is_numbered, is_named}
use Rattle.queue_tables.proofs.Entries.{row_at, rows_in, found_rows, distinct-fold, each-fold}
use Rattle.queue_tables.proofs.Frees.{account_in, found_account, reserved_in, printed_in}
use Rattle.queue_tables.proofs.Puts.{few_yet, rows_twice}

-- ---- an account that is not there

pub no_account : (name : List ℕ) (w : World) → get w.free name ≡ None → filter (is_named name) (content_of w).accounts ≡ []
no_account name w none = account_in w name ∙ ap (found_account name (reserved_in w) (printed_in w)) none

-- ---- the job of a number

-- what holds of each row holds of the job of a number
pub each_at : (P : Job → Type 0) (n : ℕ) (k : Job) (es : List Entry) → Each (λ e. P e.row) es → job_at n (rows_in es) ≡ Some k → P k
each_at P n k [] all there = absurd cc
each_at P n k (e ∷ es) all there = elim (cases_Bool (e.row.number == n)) [
  | inl same ↦ subst P (let some : ◌≡◌ {A = Option Job} (Some e.row) (Some k) = rw same at there in cc) all.0
  | inr apart ↦ each_at P n k es all.1 (rw apart at there)
]

pub no_row : (n : ℕ) (w : World) → AreDistinct w.jobs → job_at n (rows w) ≡ None → filter (is_numbered n) (content_of w).jobs ≡ []
no_row n w distinct none = ap (filter (is_numbered n)) (rows_twice w.jobs) ∙ row_at n w.jobs distinct ∙ ap found_rows none

-- a job as it is read has the amounts of the one in the world
pub bare_amounts : (before was : Job) → before ≡ bare was → AreAmounts was → AreAmounts before
bare_amounts before was is a = subst AreAmounts (sym is) (record { impressions = a.impressions; copies = a.copies; count = a.count })

pub amounts_before : (n : ℕ) (before was : Job) (w : World) → IsSummable w.jobs → job_at n (rows w) ≡ Some was → before ≡ bare was → AreAmounts before
amounts_before n before was w s there is = bare_amounts before was is (each_at AreAmounts n was w.jobs s.amounts there)

-- ---- jobs that are put in turn

-- after the first so many jobs
module _ (js : List Job) (k : ℕ) (es : List Entry) (can : All (λ j. AreAmounts j × IsFormedJob j) js) where
  pub formed_yet : AreFormed es → AreFormed (fold with_row es (take k js))
  formed_yet all = each-fold IsFormedJob (take k js) es (recursion_from_All IsFormedJob (take k js) (All-take IsFormedJob k js (λ i d below. (can i d below).1))) all

  pub summable_yet : IsSummable es → length (fold with_row es js) ≤ 2147483648 → IsSummable (fold with_row es (take k js))
  summable_yet s few = record {
    distinct = distinct-fold (take k js) es s.distinct;
    amounts = each-fold AreAmounts (take k js) es (recursion_from_All AreAmounts (take k js) (All-take AreAmounts k js (λ i d below. (can i d below).0))) s.amounts;
    few = (let less = few_yet js k es in omega (arith, less, few));
  }
