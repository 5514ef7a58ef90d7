-- A job that was read from the tables is put anew.
use Rattle.std.proofs.Common.{◌≡◌, ◌<◌, pos, zero, suc, ℕ, List, [], ◌∷◌, Some, All, length, take, get_or, option_map, subst, sym, arith}
use Rattle.std.specs.Prelude.{neg_ℤ}
use Rattle.sqlite.specs.State.{State}
use Rattle.queue_types.specs.Job.{owed}
use Rattle.queue_types.specs.declared.job.Job.{Job}
use Rattle.queue_core.specs.Balance.{AreAmounts}
use Rattle.queue_core.specs.World.{World, job_at, rows}
use Rattle.queue_tables.specs.Content.{Content, Holds, content_of}
use Rattle.queue_tables.specs.Forms.{IsFormedJob}
use Rattle.queue_tables.specs.Steps.{CanAdd, CanPut, HasJob, IsSummable, bare, with_job_anew, with_put, with_puts, with_sums}
use Rattle.queue_tables.proofs.JobPut.{was_found}
use Rattle.queue_tables.proofs.Puts.{can_return, can_take, few_more, number_is, one_row, put_anew}
use Rattle.queue_tables.proofs.Spared.{amounts_before, formed_yet, summable_yet}

-- ---- in place of the one before

-- the rows with the job anew, and without what the one before took of its account
abbrev pub without_before : Job → Job → World → Content
without_before j before w = with_sums before.owner (neg_ℤ (pos (owed before))) (neg_ℤ (pos before.count)) (with_job_anew j (content_of w))

module _ (j before : Job) (w : World) (s : IsSummable w.jobs) (read : Some before ≡ option_map bare (job_at j.number (rows w))) where
  was : (k : Job) × (job_at j.number (rows w) ≡ Some k) × (before ≡ bare k)
  was = was_found before (job_at j.number (rows w)) read

  pub has_job : HasJob j.number (content_of w)
  has_job = record { job = was.0; once = one_row j was.0 w s was.1; numbered = number_is j was.0 w s was.1 }

  pub had_amounts : AreAmounts before
  had_amounts = amounts_before j.number before was.0 w s was.1 was.2

  pub can_give : CanAdd before.owner (neg_ℤ (pos (owed before))) (neg_ℤ (pos before.count)) (with_job_anew j (content_of w))
  can_give = subst (λ (k : Job). CanAdd k.owner (neg_ℤ (pos (owed k))) (neg_ℤ (pos k.count)) (with_job_anew j (content_of w))) (sym was.2) (can_return j was.0 w s was.1)

  pub can_take_anew : AreAmounts j → CanAdd j.owner (pos (owed j)) (pos j.count) (without_before j before w)
  can_take_anew a = subst (λ (k : Job). CanAdd j.owner (pos (owed j)) (pos j.count) (without_before j k w)) (sym was.2) (can_take j was.0 w s was.1 a)

  pub is_replaced : (st : State) → Holds (with_sums j.owner (pos (owed j)) (pos j.count) (without_before j before w)) st → Holds (content_of (with_put j w)) st
  is_replaced st has = put_anew j was.0 w s was.1 st
      (subst (λ (k : Job). Holds (with_sums j.owner (pos (owed j)) (pos j.count) (without_before j k w)) st) was.2 has)

-- ---- one job of those that are put

only : (P : Job → Type 0) (x : Job) → P x → All P (x ∷ [])
only P x it zero d below = it
only P x it (suc k) d below = absurd (omega (arith, below))

pub amounts_of_one : {x : Job} {w : World} → CanPut (x ∷ []) w → AreAmounts x
amounts_of_one {x} can = (can.amounts 0 x (omega arith)).0

-- the next of them
pub can_put_next : (js : List Job) (k : ℕ) (x : Job) (w : World) → k < length js → x ≡ get_or js k x → CanPut js w → CanPut (x ∷ []) (with_puts (take k js) w)
can_put_next js k x w below is can = record {
  summable = summable_yet js k w.jobs can.amounts can.summable can.few;
  formed = formed_yet js k w.jobs can.amounts can.formed;
  amounts = only (λ j. AreAmounts j × IsFormedJob j) x (subst (λ j. AreAmounts j × IsFormedJob j) (sym is) (can.amounts k x below));
  few = few_more js k x w.jobs below is can.few;
}
