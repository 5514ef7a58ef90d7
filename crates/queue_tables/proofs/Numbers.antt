-- Rows by the number in their first column, or by the name there.
use Rattle.std.proofs.Common.{◌≡◌, ℕ, ℤ, pos, Bool, true, false, ◌&&◌, ◌==◌, Some, List, refl, ap, subst, ◌∙◌, is_eq, Ordering, Equal, bytes_eq}
use Rattle.std.specs.Ordering.{int_cmp}
use Rattle.std.specs.Cmp.{both_ways, tied_itself, int_cmp_total}
use Rattle.std.proofs.lemmas.Bool.{eqb-true, eq-eqb}
use Rattle.std.proofs.lemmas.Map.Lookups.{exact_signed}
use Rattle.std.proofs.lemmas.Map.Text.{is_eq-slice_cmp}
use Rattle.sqlite.specs.Ops.{binary, is_true, from_truth}
use Rattle.sqlite_value.proofs.OrderLemmas.{value_cmp-Int, value_cmp-Text}
use Rattle.queue_types.specs.declared.job.Job.{Job}
use Rattle.queue_rows.specs.declared.rows.DocumentRow.{DocumentRow}
use Rattle.queue_rows.specs.declared.rows.MetaRow.{MetaRow}
use Rattle.queue_tables.specs.Values.{meta_values, job_values, document_values, account_values, operator_values}
use Rattle.queue_tables.specs.Steps.{is_numbered, is_named}

pub passed : (b : Bool) → (is_true (from_truth (Some b)) && true) ≡ b
passed true = refl
passed false = refl

pub equal_of : (o : Ordering) → is_eq o ≡ true → o ≡ Equal
equal_of Equal e = refl
equal_of _ e = absurd cc

pub same_number : (m n : ℕ) → is_eq (int_cmp (pos m) (pos n)) ≡ (m == n)
same_number m n = both_ways (is_eq (int_cmp (pos m) (pos n))) (m == n)
    (λ e. let z : pos m ≡ pos n = exact_signed (pos m) (pos n) (equal_of _ e) in let x : m ≡ n = cc in eq-eqb m n x)
    (λ e. let x : m ≡ n = eqb-true m n e in subst (λ k. is_eq (int_cmp (pos m) (pos k)) ≡ true) x (ap is_eq (tied_itself int_cmp_total (pos m))))

pub numbered_job : (n : ℕ) (k : Job) → is_numbered n (job_values k) ≡ (k.number == n)
unfolding binary
numbered_job n k = rw (value_cmp-Int (pos k.number) (pos n)) (passed _) ∙ same_number k.number n

pub numbered_document : (n : ℕ) (d : DocumentRow) → is_numbered n (document_values d) ≡ (d.job == n)
unfolding binary
numbered_document n d = rw (value_cmp-Int (pos d.job) (pos n)) (passed _) ∙ same_number d.job n

pub numbered_meta : (m : MetaRow) → m.one ≡ 1 → is_numbered 1 (meta_values m) ≡ true
unfolding binary
numbered_meta m one = rw (value_cmp-Int (pos m.one) (pos 1)) (passed _) ∙ same_number m.one 1 ∙ eq-eqb m.one 1 one

pub named_account : (name a : List ℕ) (free x y : ℤ) → is_named name (account_values a free x y) ≡ bytes_eq a name
unfolding binary
named_account name a free x y = rw (value_cmp-Text a name) (passed _) ∙ is_eq-slice_cmp a name

pub named_operator : (name a : List ℕ) → is_named name (operator_values a) ≡ bytes_eq a name
unfolding binary
named_operator name a = rw (value_cmp-Text a name) (passed _) ∙ is_eq-slice_cmp a name
