-- The rows of one document among those of all.
use Rattle.std.proofs.Common.{◌≡◌, inl, inr, ℕ, zero, suc, ◌+◌, ◌-◌, ◌<◌, List, [], ◌∷◌, ◌++◌, filter, flat_map, Bool, true, false, ◌&&◌, ◌==◌, nat_lt, if◌then◌else◌, Option, None, Some, slice_get, refl, ap, subst, ◌∙◌, arith, append-nil, pos, is_eq}
use Rattle.std.specs.Ordering.{int_cmp}
use Rattle.std.proofs.lemmas.Bool.{and_right, cases_Bool, eqb-true, eq-eqb, ltb-false, ltb-true, ne_eqb, or_parts}
use Rattle.std.proofs.lemmas.List.Elements.{filter-append}
use Rattle.sqlite.specs.Ops.{binary, is_true, from_truth}
use Rattle.sqlite.specs.Order.{Row, column}
use Rattle.sqlite.specs.Collation.TheVariants.{Binary}
use Rattle.sqlite_sql.specs.declared.ops.BinaryOp.TheVariants.{Compare}
use Rattle.sqlite_sql.specs.declared.ops.CompareOp.TheVariants.{Eq}
use Rattle.sqlite_value.proofs.OrderLemmas.{value_cmp-Int}
use Rattle.queue_core.specs.World.{Entry, has_number}
use Rattle.queue_types.specs.declared.document.Document.{Document}
use Rattle.queue_tables.specs.Values.{number}
use Rattle.queue_tables.specs.Steps.{AreDistinct}
use Rattle.queue_tables.proofs.Numbers.{passed, same_number}
use Rattle.queue_shown.specs.Fetched.{document_in}

-- ---- WHERE job = ?1 AND doc = ?2

abbrev pub is_of : ℕ → ℕ → Row → Bool
is_of job n v = is_true (binary (Compare Eq Binary) (column v 0) (number job)) && (is_true (binary (Compare Eq Binary) (column v 1) (number n)) && true)

told : (b : Bool) → is_true (from_truth (Some b)) ≡ b
told true = refl
told false = refl

pub of_numbers : (job n m k : ℕ) (rest : Row) → is_of job n (number m ∷ number k ∷ rest) ≡ ((m == job) && (k == n))
unfolding binary
of_numbers job n m k rest =
    rw (value_cmp-Int (pos m) (pos job), value_cmp-Int (pos k) (pos n), told (is_eq (int_cmp (pos m) (pos job))), passed (is_eq (int_cmp (pos k) (pos n))), same_number m job, same_number k n) refl

-- ---- what has rows for each document

module _ (f : ℕ → ℕ → Document → List Row) where
  -- of the documents of a job, which count from a number on
  abbrev pub rows_from : ℕ → ℕ → List Document → List Row
  rows_from m k [] = []
  rows_from m k (d ∷ ds) = f m k d ++ rows_from m (k + 1) ds

  abbrev pub all_rows : List Entry → List Row
  all_rows es = flat_map (λ (e : Entry). rows_from e.row.number 1 e.documents) es

  -- of document n of the job
  abbrev pub chosen : ℕ → ℕ → Option Document → List Row
  chosen job n None = []
  chosen job n (Some d) = f job n d

  module _ (job n : ℕ) (tests : (m k : ℕ) (d : Document) → filter (is_of job n) (f m k d) ≡ (if (m == job) && (k == n) then f m k d else [])) where
    passed_by : (m k : ℕ) (d : Document) (ds : List Document) → ((m == job) && (k == n)) ≡ false → filter (is_of job n) (rows_from m (k + 1) ds) ≡ []
        → filter (is_of job n) (rows_from m k (d ∷ ds)) ≡ []
    passed_by m k d ds apart rest = filter-append (is_of job n) (f m k d) (rows_from m (k + 1) ds) ∙ rw (tests m k d, apart, rest) refl

    other_job : (m k : ℕ) (ds : List Document) → (m == job) ≡ false → filter (is_of job n) (rows_from m k ds) ≡ []
    other_job m k [] apart = refl
    other_job m k (d ∷ ds) apart = passed_by m k d ds (rw apart refl) (other_job m (k + 1) ds apart)

    past : (m k : ℕ) (ds : List Document) → n < k → filter (is_of job n) (rows_from m k ds) ≡ []
    past m k [] low = refl
    past m k (d ∷ ds) low =
        let apart : (k == n) ≡ false = ne_eqb k n (λ same. omega (arith, low, same)) in
        passed_by m k d ds (rw apart (and_right (m == job) false refl)) (past m (k + 1) ds (omega (arith, low)))

    at_place : (m k i : ℕ) (ds : List Document) → (m == job) ≡ true → k + i ≡ n → filter (is_of job n) (rows_from m k ds) ≡ chosen job n (slice_get ds i)
    at_place m k i [] same here = refl
    at_place m k zero (d ∷ ds) same here =
        let at : k ≡ n = omega (arith, here) in
        let is : (k == n) ≡ true = eq-eqb k n at in
        let rest : filter (is_of job n) (rows_from m (k + 1) ds) ≡ [] = past m (k + 1) ds (omega (arith, at)) in
        filter-append (is_of job n) (f m k d) (rows_from m (k + 1) ds) ∙ rw (tests m k d, same, is, rest) (append-nil (f m k d) ∙ ap (λ i. f i k d) (eqb-true m job same) ∙ ap (λ i. f job i d) at)
    at_place m k (suc i) (d ∷ ds) same here =
        let apart : (k == n) ≡ false = ne_eqb k n (λ at. omega (arith, here, at)) in
        filter-append (is_of job n) (f m k d) (rows_from m (k + 1) ds) ∙ rw (tests m k d, same, apart) (at_place m (k + 1) i ds same (omega (arith, here)))

    of_job : (m : ℕ) (ds : List Document) → (m == job) ≡ true → filter (is_of job n) (rows_from m 1 ds) ≡ chosen job n (if nat_lt 0 n then slice_get ds (n - 1) else None)
    of_job m ds same = elim (cases_Bool (nat_lt 0 n)) [
      | inl some ↦ rw some (let low = ltb-true 0 n some in at_place m 1 (n - 1) ds same (omega (arith, low)))
      | inr none ↦ rw none (let high = ltb-false 0 n none in past m 1 ds (omega (arith, high)))
    ]

    no_job : (es : List Entry) → has_number job es ≡ false → filter (is_of job n) (all_rows es) ≡ []
    no_job [] none = refl
    no_job (e ∷ es) none =
        let parts = or_parts (e.row.number == job) (has_number job es) none in
        filter-append (is_of job n) (rows_from e.row.number 1 e.documents) (all_rows es) ∙ rw (other_job e.row.number 1 e.documents parts.0, no_job es parts.1) refl

    -- WHERE lets the rows of the document through, where it is there
    pub only_document : (es : List Entry) → AreDistinct es → filter (is_of job n) (all_rows es) ≡ chosen job n (document_in es job n)
    only_document [] distinct = refl
    only_document (e ∷ es) distinct = elim (cases_Bool (e.row.number == job)) [
      | inl same ↦
          let rest = no_job es (subst (λ m. has_number m es ≡ false) (eqb-true e.row.number job same) distinct.0) in
          filter-append (is_of job n) (rows_from e.row.number 1 e.documents) (all_rows es) ∙ rw (rest, append-nil (filter (is_of job n) (rows_from e.row.number 1 e.documents)), same) (of_job e.row.number e.documents same)
      | inr apart ↦
          filter-append (is_of job n) (rows_from e.row.number 1 e.documents) (all_rows es) ∙ rw (other_job e.row.number 1 e.documents apart, apart) (only_document es distinct.1)
    ]
