-- The rows that a change adds meet none like them in the tables, and find the row that they tell of.
use Rattle.std.proofs.Common.{◌≡◌, ◌≤◌, ◌<◌, inl, inr, ℕ, zero, suc, pos, ◌+◌, List, [], ◌∷◌, ◌++◌, map, filter, flat_map, length, take, get_or, Bool, true, false, ◌&&◌, ◌==◌, Option, Some, None, IsSome, IfSome, refl, sym, ap, subst, ◌∙◌, arith, cond, is_eq, Ordering, Less, Equal, bytes_eq}
use Rattle.std.specs.Cmp.{both_ways, unsigned_tied}
use Rattle.std.specs.FinMap.{entries, entries_sorted, find, get, get-entries}
use Rattle.std.specs.Ordering.{eq_by_cmp, nat_cmp, ordering_then}
use Rattle.std.specs.List.{range_with_len, AllByRecursion as Each}
use Rattle.std.proofs.lemmas.Bool.{and_left, and_right, cases_Bool, eq-eqb, eqb-true, ne_eqb}
use Rattle.std.proofs.lemmas.List.Elements.{filter-append, recursion_from_All}
use Rattle.std.proofs.lemmas.List.FromFn.{filter_of_map_range_with_len_more}
use Rattle.std.proofs.lemmas.Map.Text.{is_eq-slice_cmp}
use Rattle.sqlite.specs.declared.types.Value.TheVariants.{Text as Words}
use Rattle.sqlite.specs.Order.{Row}
use Rattle.sqlite.specs.Ops.{binary, is_true, from_truth}
use Rattle.sqlite.specs.Collation.TheVariants.{Binary}
use Rattle.sqlite_sql.specs.declared.ops.BinaryOp.TheVariants.{Compare}
use Rattle.sqlite_sql.specs.declared.ops.CompareOp.TheVariants.{Eq}
use Rattle.sqlite_value.proofs.OrderLemmas.{value_cmp-Int, value_cmp-Text}
use Rattle.queue_types.specs.Event.{NewDocument}
use Rattle.queue_types.specs.declared.document.Document.{Document}
use Rattle.queue_types.specs.declared.event.GrantRow.{GrantRow}
use Rattle.queue_types.specs.declared.event.KeptReport.{KeptReport}
use Rattle.queue_types.specs.declared.job.Job.{Job}
use Rattle.queue_core.specs.World.{World, Entry, AreNew, grant_cmp, has_number, job_at, report_cmp, rows, text_cmp}
use Rattle.queue_core.proofs.Maps.{report_total}
use Rattle.queue_rows.specs.Pieces.{piece_at, pieces_in}
use Rattle.queue_rows.specs.Rows.{grant_row}
use Rattle.queue_rows.specs.declared.rows.DocumentRow.{DocumentRow}
use Rattle.queue_rows.proofs.WorldMaps.{found_there}
use Rattle.queue_tables.specs.Content.{Content, content_of, document_rows, piece_rows, pieces_from}
use Rattle.queue_tables.specs.Kept.{HasOne}
use Rattle.queue_tables.specs.Steps.{AreDistinct, AreReportsKeyed, CanGrant, CanKeep, CanTake, are_numbered, document_count_at, is_granted, is_named, is_numbered, is_piece, with_document_row, with_grants, with_pieces}
use Rattle.queue_tables.specs.Values.{document_values, grant_values, job_values, number, piece_values, report_values}
use Rattle.queue_tables.proofs.Decisions.{the_one}
use Rattle.queue_tables.proofs.Documents.{none_in_both, none_of_others, plain_of, row_of}
use Rattle.queue_tables.proofs.Entries.{found_rows, row_at}
use Rattle.queue_tables.proofs.Frees.{account_in, found_account, printed_in, reserved_in}
use Rattle.queue_tables.proofs.Numbers.{same_number}
use Rattle.queue_tables.proofs.Kept.{new_at_turn}
use Rattle.queue_tables.proofs.Puts.{rows_twice, turned}

-- ---- tests by numbers and names

truth_of : (b : Bool) → is_true (from_truth (Some b)) ≡ b
truth_of true = refl
truth_of false = refl

test_number : (m n : ℕ) → is_true (binary (Compare Eq Binary) (number m) (number n)) ≡ (m == n)
unfolding binary
test_number m n = rw (value_cmp-Int (pos m) (pos n)) (truth_of _) ∙ same_number m n

test_name : (a b : List ℕ) → is_true (binary (Compare Eq Binary) (Words a) (Words b)) ≡ bytes_eq a b
unfolding binary
test_name a b = rw (value_cmp-Text a b) (truth_of _) ∙ is_eq-slice_cmp a b

numbers_document : (n m : ℕ) (d : DocumentRow) → are_numbered n m (document_values d) ≡ ((d.job == n) && ((d.doc == m) && true))
numbers_document n m d = rw (test_number d.job n, test_number d.doc m) refl

numbers_piece : (n m job doc i : ℕ) (bytes : List ℕ) → are_numbered n m (piece_values job doc i bytes) ≡ ((job == n) && ((doc == m) && true))
numbers_piece n m job doc i bytes = rw (test_number job n, test_number doc m) refl

is_that_piece : (n m k job doc i : ℕ) (bytes : List ℕ) → is_piece n m k (piece_values job doc i bytes) ≡ ((job == n) && ((doc == m) && ((i == k) && true)))
is_that_piece n m k job doc i bytes = rw (test_number job n, test_number doc m, test_number i k) refl

names_grant : (batch account : List ℕ) (g : GrantRow) → is_granted batch account (grant_values g) ≡ (bytes_eq g.batch batch && (bytes_eq g.account account && true))
names_grant batch account g = rw (test_name g.batch batch, test_name g.account account) refl

second_fails : (a b : Bool) → b ≡ false → (a && (b && true)) ≡ false
second_fails a b e = and_right a (b && true) (and_left b true e)

pair_fails : (a b c : Bool) → (a && (b && true)) ≡ false → (a && (b && (c && true))) ≡ false
pair_fails true true c e = absurd cc
pair_fails true false c e = refl
pair_fails false b c e = refl

-- ---- what a filter lets through

none_mapped : {X : Type 0} (p : Row → Bool) (f : X → Row) → ((x : X) → p (f x) ≡ false) → (xs : List X) → filter p (map f xs) ≡ []
none_mapped p f fails [] = refl
none_mapped p f fails (x ∷ xs) = rw (fails x) (none_mapped p f fails xs)

stricter : (p q : Row → Bool) → ((r : Row) → p r ≡ false → q r ≡ false) → (rs : List Row) → filter p rs ≡ [] → filter q rs ≡ []
stricter p q less [] none = refl
stricter p q less (r ∷ rs) none = elim (cases_Bool (p r)) [
  | inl passes ↦ absurd (let e : ◌≡◌ {A = List Row} (r ∷ filter p rs) [] = rw passes at none in cc)
  | inr fails ↦ rw (less r fails) (stricter p q less rs (rw fails at none))
]

one_more : (p : Row → Bool) (vs : List Row) (v : Row) → filter p vs ≡ [] → p v ≡ true → HasOne p (vs ++ v ∷ [])
one_more p vs v none passes = (v, filter-append p vs (v ∷ []) ∙ ap (λ (ks : List Row). ks ++ filter p (v ∷ [])) none ∙ rw passes refl)

-- ---- jobs

one_job : (n : ℕ) (j : Job) (w : World) → AreDistinct w.jobs → job_at n (rows w) ≡ Some j → HasOne (is_numbered n) (content_of w).jobs
one_job n j w distinct there = (job_values j, ap (filter (is_numbered n)) (rows_twice w.jobs) ∙ row_at n w.jobs distinct ∙ ap found_rows there)

-- ---- documents with their pieces, by jobs

none_of_parts : (f : ℕ → List Document → List Row) (p : Row → Bool) (n : ℕ) → ((m : ℕ) (ds : List Document) → (m == n) ≡ false → filter p (f m ds) ≡ []) → (es : List Entry) → AreDistinct es
    → ((ds : List Document) → length ds ≡ document_count_at n es → filter p (f n ds) ≡ []) → filter p (flat_map (λ (e : Entry). f e.row.number e.documents) es) ≡ []
none_of_parts f p n apart [] distinct here = refl
none_of_parts f p n apart (e ∷ es) distinct here =
    let rest : List Row = flat_map (λ (e : Entry). f e.row.number e.documents) es in
    elim (cases_Bool (e.row.number == n)) [
      | inl same ↦
          let at : e.row.number ≡ n = eqb-true e.row.number n same in
          let own : filter p (f e.row.number e.documents) ≡ [] = subst (λ m. filter p (f m e.documents) ≡ []) (sym at) (here e.documents (rw same refl)) in
          none_in_both p (f e.row.number e.documents) rest own (none_of_others f p n apart es (subst (λ m. has_number m es ≡ false) at distinct.0))
      | inr other ↦ none_in_both p (f e.row.number e.documents) rest (apart e.row.number e.documents other) (none_of_parts f p n apart es distinct.1 (rw other at here))
    ]

other_documents : (n k m from : ℕ) (ds : List Document) → (m == n) ≡ false → filter (are_numbered n k) (document_rows m from ds) ≡ []
other_documents n k m from [] apart = refl
other_documents n k m from (d ∷ ds) apart =
    rw (numbers_document n k (row_of m from d) ∙ and_left (m == n) ((from == k) && true) apart) (other_documents n k m (from + 1) ds apart)

later_documents : (n k from : ℕ) (ds : List Document) → from + length ds ≤ k → filter (are_numbered n k) (document_rows n from ds) ≡ []
later_documents n k from [] low = refl
later_documents n k from (d ∷ ds) low =
    let other : (from == k) ≡ false = ne_eqb from k (λ same. omega (arith, low, same)) in
    rw (numbers_document n k (row_of n from d) ∙ second_fails (n == n) (from == k) other) (later_documents n k (from + 1) ds (omega (arith, low)))

other_pieces : (n k m from : ℕ) (ds : List Document) → (m == n) ≡ false → filter (are_numbered n k) (pieces_from m from ds) ≡ []
other_pieces n k m from [] apart = refl
other_pieces n k m from (d ∷ ds) apart =
    none_in_both (are_numbered n k) (piece_rows m from d.bytes) (pieces_from m (from + 1) ds)
    (none_mapped (are_numbered n k) (λ (i : ℕ). piece_values m from i (piece_at d.bytes i)) (λ i. numbers_piece n k m from i (piece_at d.bytes i) ∙ and_left (m == n) ((from == k) && true) apart) (range_with_len 0 (pieces_in (length d.bytes))))
    (other_pieces n k m (from + 1) ds apart)

later_pieces : (n k from : ℕ) (ds : List Document) → from + length ds ≤ k → filter (are_numbered n k) (pieces_from n from ds) ≡ []
later_pieces n k from [] low = refl
later_pieces n k from (d ∷ ds) low =
    let other : (from == k) ≡ false = ne_eqb from k (λ same. omega (arith, low, same)) in
    none_in_both (are_numbered n k) (piece_rows n from d.bytes) (pieces_from n (from + 1) ds)
    (none_mapped (are_numbered n k) (λ (i : ℕ). piece_values n from i (piece_at d.bytes i)) (λ i. numbers_piece n k n from i (piece_at d.bytes i) ∙ second_fails (n == n) (from == k) other) (range_with_len 0 (pieces_in (length d.bytes))))
    (later_pieces n k (from + 1) ds (omega (arith, low)))

-- no document of the job has the next number
no_document : (n : ℕ) (w : World) → AreDistinct w.jobs → filter (are_numbered n (document_count_at n w.jobs + 1)) (content_of w).documents ≡ []
no_document n w distinct =
    let k = document_count_at n w.jobs + 1 in
    none_of_parts (λ m ds. document_rows m 1 ds) (are_numbered n k) n (λ m ds apart. other_documents n k m 1 ds apart) w.jobs distinct (λ ds long. later_documents n k 1 ds (omega (arith, long)))

-- and no piece is of such a document
no_piece : (n : ℕ) (w : World) → AreDistinct w.jobs → filter (are_numbered n (document_count_at n w.jobs + 1)) (content_of w).pieces ≡ []
no_piece n w distinct =
    let k = document_count_at n w.jobs + 1 in
    none_of_parts (λ m ds. pieces_from m 1 ds) (are_numbered n k) n (λ m ds apart. other_pieces n k m 1 ds apart) w.jobs distinct (λ ds long. later_pieces n k 1 ds (omega (arith, long)))

-- ---- a document is added

numbers_itself : (d : DocumentRow) → are_numbered d.job d.doc (document_values d) ≡ true
numbers_itself d = numbers_document d.job d.doc d ∙ rw (eq-eqb d.job d.job refl, eq-eqb d.doc d.doc refl) refl

module _ (d : NewDocument) (n : ℕ) (w : World) (takes : CanTake d w) (counted : n ≡ document_count_at d.job w.jobs) where
  unlike_documents : filter (are_numbered d.job (n + 1)) (content_of w).documents ≡ []
  unlike_documents = subst (λ k. filter (are_numbered d.job (k + 1)) (content_of w).documents ≡ []) (sym counted) (no_document d.job w takes.distinct)

  -- its job is there, and no document is like it
  pub can_add_document : HasOne (is_numbered d.job) (content_of w).jobs × (filter (are_numbered d.job (n + 1)) (content_of w).documents ≡ [])
  can_add_document = (one_job d.job takes.job w takes.distinct takes.there, unlike_documents)

  -- with its row, it is there, and has no pieces
  pub can_add_pieces : HasOne (are_numbered d.job (n + 1)) (with_document_row (document_values (row_of d.job (n + 1) (plain_of d))) (content_of w)).documents × (filter (are_numbered d.job (n + 1)) (content_of w).pieces ≡ [])
  can_add_pieces =
      let row = row_of d.job (n + 1) (plain_of d) in (
        one_more (are_numbered d.job (n + 1)) (content_of w).documents (document_values row) unlike_documents (numbers_itself row),
        subst (λ k. filter (are_numbered d.job (k + 1)) (content_of w).pieces ≡ []) (sym counted) (no_piece d.job w takes.distinct),
      )

-- ---- its pieces so far

module _ (job doc : ℕ) (bytes : List ℕ) (k : ℕ) where
  lower_pieces : (j : ℕ) → j ≤ k → filter (is_piece job doc k) (map (λ (i : ℕ). piece_values job doc i (piece_at bytes i)) (range_with_len 0 j)) ≡ []
  lower_pieces zero low = refl
  lower_pieces (suc j) low =
      let f : ℕ → Row = λ i. piece_values job doc i (piece_at bytes i) in
      let other : (j == k) ≡ false = ne_eqb j k (λ same. omega (arith, low, same)) in
      let fails : is_piece job doc k (f j) ≡ false = is_that_piece job doc k job doc j (piece_at bytes j) ∙ and_right (job == job) ((doc == doc) && ((j == k) && true)) (second_fails (doc == doc) (j == k) other) in
      let next : j + 1 ≡ suc j = omega arith in
      subst (λ i. filter (is_piece job doc k) (map f (range_with_len 0 i)) ≡ []) next
      (filter_of_map_range_with_len_more (is_piece job doc k) f 0 j j (omega arith) ∙ ap (λ (ks : List Row). ks ++ cond (is_piece job doc k (f j)) (f j ∷ []) []) (lower_pieces j (omega (arith, low))) ∙ rw fails refl)

  -- none is the next one
  pub no_piece_yet : (c : Content) → filter (are_numbered job doc) c.pieces ≡ [] → filter (is_piece job doc k) (with_pieces job doc bytes k c).pieces ≡ []
  no_piece_yet c none =
      none_in_both (is_piece job doc k) c.pieces (map (λ (i : ℕ). piece_values job doc i (piece_at bytes i)) (range_with_len 0 k))
      (stricter (are_numbered job doc) (is_piece job doc k) (λ r fails. pair_fails _ _ _ fails) c.pieces none)
      (lower_pieces k (omega arith))

-- ---- grants

no_value : {X : Type 0} (b : Bool) (x : X) (o : Option X) → cond b (Some x) o ≡ None → (b ≡ false) × (o ≡ None)
no_value true x o none = absurd cc
no_value false x o none = (refl, none)

both_tied : (a b : Ordering) → is_eq (ordering_then a b) ≡ (is_eq a && (is_eq b && true))
both_tied Equal Less = refl
both_tied Equal _ = refl
both_tied _ b = refl

granted_by_key : (batch account : List ℕ) (e : (List ℕ × List ℕ) × ℕ) → is_granted batch account (grant_values (grant_row e)) ≡ eq_by_cmp grant_cmp (batch, account) e.0
granted_by_key batch account e =
    names_grant batch account (grant_row e)
    ∙ ap (λ (b : Bool). b && (bytes_eq e.0.1 account && true)) (turned e.0.0 batch ∙ sym (is_eq-slice_cmp batch e.0.0))
    ∙ ap (λ (b : Bool). is_eq (text_cmp batch e.0.0) && (b && true)) (turned e.0.1 account ∙ sym (is_eq-slice_cmp account e.0.1))
    ∙ sym (both_tied (text_cmp batch e.0.0) (text_cmp account e.0.1))

none_granted : (batch account : List ℕ) (es : List ((List ℕ × List ℕ) × ℕ)) → find grant_cmp (batch, account) es ≡ None → filter (is_granted batch account) (map (λ g. grant_values (grant_row g)) es) ≡ []
none_granted batch account [] none = refl
none_granted batch account (e ∷ es) none =
    let split = no_value (eq_by_cmp grant_cmp (batch, account) e.0) e.1 (find grant_cmp (batch, account) es) none in
    rw (granted_by_key batch account e ∙ split.0) (none_granted batch account es split.1)

-- nothing is granted yet under the batch and the account
no_grant : (batch account : List ℕ) (w : World) → get w.grants (batch, account) ≡ None → filter (is_granted batch account) (content_of w).grants ≡ []
no_grant batch account w none = none_granted batch account (entries w.grants) (sym (get-entries w.grants (batch, account)) ∙ none)

no_grant_yet : (gs : List GrantRow) (k : ℕ) (x : GrantRow) (w : World) → k < length gs → x ≡ get_or gs k x → AreNew w.grants gs → filter (is_granted x.batch x.account) (content_of (with_grants (take k gs) w)).grants ≡ []
no_grant_yet gs k x w below is new = no_grant x.batch x.account (with_grants (take k gs) w) (new_at_turn gs k x w.grants below is new)

-- an account has its row
has_account : (name : List ℕ) (w : World) → IsSome (get w.free name) → HasOne (is_named name) (content_of w).accounts
has_account name w there = at (get w.free name) there (account_in w name)
  where
    at : (o : Option _) → IsSome o → filter (is_named name) (content_of w).accounts ≡ found_account name (reserved_in w) (printed_in w) o → HasOne (is_named name) (content_of w).accounts
    at None some is = absurd cc
    at (Some free) some is = (_, is)

-- a grant's account is there, and nothing is granted yet under its batch and that account, when it is its turn
pub can_grant_next : (gs : List GrantRow) (k : ℕ) (x : GrantRow) (w : World) → k < length gs → x ≡ get_or gs k x → CanGrant gs w
    → HasOne (is_named x.account) (content_of (with_grants (take k gs) w)).accounts × (filter (is_granted x.batch x.account) (content_of (with_grants (take k gs) w)).grants ≡ [])
can_grant_next gs k x w below is can =
    (has_account x.account w (subst (λ (g : GrantRow). IsSome (get w.free g.account)) (sym is) (can.accounts k x below)), no_grant_yet gs k x w below is can.fresh)

-- ---- reports

numbers_report : (n m : ℕ) (k : KeptReport) → are_numbered n m (report_values k) ≡ ((k.report.job == n) && ((k.report.seq == m) && true))
numbers_report n m k = rw (test_number k.report.job n, test_number k.report.seq m) refl

other_way : (a b : ℕ) → (a == b) ≡ (b == a)
other_way a b = both_ways (a == b) (b == a) (λ e. eq-eqb b a (sym (eqb-true a b e))) (λ e. eq-eqb a b (sym (eqb-true b a e)))

reported_by_key : (n m : ℕ) (k : ℕ × ℕ) → ((k.0 == n) && ((k.1 == m) && true)) ≡ eq_by_cmp report_cmp (n, m) k
reported_by_key n m k =
    ap (λ (b : Bool). b && ((k.1 == m) && true)) (other_way k.0 n ∙ sym (unsigned_tied n k.0))
    ∙ ap (λ (b : Bool). is_eq (nat_cmp n k.0) && (b && true)) (other_way k.1 m ∙ sym (unsigned_tied m k.1))
    ∙ sym (both_tied (nat_cmp n k.0) (nat_cmp m k.1))

-- a report of this job and sequence number
abbrev IsOfKey : ℕ × ℕ → KeptReport → Type 0
IsOfKey key k = (k.report.job ≡ key.0) × (k.report.seq ≡ key.1)

none_reported : (n m : ℕ) (es : List ((ℕ × ℕ) × KeptReport)) → Each (λ (e : (ℕ × ℕ) × KeptReport). IsOfKey e.0 e.1) es → find report_cmp (n, m) es ≡ None → filter (are_numbered n m) (map (λ (r : (ℕ × ℕ) × KeptReport). report_values r.1) es) ≡ []
none_reported n m [] keyed none = refl
none_reported n m (e ∷ es) keyed none =
    let split = no_value (eq_by_cmp report_cmp (n, m) e.0) e.1 (find report_cmp (n, m) es) none in
    let by_key : ((e.1.report.job == n) && ((e.1.report.seq == m) && true)) ≡ ((e.0.0 == n) && ((e.0.1 == m) && true)) = ap (λ (j : ℕ). (j == n) && ((e.1.report.seq == m) && true)) keyed.0.0 ∙ ap (λ (s : ℕ). (e.0.0 == n) && ((s == m) && true)) keyed.0.1 in
    rw (numbers_report n m e.1 ∙ by_key ∙ reported_by_key n m e.0 ∙ split.0) (none_reported n m es keyed.1 split.1)

-- where each report is kept under its job and sequence number, none is kept of these
no_report : (n m : ℕ) (w : World) → AreReportsKeyed w → get w.reports (n, m) ≡ None → filter (are_numbered n m) (content_of w).reports ≡ []
no_report n m w keyed none = none_reported n m (entries w.reports) each (sym (get-entries w.reports (n, m)) ∙ none)
  where
    each : Each (λ (e : (ℕ × ℕ) × KeptReport). IsOfKey e.0 e.1) (entries w.reports)
    each = recursion_from_All (λ (e : (ℕ × ℕ) × KeptReport). IsOfKey e.0 e.1) (entries w.reports) (λ k d low.
        let e = get_or (entries w.reports) k d in
        let there : get w.reports e.0 ≡ Some e.1 = get-entries w.reports e.0 ∙ found_there report_cmp report_total (entries w.reports) k d low (entries_sorted w.reports) in
        subst (λ (o : Option KeptReport). IfSome o (IsOfKey e.0)) there (keyed e.0.0 e.0.1))

-- a report's job is there, and none is like it
pub can_add_report : (k : KeptReport) (w : World) → CanKeep k w → HasOne (is_numbered k.report.job) (content_of w).jobs × (filter (are_numbered k.report.job k.report.seq) (content_of w).reports ≡ [])
can_add_report k w can =
    let job = the_one (job_at k.report.job (rows w)) can.there in
    (one_job k.report.job job.0 w can.distinct job.1, no_report k.report.job k.report.seq w can.keyed can.fresh)
