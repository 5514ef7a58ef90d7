-- What is found by a key: the next number, an account, a grant, a report.
use Rattle.std.proofs.Common.{◌≡◌, ℕ, pos, List, [], ◌∷◌, map, filter, Bool, true, ◌&&◌, ◌==◌, get_or, Option, Some, None, refl, sym, ap, ap₂, subst, ◌∙◌, is_eq, Ordering, Equal, bytes_eq, slice_get}
use mathlib.Core.Bool.{and-true}
use Rattle.std.specs.FinMap.{get, get-entries, entries, entries_sorted}
use Rattle.std.specs.Option.{IfSome}
use Rattle.std.specs.Ordering.{ordering_then, nat_cmp}
use Rattle.std.specs.Cmp.{nat_eq_equiv, unsigned_tied}
use Rattle.std.specs.List.{AllByRecursion as Each}
use Rattle.std.specs.List.Sorted.{IsPermutation}
use Rattle.std.proofs.lemmas.List.Elements.{recursion_from_All}
use Rattle.std.proofs.lemmas.Map.Text.{is_eq-slice_cmp}
use Rattle.sqlite.specs.declared.types.Value.TheVariants.{Int, Text as Words}
use Rattle.sqlite.specs.Order.{Row, column}
use Rattle.sqlite.specs.Ops.{binary, is_true}
use Rattle.sqlite.specs.Collation.TheVariants.{Binary}
use Rattle.sqlite_sql.specs.declared.ops.BinaryOp.TheVariants.{Compare}
use Rattle.sqlite_sql.specs.declared.ops.CompareOp.TheVariants.{Eq}
use Rattle.sqlite.specs.State.{State, Shown}
use Rattle.sqlite.proofs.Callers.{one_permutation}
use Rattle.queue_core.specs.Sound.{IsSound, IsKept}
use Rattle.queue_core.specs.World.{World, grant_cmp, report_cmp, text_cmp}
use Rattle.queue_types.specs.declared.event.KeptReport.{KeptReport}
use Rattle.queue_rows.specs.Codes.{job_state_number, kind_number}
use Rattle.queue_rows.specs.Rows.{meta_row, grant_row}
use Rattle.queue_rows.specs.Versions.{third_version}
use Rattle.queue_rows.proofs.WorldMaps.{found_there}
use Rattle.queue_rows.proofs.WorldRows.{grant_same, report_same, report_total}
use Rattle.queue_tables.specs.Content.{Holds, content_of}
use Rattle.queue_tables.specs.Steps.{is_numbered}
use Rattle.queue_tables.specs.Values.{number, meta_values, meta_view, grant_values, grant_view, report_values, report_view}
use Rattle.queue_tables.proofs.Numbers.{numbered_meta}
use Rattle.queue_tables.proofs.Puts.{turned}
use Rattle.queue_tables.proofs.Showing.{shows_all}
use Rattle.queue_scenes.specs.Reports.{told_values}
use Rattle.queue_scenes.proofs.Lookup.{entry_of, found_in, rows_passing, map_alike, exactly}
use Rattle.queue_scenes.proofs.Statements.{select_next, select_next_is, select_grant, select_grant_is, select_report, select_report_is}
use Rattle.queue_scenes.proofs.Tests.{where_number_is, where_text_is}

-- ---- the next number

pub next_shown : {old : State} {rows : List Row} (new : State) (w : World) → Holds (content_of w) old → Shown select_next.text [] old new rows → rows ≡ (number w.next ∷ []) ∷ []
next_shown {old} {rows} new w has h =
    let p = shows_all select_next select_next_is
    old new [] meta_view (is_numbered 1) (λ v. column v 6 ∷ []) (content_of w).meta rows has.schema (λ r. refl) (λ r. refl) has.rows.meta h in
    let one : filter (is_numbered 1) (content_of w).meta ≡ meta_values (meta_row third_version w) ∷ [] = rw (numbered_meta (meta_row third_version w) refl) refl in
    one_permutation (number w.next ∷ []) rows (subst (λ (vs : List Row). IsPermutation (map (λ (v : Row). column v 6 ∷ []) vs) rows) one p)

-- ---- keys of two columns

then_eq : (r s : Ordering) → is_eq (ordering_then r s) ≡ (is_eq r && is_eq s)
then_eq Equal s = refl
then_eq _ s = refl

-- batch = ?1 AND account = ?2
pub is_grant_of : List ℕ → List ℕ → Row → Bool
is_grant_of batch account v = is_true (binary (Compare Eq Binary) (column v 0) (Words batch)) && (is_true (binary (Compare Eq Binary) (column v 1) (Words account)) && true)

abbrev grant_passes : List ℕ → List ℕ → (List ℕ × List ℕ) × ℕ → Bool
grant_passes batch account g = bytes_eq g.0.0 batch && bytes_eq g.0.1 account

grant-row : (batch account : List ℕ) (g : (List ℕ × List ℕ) × ℕ) → is_grant_of batch account (grant_values (grant_row g)) ≡ grant_passes batch account g
unfolding is_grant_of
grant-row batch account g = rw (where_text_is g.0.0 batch, where_text_is g.0.1 account, and-true _) refl

grant_by_key : (batch account : List ℕ) (g : (List ℕ × List ℕ) × ℕ) → grant_passes batch account g ≡ is_eq (grant_cmp (batch, account) g.0)
grant_by_key batch account g =
    ap₂ ◌&&◌ (turned g.0.0 batch ∙ sym (is_eq-slice_cmp batch g.0.0)) (turned g.0.1 account ∙ sym (is_eq-slice_cmp account g.0.1)) ∙ sym (then_eq (text_cmp batch g.0.0) (text_cmp account g.0.1))

abbrev pub grant_pages_row : (List ℕ × List ℕ) × ℕ → Row
grant_pages_row g = number g.1 ∷ []

one_grant : (k : List ℕ × List ℕ) (o : Option ℕ) → map (λ (v : Row). column v 2 ∷ []) (map (λ g. grant_values (grant_row g)) (entry_of k o)) ≡ map grant_pages_row (entry_of k o)
one_grant k None = refl
one_grant k (Some pages) = refl

pub grant_shown : {old : State} {rows : List Row} (new : State) (batch account : List ℕ) (w : World) → Holds (content_of w) old → Shown select_grant.text (Words batch ∷ Words account ∷ []) old new rows
    → rows ≡ map grant_pages_row (entry_of (batch, account) (get w.grants (batch, account)))
unfolding is_grant_of
grant_shown {old} {rows} new batch account w has h =
    let out : Row → Row = λ v. column v 2 ∷ [] in
    let p = shows_all select_grant select_grant_is
    old new (Words batch ∷ Words account ∷ []) grant_view (is_grant_of batch account) out (content_of w).grants rows has.schema (λ r. refl) (λ r. refl) has.rows.grants h in
    let kept : filter (is_grant_of batch account) (content_of w).grants ≡ map (λ g. grant_values (grant_row g)) (entry_of (batch, account) (get w.grants (batch, account)))
    = rows_passing (λ g. grant_values (grant_row g)) (is_grant_of batch account) (grant_passes batch account) (grant-row batch account) (entries w.grants)
    ∙ ap (map (λ g. grant_values (grant_row g))) (found_in grant_cmp grant_same (batch, account) (grant_passes batch account) (grant_by_key batch account) w.grants) in
    exactly (batch, account) grant_pages_row (get w.grants (batch, account)) rows
    (subst (λ (vs : List Row). IsPermutation vs rows) (ap (map out) kept ∙ one_grant (batch, account) (get w.grants (batch, account))) p)

-- ---- reports

-- job = ?1 AND seq = ?2
pub is_report_of : ℕ → ℕ → Row → Bool
is_report_of job seq v = is_true (binary (Compare Eq Binary) (column v 0) (Int (pos job))) && (is_true (binary (Compare Eq Binary) (column v 1) (Int (pos seq))) && true)

-- the row of a report under its key
abbrev keyed_values : (ℕ × ℕ) × KeptReport → Row
keyed_values r = number r.0.0 ∷ number r.0.1 ∷ number (kind_number r.1.report.kind) ∷ number r.1.report.count ∷ number (job_state_number r.1.state) ∷ number r.1.total ∷ []

abbrev report_passes : ℕ → ℕ → (ℕ × ℕ) × KeptReport → Bool
report_passes job seq r = (r.0.0 == job) && (r.0.1 == seq)

report-row : (job seq : ℕ) (r : (ℕ × ℕ) × KeptReport) → is_report_of job seq (keyed_values r) ≡ report_passes job seq r
unfolding is_report_of
report-row job seq r = rw (where_number_is r.0.0 job, where_number_is r.0.1 seq, and-true _) refl

report_by_key : (job seq : ℕ) (r : (ℕ × ℕ) × KeptReport) → report_passes job seq r ≡ is_eq (report_cmp (job, seq) r.0)
report_by_key job seq r =
    ap₂ ◌&&◌ (nat_eq_equiv.symm r.0.0 job ∙ sym (unsigned_tied job r.0.0)) (nat_eq_equiv.symm r.0.1 seq ∙ sym (unsigned_tied seq r.0.1)) ∙ sym (then_eq (nat_cmp job r.0.0) (nat_cmp seq r.0.1))

kept_of_some : (w : World) (n m : ℕ) (o : Option KeptReport) (k : KeptReport) → o ≡ Some k → IfSome o (IsKept w n m) → IsKept w n m k
kept_of_some w n m o k is kept = subst (λ (p : Option KeptReport). IfSome p (IsKept w n m)) is kept

-- each report of a sound world says its key
reports_keyed : (w : World) → IsSound w → Each (λ (r : (ℕ × ℕ) × KeptReport). report_values r.1 ≡ keyed_values r) (entries w.reports)
reports_keyed w sound = recursion_from_All (λ (r : (ℕ × ℕ) × KeptReport). report_values r.1 ≡ keyed_values r) (entries w.reports) (λ k d low.
    let e = get_or (entries w.reports) k d in
    let there : get w.reports e.0 ≡ Some e.1 = get-entries w.reports e.0 ∙ found_there report_cmp report_total (entries w.reports) k d low (entries_sorted w.reports) in
    let kept = kept_of_some w e.0.0 e.0.1 (get w.reports e.0) e.1 there (sound.reports e.0.0 e.0.1) in
    ap₂ (λ (n m : ℕ). number n ∷ number m ∷ number (kind_number e.1.report.kind) ∷ number e.1.report.count ∷ number (job_state_number e.1.state) ∷ number e.1.total ∷ []) kept.job kept.seq)

abbrev pub told_row : (ℕ × ℕ) × KeptReport → Row
told_row r = told_values r.1

one_report : (k : ℕ × ℕ) (o : Option KeptReport) → map (λ (v : Row). column v 2 ∷ column v 3 ∷ column v 4 ∷ column v 5 ∷ []) (map keyed_values (entry_of k o)) ≡ map told_row (entry_of k o)
one_report k None = refl
one_report k (Some r) = refl

pub report_shown : {old : State} {rows : List Row} (new : State) (job seq : ℕ) (w : World) → IsSound w → Holds (content_of w) old → Shown select_report.text (number job ∷ number seq ∷ []) old new rows
    → rows ≡ map told_row (entry_of (job, seq) (get w.reports (job, seq)))
unfolding is_report_of
report_shown {old} {rows} new job seq w sound has h =
    let out : Row → Row = λ v. column v 2 ∷ column v 3 ∷ column v 4 ∷ column v 5 ∷ [] in
    let p = shows_all select_report select_report_is
    old new (number job ∷ number seq ∷ []) report_view (is_report_of job seq) out (content_of w).reports rows has.schema (λ r. refl) (λ r. refl) has.rows.reports h in
    let kept : filter (is_report_of job seq) (content_of w).reports ≡ map keyed_values (entry_of (job, seq) (get w.reports (job, seq)))
    = ap (filter (is_report_of job seq)) (map_alike (λ (r : (ℕ × ℕ) × KeptReport). report_values r.1) keyed_values (entries w.reports) (reports_keyed w sound))
    ∙ rows_passing keyed_values (is_report_of job seq) (report_passes job seq) (report-row job seq) (entries w.reports)
    ∙ ap (map keyed_values) (found_in report_cmp report_same (job, seq) (report_passes job seq) (report_by_key job seq) w.reports) in
    exactly (job, seq) told_row (get w.reports (job, seq)) rows
    (subst (λ (vs : List Row). IsPermutation vs rows) (ap (map out) kept ∙ one_report (job, seq) (get w.reports (job, seq))) p)

-- a report that was found is of that key
pub report_keyed : (w : World) → IsSound w → (job seq : ℕ) (k : KeptReport) → get w.reports (job, seq) ≡ Some k → (k.report.job ≡ job) × (k.report.seq ≡ seq)
report_keyed w sound job seq k there = let kept = kept_of_some w job seq (get w.reports (job, seq)) k there (sound.reports job seq) in (kept.job, kept.seq)

-- ---- first rows

pub first_is : (rs : List Row) (row one : Row) → slice_get rs 0 ≡ Some row → rs ≡ one ∷ [] → row ≡ one
first_is rs row one some is =
    let e : ◌≡◌ {A = Option Row} (Some one) (Some row) = subst (λ (l : List Row). slice_get l 0 ≡ Some row) is some in
    let same : one ≡ row = cc in
    sym same
