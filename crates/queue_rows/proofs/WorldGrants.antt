-- Grants, accounts and reports of the world that rows stand for.
use Rattle.std.proofs.Common.{◌≡◌, ℕ, ℤ, ◌<◌, ◌≤◌, List, cond, Some, IsSome, is_some, All, length, map, get_or, sum_by, bytes_eq, refl, sym, ap, subst, ◌∙◌, arith}
use lib.Dec.{T}
use Rattle.std.specs.FinMap.{get, entries, from_sorted, is_sorted, get-from_sorted, entries-from_sorted}
use Rattle.std.specs.FinMap as finmap
use Rattle.std.specs.Cmp.Lexicographic.{nat_list_cmp_total}
use Rattle.queue_core.specs.Grants.{pages_to}
use Rattle.queue_core.specs.World.{text_cmp, grant_cmp, report_cmp}
use Rattle.queue_types.specs.declared.event.GrantRow.{GrantRow}
use Rattle.queue_types.specs.declared.event.KeptReport.{KeptReport}
use Rattle.queue_rows.proofs.Defaults.{no_report, no_grant, no_account}
use Rattle.queue_rows.specs.Accounts.{account_before, accounts_of}
use Rattle.queue_rows.specs.Grants.{grant_before}
use Rattle.queue_rows.specs.Order.{AreInOrder}
use Rattle.queue_rows.specs.Reports.{report_before}
use Rattle.queue_rows.proofs.WorldOf.{grant_entry, free_entry, report_entry}
use Rattle.queue_rows.specs.declared.rows.AccountRow.{AccountRow}
use Rattle.queue_rows.proofs.WorldMaps.{sorted_from}
use Rattle.queue_rows.proofs.WorldRows.{text_same, grant_same, report_same, grant_total, report_total, entries_climb, row_found, row_there, some_of, sum_over_map, positive_row, row_positive}

abbrev pub grants_of : List GrantRow → finmap.FinMap grant_cmp ℕ
grants_of gs = from_sorted (map grant_entry gs)

abbrev pub free_of : List AccountRow → finmap.FinMap text_cmp ℤ
free_of acs = from_sorted (map free_entry acs)

abbrev pub reports_of : List KeptReport → finmap.FinMap report_cmp KeptReport
reports_of rs = from_sorted (map report_entry rs)

pub grants_sorted : (gs : List GrantRow) → AreInOrder grant_before gs → T (is_sorted grant_cmp (map grant_entry gs))
grants_sorted gs h = sorted_from grant_cmp grant_total (map grant_entry gs) (entries_climb grant_cmp grant_before grant_entry no_grant (λ x y. refl) gs h)

pub free_sorted : (acs : List AccountRow) → AreInOrder account_before acs → T (is_sorted text_cmp (map free_entry acs))
free_sorted acs h = sorted_from text_cmp nat_list_cmp_total (map free_entry acs) (entries_climb text_cmp account_before free_entry no_account (λ x y. refl) acs h)

pub reports_sorted : (rs : List KeptReport) → AreInOrder report_before rs → T (is_sorted report_cmp (map report_entry rs))
reports_sorted rs h = sorted_from report_cmp report_total (map report_entry rs) (entries_climb report_cmp report_before report_entry no_report (λ x y. refl) rs h)

-- ---- what is there has a row

abbrev pub IsGrantAt : List GrantRow → List ℕ × List ℕ → ℕ → Type 0
IsGrantAt gs q v = (k : ℕ) × (k < length gs) × ((grant_entry (get_or gs k no_grant)).0 ≡ q) × ((get_or gs k no_grant).pages ≡ v)

pub grant_found : (gs : List GrantRow) → AreInOrder grant_before gs → (q : List ℕ × List ℕ) (v : ℕ) → get (grants_of gs) q ≡ Some v → IsGrantAt gs q v
grant_found gs h q v e = row_found grant_cmp grant_same grant_entry no_grant gs q v (sym (get-from_sorted grant_cmp (map grant_entry gs) q (grants_sorted gs h)) ∙ e)

pub grant_there : (gs : List GrantRow) → AreInOrder grant_before gs → (k : ℕ) → k < length gs → get (grants_of gs) (grant_entry (get_or gs k no_grant)).0 ≡ Some (get_or gs k no_grant).pages
grant_there gs h k lt = get-from_sorted grant_cmp (map grant_entry gs) (grant_entry (get_or gs k no_grant)).0 (grants_sorted gs h) ∙ row_there grant_cmp grant_total grant_entry no_grant gs k lt (grants_sorted gs h)

abbrev pub IsAccountAt : List AccountRow → List ℕ → ℤ → Type 0
IsAccountAt acs q v = (k : ℕ) × (k < length acs) × ((get_or acs k no_account).name ≡ q) × ((get_or acs k no_account).free ≡ v)

pub free_found : (acs : List AccountRow) → AreInOrder account_before acs → (q : List ℕ) (v : ℤ) → get (free_of acs) q ≡ Some v → IsAccountAt acs q v
free_found acs h q v e = row_found text_cmp text_same free_entry no_account acs q v (sym (get-from_sorted text_cmp (map free_entry acs) q (free_sorted acs h)) ∙ e)

pub free_there : (acs : List AccountRow) → AreInOrder account_before acs → (k : ℕ) → k < length acs → get (free_of acs) (get_or acs k no_account).name ≡ Some (get_or acs k no_account).free
free_there acs h k lt = get-from_sorted text_cmp (map free_entry acs) (get_or acs k no_account).name (free_sorted acs h) ∙ row_there text_cmp nat_list_cmp_total free_entry no_account acs k lt (free_sorted acs h)

abbrev pub IsReportAt : List KeptReport → ℕ × ℕ → KeptReport → Type 0
IsReportAt rs q v = (k : ℕ) × (k < length rs) × ((report_entry (get_or rs k no_report)).0 ≡ q) × (get_or rs k no_report ≡ v)

pub report_found : (rs : List KeptReport) → AreInOrder report_before rs → (q : ℕ × ℕ) (v : KeptReport) → get (reports_of rs) q ≡ Some v → IsReportAt rs q v
report_found rs h q v e = row_found report_cmp report_same report_entry no_report rs q v (sym (get-from_sorted report_cmp (map report_entry rs) q (reports_sorted rs h)) ∙ e)

pub report_there : (rs : List KeptReport) → AreInOrder report_before rs → (k : ℕ) → k < length rs → get (reports_of rs) (report_entry (get_or rs k no_report)).0 ≡ Some (get_or rs k no_report)
report_there rs h k lt = get-from_sorted report_cmp (map report_entry rs) (report_entry (get_or rs k no_report)).0 (reports_sorted rs h) ∙ row_there report_cmp report_total report_entry no_report rs k lt (reports_sorted rs h)

-- ---- sums

abbrev entry_amount : List ℕ → (List ℕ × List ℕ) × ℕ → ℕ
entry_amount a g = cond (bytes_eq g.0.1 a) g.1 0

pub granted_told : (gs : List GrantRow) → AreInOrder grant_before gs → (a : List ℕ) → sum_by (entry_amount a) (entries (grants_of gs)) ≡ pages_to a gs
granted_told gs h a = ap (sum_by (entry_amount a)) (entries-from_sorted grant_cmp (map grant_entry gs) (grants_sorted gs h)) ∙ sum_over_map (entry_amount a) grant_entry gs

abbrev pub account_in : GrantRow → List ℕ
account_in g = g.account

abbrev pub pages_in : GrantRow → ℕ
pages_in g = g.pages

abbrev pub name_in : AccountRow → List ℕ
name_in a = a.name

abbrev pub one_in : AccountRow → ℕ
one_in a = 1

-- ---- accounts and grants

abbrev pub HasGrant : List GrantRow → List ℕ → Type 0
HasGrant gs a = (batch : List ℕ) × IsSome (get (grants_of gs) (batch, a))

pub grant_from_sum : (gs : List GrantRow) → AreInOrder grant_before gs → (a : List ℕ) → 1 ≤ pages_to a gs → HasGrant gs a
grant_from_sum gs h a some =
    let row = positive_row account_in pages_in a no_grant gs some in
    let g = get_or gs row.0 no_grant in
    let there : get (grants_of gs) (g.batch, g.account) ≡ Some g.pages = grant_there gs h row.0 row.1 in
    (g.batch, subst (λ (n : List ℕ). IsSome (get (grants_of gs) (g.batch, n))) row.2 (ap is_some there))

pub sum_from_grant : (gs : List GrantRow) → AreInOrder grant_before gs → All (λ g. 1 ≤ g.pages) gs → (a : List ℕ) → HasGrant gs a → 1 ≤ pages_to a gs
sum_from_grant gs h pages a has =
    let v = some_of (get (grants_of gs) (has.0, a)) has.1 in
    let row = grant_found gs h (has.0, a) v.0 v.1 in
    row_positive account_in pages_in a no_grant gs row.0 row.1 (ap (λ (p : List ℕ × List ℕ). p.1) row.2) (pages row.0 no_grant row.1)

pub free_from_count : (acs : List AccountRow) → AreInOrder account_before acs → (a : List ℕ) → 1 ≤ accounts_of a acs → IsSome (get (free_of acs) a)
free_from_count acs h a some =
    let row = positive_row name_in one_in a no_account acs some in
    subst (λ (n : List ℕ). IsSome (get (free_of acs) n)) row.2 (ap is_some (free_there acs h row.0 row.1))

pub count_from_free : (acs : List AccountRow) → AreInOrder account_before acs → (a : List ℕ) → IsSome (get (free_of acs) a) → 1 ≤ accounts_of a acs
count_from_free acs h a has =
    let v = some_of (get (free_of acs) a) has in
    let row = free_found acs h a v.0 v.1 in
    row_positive name_in one_in a no_account acs row.0 row.1 row.2 (omega arith)
