-- A sound world has sound rows.
use Rattle.std.proofs.Common.{◌≡◌, inl, inr, ℕ, ℤ, pos, ◌+◌, ◌+ℤ◌, ◌<◌, ◌≤◌, List, [], ◌∷◌, Option, Some, None, IfSome, IsSome, IsSomeAnd, is_some, IsTrue, All, length, map, get_or, refl, sym, ap, subst, ◌∙◌, arith}
use Rattle.std.specs.List.{AllByRecursion as Each}
use Rattle.std.specs.FinMap.{get}
use Rattle.std.proofs.lemmas.List.Elements.{All-from_recursion, recursion_from_All, All-from_get_or}
use Rattle.queue_core.specs.Grants.{pages_to}
use Rattle.queue_core.specs.Sound.{IsSound, IsKept, IsGreatestCount, IsIdle, reserved, printed}
use Rattle.queue_core.specs.World.{granted}
use Rattle.queue_core.specs.Limits.{IsGrant}
use Rattle.queue_core.specs.World.{World, Entry, live_jobs, job_at}
use Rattle.queue_types.specs.declared.event.KeptReport.{KeptReport}
use Rattle.queue_types.specs.declared.job.Job.{Job}
use Rattle.queue_rows.specs.Accounts.{accounts_of, reserved_for, printed_for, IsBalanced}
use Rattle.queue_rows.specs.Grants.{IsGrantRow}
use Rattle.queue_rows.specs.Jobs.{IsJobRow, NumbersRise, has_number}
use Rattle.queue_rows.specs.Meta.{IsSoundMeta}
use Rattle.queue_rows.specs.Order.{AreInOrder}
use Rattle.queue_rows.specs.Pieces.{length_in}
use Rattle.queue_rows.specs.Reports.{IsReportRow, report_before, greatest}
use Rattle.queue_rows.specs.Rows.{Tables}
use Rattle.queue_rows.specs.Sound.{AreSoundRows}
use Rattle.queue_rows.specs.declared.rows.MetaRow.{MetaRow}
use Rattle.queue_rows.proofs.Defaults.{no_report, no_grant, no_account}
use Rattle.queue_rows.proofs.Filled.{octets_of, filled, each_bare, rise_bare, sound_bare, number_filled, live_filled, reserved_filled, printed_filled}
use Rattle.queue_rows.proofs.WorldGrants.{free_of, reports_of, grant_there, free_there, report_found, report_there, granted_told, sum_from_grant, count_from_free}
use Rattle.queue_rows.proofs.WorldJobs.{row_of, rows_in, rise_to, size_of, sizes_in, rows_told, all_sizes_told, each_map}
use Rattle.queue_rows.proofs.WorldOf.{IsBare, FitTogether, documents_in, entries_in, world_from}
use Rattle.queue_rows.proofs.WorldRows.{number_is, count_within, count_reached}

rows_each : (P : Job → Type 0) (es : List Entry) → Each (λ e. P e.row) es → Each P (map row_of es)
rows_each P [] h = tt
rows_each P (e ∷ es) h = (h.0, rows_each P es h.1)

some_and : {X : Type 0} (o : Option X) (P : X → Type 0) → IsSomeAnd o P → (v : X) × (o ≡ Some v) × P v
some_and None P h = absurd h
some_and (Some v) P h = (v, refl, h)

gone : {X : Type 0} (o : Option X) → (IsSome o → ⊥) → o ≡ None
gone None never = refl
gone (Some v) never = absurd (never refl)

pub count_is : (w : World) (rs : List KeptReport) → AreInOrder report_before rs → w.reports ≡ reports_of rs → (j : Job) → IsGreatestCount w j → j.count ≡ greatest j.number rs
count_is w rs order is j g =
    let under : greatest j.number rs ≤ j.count = elim (count_reached j.number 0 rs no_report) [
      | inl none ↦ omega (arith, none)
      | inr at ↦
          let r = get_or rs at.0 no_report in
          let there : get (reports_of rs) (r.report.job, r.report.seq) ≡ Some r = report_there rs order at.0 at.1 in
          let named : get w.reports (j.number, r.report.seq) ≡ Some r = ap (λ (m : _). get m (j.number, r.report.seq)) is ∙ subst (λ (n : ℕ). get (reports_of rs) (n, r.report.seq) ≡ Some r) at.2 there in
          let low : r.report.count ≤ j.count = subst (λ (o : Option KeptReport). IfSome o (λ k. k.report.count ≤ j.count)) named (g.0 r.report.seq) in
          omega (arith, low, at.3)
    ] in
    let over : j.count ≤ greatest j.number rs = elim g.1 [
      | inl none ↦ omega (arith, none)
      | inr has ↦
          let v = some_and (get w.reports (j.number, has.0)) (λ k. k.report.count ≡ j.count) has.1 in
          let row = report_found rs order (j.number, has.0) v.0 (sym (ap (λ (m : _). get m (j.number, has.0)) is) ∙ v.1) in
          let within = count_within j.number 0 rs row.0 no_report row.1 (ap (λ (q : ℕ × ℕ). q.0) row.2) in
          let same : (get_or rs row.0 no_report).report.count ≡ v.0.report.count = ap (λ (k : KeptReport). k.report.count) row.3 in
          omega (arith, within, same, v.2)
    ] in
    omega (arith, under, over)

pub rows_told_sound : (m : MetaRow) (t : Tables) (bs : List (List ℕ)) → map length bs ≡ map length_in t.pieces → t.meta ≡ m ∷ [] → IsSoundMeta m t.policy t.operators → IsSound (world_from m t bs) → FitTogether t → AreSoundRows t
rows_told_sound m t bs lengths only meta h f =
    let w = world_from m t bs in
    let js = t.jobs in
    let ds = t.documents in
    let full = filled js ds in
    let all = documents_in ds bs in
    let es = entries_in js ds all in
    let is : map row_of es ≡ full = rows_in js ds all in
    let sizes : map size_of all ≡ map octets_of ds = sizes_in ds bs (lengths ∙ ap (map length_in) f.pieces) in
    let each = λ (P : Job → Type 0) (kept : Each (λ e. P e.row) es). subst (Each P) is (rows_each P es kept) in
    let grants : All IsGrantRow t.grants = All-from_get_or IsGrantRow t.grants no_grant (λ k lt.
    let g = get_or t.grants k no_grant in
    subst (λ (o : Option ℕ). IfSome o (IsGrant g.batch g.account)) (grant_there t.grants f.grants k lt) (h.grants g.batch g.account)) in
    let pages : All (λ g. 1 ≤ g.pages) t.grants = λ k d lt. (grants k d lt).2 in
    let kept = λ (k : ℕ) (lt : k < length t.reports). let r = get_or t.reports k no_report in
    subst (λ (o : Option KeptReport). IfSome o (IsKept w r.report.job r.report.seq)) (report_there t.reports f.reports k lt) (h.reports r.report.job r.report.seq) in
    let granted_some = λ (j : Job) (none : pages_to j.owner t.grants ≡ 0). gone (get (free_of t.accounts) j.owner) (λ there. absurd (omega (arith, none, sum_from_grant t.grants f.grants pages j.owner ((h.accounts j.owner).0 there)))) in
    let counts : Each (λ j. j.count ≡ greatest j.number t.reports) full = each_map (IsGreatestCount w) (λ j. j.count ≡ greatest j.number t.reports) (λ j g. count_is w t.reports f.reports refl j g) full (each (IsGreatestCount w) h.counts) in
    let idle : Each (λ j. pages_to j.owner t.grants ≡ 0 → IsIdle j) full = each_map (λ j. get (free_of t.accounts) j.owner ≡ None → IsIdle j) (λ j. pages_to j.owner t.grants ≡ 0 → IsIdle j) (λ j g none. g (granted_some j none)) full (each (λ j. get (free_of t.accounts) j.owner ≡ None → IsIdle j) h.idle) in
    record {
      row = m;
      only = only;
      meta = meta;
      tables = record {
        jobs = record {
          rise = rise_bare 1 js ds m.next_number (subst (λ (l : List Job). NumbersRise 1 l m.next_number) is (rise_to 1 es m.next_number h.numbers));
          last = h.next;
          jobs = All-from_recursion IsJobRow js (sound_bare js ds (recursion_from_All IsBare js f.no_documents) (rows_told js ds all h.entries));
          grouped = f.grouped;
          sizes = all_sizes_told js ds all sizes f.grouped h.entries;
          pieces = f.pieces;
        };
        grants = record {
          grants = grants;
          grants_order = f.grants;
          accounts_order = f.accounts;
          most = λ a. subst (λ (n : ℕ). n ≤ 1000000000) (granted_told t.grants f.grants a) (h.most a);
          named = All-from_get_or (λ g. 1 ≤ accounts_of g.account t.accounts) t.grants no_grant (λ k lt.
              let g = get_or t.grants k no_grant in
              count_from_free t.accounts f.accounts g.account ((h.accounts g.account).1 (g.batch, ap is_some (grant_there t.grants f.grants k lt))));
          granted = All-from_get_or (λ a. 1 ≤ pages_to a.name t.grants) t.accounts no_account (λ k lt.
              let a = get_or t.accounts k no_account in
              sum_from_grant t.grants f.grants pages a.name ((h.accounts a.name).0 (ap is_some (free_there t.accounts f.accounts k lt))));
        };
        reports = record {
          reports = All-from_get_or IsReportRow t.reports no_report (λ k lt. let r = kept k lt in record { seq = r.positive; count = r.count; total = r.total });
          order = f.reports;
          there = All-from_get_or (λ k. IsTrue (has_number k.report.job js)) t.reports no_report (λ k lt.
              let r = get_or t.reports k no_report in
              sym (number_filled r.report.job js ds) ∙ number_is r.report.job full ∙ subst (λ (l : List Job). IsSome (job_at r.report.job l)) is (kept k lt).there);
          counts = All-from_recursion (λ j. j.count ≡ greatest j.number t.reports) js (each_bare (λ j. j.count ≡ greatest j.number t.reports) (λ j ds' e. e) js ds counts);
        };
        owners = record {
          live = λ caller. subst (λ (n : ℕ). n ≤ 100) (ap (live_jobs caller) is ∙ live_filled caller js ds) (h.live caller);
          idle = All-from_recursion (λ j. pages_to j.owner t.grants ≡ 0 → IsIdle j) js (each_bare (λ j. pages_to j.owner t.grants ≡ 0 → IsIdle j) (λ j ds' e. e) js ds idle);
          balanced = All-from_get_or (IsBalanced t.grants js) t.accounts no_account (λ k lt.
              let a = get_or t.accounts k no_account in
              let b : pos (granted a.name w) ≡ a.free +ℤ pos (reserved a.name w + printed a.name w) = subst (λ (o : Option ℤ). IfSome o (λ free. pos (granted a.name w) ≡ free +ℤ pos (reserved a.name w + printed a.name w))) (free_there t.accounts f.accounts k lt) (h.balances a.name) in
              let stored = f.sums k no_account lt in
              let held : reserved a.name w ≡ reserved_for a.name js = ap (reserved_for a.name) is ∙ reserved_filled a.name js ds in
              let done : printed a.name w ≡ printed_for a.name js = ap (printed_for a.name) is ∙ printed_filled a.name js ds in
              let sums : reserved a.name w + printed a.name w ≡ a.reserved + a.printed = omega (arith, held, done, stored.0, stored.1) in
              record { reserved = stored.0; printed = stored.1; granted = ap pos (sym (granted_told t.grants f.grants a.name)) ∙ b ∙ ap (λ (n : ℕ). a.free +ℤ pos n) sums });
        };
      };
    }
