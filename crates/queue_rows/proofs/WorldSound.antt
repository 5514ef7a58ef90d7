-- Sound rows stand for a sound world.
use Rattle.std.proofs.Common.{◌≡◌, inl, inr, ◌↔◌, ℕ, ℤ, pos, ◌+◌, ◌+ℤ◌, ◌≤◌, List, [], ◌∷◌, Option, Some, None, IfSome, IsSome, IsSomeAnd, length, map, get_or, refl, sym, ap, subst, ◌∙◌, arith}
use Rattle.std.specs.List.{AllByRecursion as Each}
use Rattle.std.specs.FinMap.{get}
use Rattle.std.proofs.lemmas.Bool.{cases_lt}
use Rattle.std.proofs.lemmas.List.Elements.{recursion_from_All}
use Rattle.queue_core.specs.Grants.{pages_to}
use Rattle.queue_core.specs.Sound.{IsSound, IsKept, IsGreatestCount, IsIdle, reserved, printed}
use Rattle.queue_core.specs.World.{granted}
use Rattle.queue_core.specs.Limits.{IsGrant}
use Rattle.queue_core.specs.World.{World, Entry, rows, live_jobs, job_at}
use Rattle.queue_types.specs.declared.event.GrantRow.{GrantRow}
use Rattle.queue_types.specs.declared.event.KeptReport.{KeptReport}
use Rattle.queue_types.specs.declared.job.Job.{Job}
use Rattle.queue_rows.specs.Accounts.{accounts_of, reserved_for, printed_for}
use Rattle.queue_rows.specs.Jobs.{IsJobRow, NumbersRise, has_number}
use Rattle.queue_rows.specs.Pieces.{length_in}
use Rattle.queue_rows.specs.Reports.{greatest}
use Rattle.queue_rows.specs.Rows.{Tables}
use Rattle.queue_rows.specs.Sound.{HaveSoundGrants, HaveSoundReports, AreSoundRows}
use Rattle.queue_rows.specs.declared.rows.AccountRow.{AccountRow}
use Rattle.queue_rows.proofs.Defaults.{no_report, no_grant, no_account}
use Rattle.queue_rows.proofs.Filled.{octets_of, filled, each_filled, rise_filled, sound_filled, number_filled, live_filled, reserved_filled, printed_filled}
use Rattle.queue_rows.proofs.WorldGrants.{grants_of, free_of, reports_of, grant_found, free_found, report_found, report_there, granted_told, HasGrant, grant_from_sum, free_from_count}
use Rattle.queue_rows.proofs.WorldJobs.{row_of, rows_in, rise_from, size_of, sizes_in, entries_sound, each_map}
use Rattle.queue_rows.proofs.WorldOf.{documents_in, entries_in, world_from}
use Rattle.queue_rows.proofs.WorldRows.{if_some, some_of, number_is, count_within, count_reached}

pub each_rows : (P : Job → Type 0) (es : List Entry) → Each P (map row_of es) → Each (λ e. P e.row) es
each_rows P [] h = tt
each_rows P (e ∷ es) h = (h.0, each_rows P es h.1)

pub is_grant : (gs : List GrantRow) (acs : List AccountRow) → HaveSoundGrants gs acs → (batch account : List ℕ) → IfSome (get (grants_of gs) (batch, account)) (IsGrant batch account)
is_grant gs acs h batch account = if_some (get (grants_of gs) (batch, account)) (IsGrant batch account) (λ v e.
    let row = grant_found gs h.grants_order (batch, account) v e in
    let g = get_or gs row.0 no_grant in
    let kept : IsGrant g.batch g.account g.pages = h.grants row.0 no_grant row.1 in
    let named : IsGrant batch account g.pages = subst (λ (q : List ℕ × List ℕ). IsGrant q.0 q.1 g.pages) row.2 kept in
    subst (IsGrant batch account) row.3 named)

pub account_has : (gs : List GrantRow) (acs : List AccountRow) → HaveSoundGrants gs acs → (a : List ℕ) → IsSome (get (free_of acs) a) ↔ HasGrant gs a
account_has gs acs h a = (
  λ there.
      let v = some_of (get (free_of acs) a) there in
      let row = free_found acs h.accounts_order a v.0 v.1 in
      grant_from_sum gs h.grants_order a (subst (λ (n : List ℕ). 1 ≤ pages_to n gs) row.2 (h.granted row.0 no_account row.1)),
  λ has.
      let v = some_of (get (grants_of gs) (has.0, a)) has.1 in
      let row = grant_found gs h.grants_order (has.0, a) v.0 v.1 in
      free_from_count acs h.accounts_order a (subst (λ (q : List ℕ × List ℕ). 1 ≤ accounts_of q.1 acs) row.2 (h.named row.0 no_grant row.1)),
)

pub is_kept : (w : World) (rs : List KeptReport) (js all : List Job) → HaveSoundReports rs js → ((n : ℕ) → has_number n all ≡ has_number n js) → rows w ≡ all → (n m : ℕ) → IfSome (get (reports_of rs) (n, m)) (IsKept w n m)
is_kept w rs js all h same is n m = if_some (get (reports_of rs) (n, m)) (IsKept w n m) (λ v e.
    let row = report_found rs h.order (n, m) v e in
    let r = get_or rs row.0 no_report in
    let job : r.report.job ≡ n = ap (λ (q : ℕ × ℕ). q.0) row.2 in
    let seq : r.report.seq ≡ m = ap (λ (q : ℕ × ℕ). q.1) row.2 in
    let limits = h.reports row.0 no_report row.1 in
    let there : IsSome (job_at r.report.job all) = sym (number_is r.report.job all) ∙ same r.report.job ∙ h.there row.0 no_report row.1 in
    subst (IsKept w n m) row.3 (record {
      job = job;
      seq = seq;
      there = subst (λ (l : List Job). IsSome (job_at n l)) (sym is) (subst (λ (k : ℕ). IsSome (job_at k all)) job there);
      positive = (omega (arith, seq, limits.seq.0), omega (arith, seq, limits.seq.1));
      count = limits.count;
      total = limits.total;
    }))

pub is_greatest : (w : World) (rs : List KeptReport) (js : List Job) → HaveSoundReports rs js → w.reports ≡ reports_of rs → (j : Job) → j.count ≡ greatest j.number rs → IsGreatestCount w j
is_greatest w rs js h is j count = (
  λ seq. subst (λ (m : _). IfSome (get m (j.number, seq)) (λ k. k.report.count ≤ j.count)) (sym is) (if_some (get (reports_of rs) (j.number, seq)) (λ k. k.report.count ≤ j.count) (λ v e.
      let row = report_found rs h.order (j.number, seq) v e in
      let within = count_within j.number 0 rs row.0 no_report row.1 (ap (λ (q : ℕ × ℕ). q.0) row.2) in
      subst (λ (k : KeptReport). k.report.count ≤ j.count) row.3 (omega (arith, within, count)))),
  elim (count_reached j.number 0 rs no_report) [
    | inl none ↦ inl (count ∙ none)
    | inr at ↦
        let r = get_or rs at.0 no_report in
        let there : get (reports_of rs) (r.report.job, r.report.seq) ≡ Some r = report_there rs h.order at.0 at.1 in
        let named : get (reports_of rs) (j.number, r.report.seq) ≡ Some r = subst (λ (n : ℕ). get (reports_of rs) (n, r.report.seq) ≡ Some r) at.2 there in
        let same : r.report.count ≡ j.count = at.3 ∙ sym count in
        let has : IsSomeAnd (get (reports_of rs) (j.number, r.report.seq)) (λ k. k.report.count ≡ j.count) = subst (λ (o : Option KeptReport). IsSomeAnd o (λ k. k.report.count ≡ j.count)) (sym named) same in
        inr (r.report.seq, subst (λ (m : _). IsSomeAnd (get m (j.number, r.report.seq)) (λ k. k.report.count ≡ j.count)) (sym is) has)
  ],
)

pub no_account_no_grant : (gs : List GrantRow) (acs : List AccountRow) → HaveSoundGrants gs acs → (a : List ℕ) → get (free_of acs) a ≡ None → pages_to a gs ≡ 0
no_account_no_grant gs acs h a none = elim (cases_lt 0 (pages_to a gs)) [
  | inl some ↦ absurd (let there : IsSome (get (free_of acs) a) = (account_has gs acs h a).1 (grant_from_sum gs h.grants_order a (omega arith)) in cc (none, there))
  | inr zero' ↦ omega arith
]

pub sound_world : (t : Tables) (bs : List (List ℕ)) → map length bs ≡ map length_in t.pieces → (h : AreSoundRows t) → IsSound (world_from h.row t bs)
sound_world t bs lengths h =
    let w = world_from h.row t bs in
    let js = t.jobs in
    let ds = t.documents in
    let full = filled js ds in
    let all = documents_in ds bs in
    let es = entries_in js ds all in
    let is : map row_of es ≡ full = rows_in js ds all in
    let sizes : map size_of all ≡ map octets_of ds = sizes_in ds bs (lengths ∙ ap (map length_in) h.tables.jobs.pieces) in
    let each = λ (P : Job → Type 0) (kept : Each P full). each_rows P es (subst (Each P) (sym is) kept) in
    let counts : Each (λ j. j.count ≡ greatest j.number t.reports) full = each_filled (λ j. j.count ≡ greatest j.number t.reports) (λ j ds' e. e) js ds (recursion_from_All _ js h.tables.reports.counts) in
    let idle : Each (λ j. pages_to j.owner t.grants ≡ 0 → IsIdle j) full = each_filled (λ j. pages_to j.owner t.grants ≡ 0 → IsIdle j) (λ j ds' e. e) js ds (recursion_from_All _ js h.tables.owners.idle) in
    record {
      settings = h.meta.settings;
      numbers = rise_from 1 es h.row.next_number (subst (λ (l : List Job). NumbersRise 1 l h.row.next_number) (sym is) (rise_filled 1 js ds h.row.next_number h.tables.jobs.rise));
      next = h.tables.jobs.last;
      entries = entries_sound js ds all sizes h.tables.jobs.sizes (sound_filled js ds h.tables.jobs.grouped h.tables.jobs.sizes (recursion_from_All IsJobRow js h.tables.jobs.jobs));
      live = λ caller. subst (λ (n : ℕ). n ≤ 100) (sym (ap (live_jobs caller) is ∙ live_filled caller js ds)) (h.tables.owners.live caller);
      grants = is_grant t.grants t.accounts h.tables.grants;
      most = λ a. subst (λ (n : ℕ). n ≤ 1000000000) (sym (granted_told t.grants h.tables.grants.grants_order a)) (h.tables.grants.most a);
      accounts = account_has t.grants t.accounts h.tables.grants;
      reports = is_kept w t.reports js full h.tables.reports (λ n. number_filled n js ds) is;
      counts = each (IsGreatestCount w) (each_map _ (IsGreatestCount w) (λ j e. is_greatest w t.reports js h.tables.reports refl j e) full counts);
      idle = each (λ j. get (free_of t.accounts) j.owner ≡ None → IsIdle j) (each_map _ (λ j. get (free_of t.accounts) j.owner ≡ None → IsIdle j) (λ j e none. e (no_account_no_grant t.grants t.accounts h.tables.grants j.owner none)) full idle);
      balances = λ a. if_some (get (free_of t.accounts) a) (λ free. pos (granted a w) ≡ free +ℤ pos (reserved a w + printed a w)) (λ v e.
          let row = free_found t.accounts h.tables.grants.accounts_order a v e in
          let x = get_or t.accounts row.0 no_account in
          let b = h.tables.owners.balanced row.0 no_account row.1 in
          let pages : granted a w ≡ pages_to a t.grants = granted_told t.grants h.tables.grants.grants_order a in
          let held : reserved a w ≡ reserved_for a js = ap (reserved_for a) is ∙ reserved_filled a js ds in
          let done : printed a w ≡ printed_for a js = ap (printed_for a) is ∙ printed_filled a js ds in
          let first : reserved_for x.name js ≡ reserved_for a js = ap (λ (n : List ℕ). reserved_for n js) row.2 in
          let second : printed_for x.name js ≡ printed_for a js = ap (λ (n : List ℕ). printed_for n js) row.2 in
          let third : pages_to x.name t.grants ≡ pages_to a t.grants = ap (λ (n : List ℕ). pages_to n t.grants) row.2 in
          let sums : x.reserved + x.printed ≡ reserved a w + printed a w = omega (arith, b.reserved, b.printed, held, done, first, second) in
          ap pos (pages ∙ sym third) ∙ b.granted ∙ ap (λ (n : ℕ). x.free +ℤ pos n) sums ∙ ap (λ (z : ℤ). z +ℤ pos (reserved a w + printed a w)) row.3);
    }
