-- A sound world is the one that its rows stand for.
use Rattle.std.proofs.Common.{◌≡◌, ℕ, ◌+◌, ◌<◌, List, Bool, Option, Some, IfSome, length, map, get_or, bytes_eq, cond, refl, sym, ap, subst, ◌∙◌, arith}
use lib.Dec.{T}
use Rattle.std.specs.declared.cmp.Ordering.{Ordering}
use Rattle.std.specs.Ordering.{is_lt}
use Rattle.std.specs.Cmp.{IsTotalOrder}
use Rattle.std.specs.Cmp.Lexicographic.{nat_list_cmp_total}
use Rattle.std.specs.List.{flat_map}
use Rattle.std.specs.FinMap.{FinMap, get, entries, from_sorted, is_sorted, entries_sorted, get-entries, entries-from_sorted, same_entries_map}
use Rattle.std.proofs.lemmas.List.{get_or-map, length-map}
use Rattle.std.proofs.lemmas.List.Elements.{All-map, recursion_from_All}
use Rattle.queue_types.specs.Job.{owed}
use Rattle.queue_core.specs.Sound.{IsSound, IsKept}
use Rattle.queue_core.specs.World.{World, Entry, text_cmp, grant_cmp, report_cmp}
use Rattle.queue_types.specs.declared.event.KeptReport.{KeptReport}
use Rattle.queue_types.specs.declared.job.Job.{Job}
use Rattle.queue_rows.specs.Accounts.{account_before, reserved_for, printed_for}
use Rattle.queue_rows.specs.Grants.{grant_before}
use Rattle.queue_rows.specs.Order.{AreInOrder}
use Rattle.queue_rows.specs.Reports.{report_before}
use Rattle.queue_rows.specs.Rows.{meta_row, job_row, document_rows, account_row, grant_row, report_row, rows_of, bytes_of}
use Rattle.queue_rows.specs.Sound.{AreSoundRows}
use Rattle.queue_rows.specs.Meta.{settings_in}
use Rattle.queue_rows.specs.Versions.{FitsPolicy, IsOf, Version, keep_in, number_of, operator_rows, operators_in, policy_row, policy_rows, first_version, second_version, third_version}
use Rattle.queue_types.specs.Settings.{AreSettings}
use Rattle.queue_rows.proofs.WorldFrom.{all_back, entries_back, lengths_entries}
use Rattle.queue_rows.proofs.WorldHas.{mapped_back, each_holds}
use Rattle.queue_rows.proofs.WorldJobs.{row_of}
use Rattle.queue_rows.proofs.WorldMaps.{climbs_from, found_there}
use Rattle.queue_rows.proofs.WorldOf.{IsBare, documents_in, entries_in, world_from, grant_entry, free_entry, report_entry}
use Rattle.queue_rows.proofs.WorldRows.{grant_total, report_total, sum_over_map}
use Rattle.queue_rows.proofs.WorldTold.{rows_told_sound}

order_of : {X K V : Type 0} (R : K → K → Ordering) → IsTotalOrder R → (before : X → X → Bool) (entry : X → K × V) → ((x y : X) → before x y ≡ is_lt (R (entry x).0 (entry y).0)) → (xs : List X) → T (is_sorted R (map entry xs)) → AreInOrder before xs
order_of {X} {K} {V} R o before entry is xs sorted k d lt =
    let less = climbs_from R o (map entry xs) sorted k (entry d) (omega (arith, length-map xs entry)) in
    let left : get_or (map entry xs) k (entry d) ≡ entry (get_or xs k d) = get_or-map entry xs k d (entry d) (omega arith) in
    let right : get_or (map entry xs) (k + 1) (entry d) ≡ entry (get_or xs (k + 1) d) = get_or-map entry xs (k + 1) d (entry d) lt in
    is (get_or xs k d) (get_or xs (k + 1) d) ∙ ap (λ (p : K × V). is_lt (R p.0 (entry (get_or xs (k + 1) d)).0)) (sym left)
    ∙ ap (λ (p : K × V). is_lt (R (get_or (map entry xs) k (entry d)).0 p.0)) (sym right) ∙ ap is_lt less

sorted_rows : {X K V : Type 0} {R : K → K → Ordering} (m : FinMap R V) (entry : X → K × V) (xs : List X) → entries m ≡ map entry xs → T (is_sorted R (map entry xs))
sorted_rows {X} {K} {V} {R} m entry xs e = subst (λ (l : List (K × V)). T (is_sorted R l)) e (entries_sorted m)

same_map_of : {X K V : Type 0} {R : K → K → Ordering} (m : FinMap R V) (entry : X → K × V) (xs : List X) → entries m ≡ map entry xs → from_sorted (map entry xs) ≡ m
same_map_of {R = R} m entry xs e = same_entries_map (from_sorted (map entry xs)) m (entries-from_sorted R (map entry xs) (sorted_rows m entry xs e) ∙ sym e)

-- ---- entries of the maps, and their rows

grants_kept : (w : World) → entries w.grants ≡ map grant_entry (map grant_row (entries w.grants))
grants_kept w = sym (mapped_back grant_row grant_entry (entries w.grants) (each_holds (λ e. grant_entry (grant_row e) ≡ e) (λ e. refl) (entries w.grants)))

free_kept : (w : World) → entries w.free ≡ map free_entry (map (account_row w) (entries w.free))
free_kept w = sym (mapped_back (account_row w) free_entry (entries w.free) (each_holds (λ e. free_entry (account_row w e) ≡ e) (λ e. refl) (entries w.free)))

-- a kept report has the key under which it is kept
report_at : (w : World) → IsSound w → (k : ℕ) (d : (ℕ × ℕ) × KeptReport) → k < length (entries w.reports) → report_entry (report_row (get_or (entries w.reports) k d)) ≡ get_or (entries w.reports) k d
report_at w sound k d lt =
    let e = get_or (entries w.reports) k d in
    let there : get w.reports e.0 ≡ Some e.1 = get-entries w.reports e.0 ∙ found_there report_cmp report_total (entries w.reports) k d lt (entries_sorted w.reports) in
    let kept : IsKept w e.0.0 e.0.1 e.1 = subst (λ (o : Option KeptReport). IfSome o (IsKept w e.0.0 e.0.1)) there (sound.reports e.0.0 e.0.1) in
    λ i. ((kept.job i, kept.seq i), e.1)

reports_kept : (w : World) → IsSound w → entries w.reports ≡ map report_entry (map report_row (entries w.reports))
reports_kept w sound = sym (mapped_back report_row report_entry (entries w.reports) (recursion_from_All (λ e. report_entry (report_row e) ≡ e) (entries w.reports) (λ k d lt. report_at w sound k d lt)))

reserved_bare : (a : List ℕ) (es : List Entry) → reserved_for a (map row_of es) ≡ reserved_for a (map job_row es)
reserved_bare a es = sum_over_map (λ (j : Job). cond (bytes_eq j.owner a) (owed j) 0) row_of es ∙ sym (sum_over_map (λ (j : Job). cond (bytes_eq j.owner a) (owed j) 0) job_row es)

printed_bare : (a : List ℕ) (es : List Entry) → printed_for a (map row_of es) ≡ printed_for a (map job_row es)
printed_bare a es = sum_over_map (λ (j : Job). cond (bytes_eq j.owner a) j.count 0) row_of es ∙ sym (sum_over_map (λ (j : Job). cond (bytes_eq j.owner a) j.count 0) job_row es)

-- ---- the whole

-- the seconds for which jobs are kept
pub keep_back : (n : Version) (w : World) → IsOf n w → keep_in (policy_rows n w.settings.keep) ≡ w.settings.keep
keep_back first_version w fits = sym fits.0
keep_back second_version w fits = refl
keep_back third_version w fits = refl

-- the operators
pub operators_back : (n : Version) (w : World) → IsOf n w → operators_in (operator_rows n w.settings.operators) ≡ w.settings.operators
operators_back first_version w fits = sym fits.1
operators_back second_version w fits = sym fits
operators_back third_version w fits = refl

policy_fits : (n : Version) (keep : ℕ) (operators : List (List ℕ)) → FitsPolicy (number_of n) (policy_rows n keep) (operator_rows n operators)
policy_fits first_version keep operators = refl
policy_fits second_version keep operators = (refl, (policy_row keep, refl, refl))
policy_fits third_version keep operators = (refl, (policy_row keep, refl, refl))

settings_sound : (n : Version) (w : World) → IsOf n w → AreSettings w.settings → AreSettings (settings_in (keep_in (policy_rows n w.settings.keep)) (operators_in (operator_rows n w.settings.operators)) (meta_row n w))
settings_sound n w fits sound =
    let keep = sym (keep_back n w fits) in
    let operators = sym (operators_back n w fits) in
    subst (λ os. AreSettings (record w.settings { keep = keep_in (policy_rows n w.settings.keep); operators = os })) operators (subst (λ (k : ℕ). AreSettings (record w.settings { keep = k })) keep sound)

pub world_back : (n : Version) (w : World) → IsOf n w → IsSound w → world_from (meta_row n w) (rows_of n w) (bytes_of w) ≡ w
world_back n w fits sound =
    let keep = keep_back n w fits in
    let operators = operators_back n w fits in
    let own = flat_map document_rows w.jobs in
    let back = entries_back w.jobs 1 w.next sound.numbers sound.entries in
    let jobs : entries_in (map job_row w.jobs) own (documents_in own (bytes_of w)) ≡ w.jobs = ap (entries_in (map job_row w.jobs) own) (all_back w.jobs) ∙ back.1 in
    let grants : from_sorted (map grant_entry (map grant_row (entries w.grants))) ≡ w.grants = same_map_of w.grants grant_entry (map grant_row (entries w.grants)) (grants_kept w) in
    let free : from_sorted (map free_entry (map (account_row w) (entries w.free))) ≡ w.free = same_map_of w.free free_entry (map (account_row w) (entries w.free)) (free_kept w) in
    let reports : from_sorted (map report_entry (map report_row (entries w.reports))) ≡ w.reports = same_map_of w.reports report_entry (map report_row (entries w.reports)) (reports_kept w sound) in
    λ i. record { settings = record w.settings { keep = keep i; operators = operators i }; jobs = jobs i; next = w.next; grants = grants i; free = free i; reports = reports i }

pub rows_are_sound : (n : Version) (w : World) → IsOf n w → IsSound w → AreSoundRows (rows_of n w)
rows_are_sound n w fits sound =
    rows_told_sound (meta_row n w) (rows_of n w) (bytes_of w) (lengths_entries w.jobs) refl (record { one = refl; schema = policy_fits n w.settings.keep w.settings.operators; settings = settings_sound n w fits sound.settings }) (subst IsSound (sym (world_back n w fits sound)) sound) (record {
      no_documents = All-map IsBare job_row w.jobs (λ k d lt. (refl, refl));
      grouped = (entries_back w.jobs 1 w.next sound.numbers sound.entries).0;
      pieces = refl;
      grants = order_of grant_cmp grant_total grant_before grant_entry (λ x y. refl) (map grant_row (entries w.grants)) (sorted_rows w.grants grant_entry (map grant_row (entries w.grants)) (grants_kept w));
      accounts = order_of text_cmp nat_list_cmp_total account_before free_entry (λ x y. refl) (map (account_row w) (entries w.free)) (sorted_rows w.free free_entry (map (account_row w) (entries w.free)) (free_kept w));
      reports = order_of report_cmp report_total report_before report_entry (λ x y. refl) (map report_row (entries w.reports)) (sorted_rows w.reports report_entry (map report_row (entries w.reports)) (reports_kept w sound));
      sums = All-map (λ a. (a.reserved ≡ reserved_for a.name (map job_row w.jobs)) × (a.printed ≡ printed_for a.name (map job_row w.jobs))) (account_row w) (entries w.free) (λ k d lt. (reserved_bare (get_or (entries w.free) k d).0 w.jobs, printed_bare (get_or (entries w.free) k d).0 w.jobs));
    })
