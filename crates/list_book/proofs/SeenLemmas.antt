-- What is read of the book's lists is what its world shows.
use Rattle.std.proofs.Common.{◌≡◌, ℕ, suc, ◌<◌, ◌≤◌, ◌+◌, ◌*◌, ◌^◌, List, [], ◌∷◌, length, map, refl, ap, sym, ◌∙◌, arith, Bool, true, false, cond}
use Rattle.std.specs.Prelude.{IfSome, nat_eq, nat_lt, ◌&&◌, Option, Some, None, find, filter, option_map, slice_get, ◌-◌, bytes_eq, sum_by, ℤ}
use Rattle.std.specs.List.{AllByRecursion as Each}
use Rattle.std.specs.FinMap.{empty, entries, from_sorted, entries-from_sorted, get, get-empty, get-from_sorted, same_map}
use Rattle.list_book.proofs.Keyed.{grant_exact, grant_total}
use Rattle.queue_core.specs.Limits.{IsSoundJob}
use Rattle.queue_core.specs.Shown.{charged_to, document_at, document_of, may_be_fetched, sheet_of}
use Rattle.queue_core.specs.Sound.{IsSound, IsSoundEntry, Rise, printed_for, reserved_for}
use Rattle.queue_core.specs.World.{World, Entry, grant_cmp, granted_in, known_grant, rows, job_at, cut, queue_counts, jobs_scene, has_expired, owners, rows_of_accounts}
use Rattle.queue_types.specs.declared.job.Job.{Job}
use Rattle.queue_types.specs.declared.document.Document.{Document}
use Rattle.list_book.specs.declared.lists.KeptDocument.{KeptDocument}
use Rattle.queue_types.specs.declared.event.GrantRow.{GrantRow}
use Rattle.list_book.specs.declared.lists.Lists.{Lists}
use Rattle.list_book.specs.Lists.{AreTotals, entry_of, entries_of, nth_of, documents_of, sheet_in, world_of}
use Rattle.list_book.specs.Tables.{free_map, grants_map, known_in, total_of}
use Rattle.list_book.proofs.Put.{rows_of}
use Rattle.std.proofs.lemmas.List.Sums.{sum_by-cons}
use Rattle.std.proofs.lemmas.Bool.{cond-true, lt-ltb}
use Rattle.std.proofs.lemmas.Option.{slice_get-map}
use Rattle.std.proofs.Math.Nat.{mul-le-mul_left}
use Rattle.queue_types.specs.Job.{owed, estimate, is_live}
use Rattle.queue_types.specs.declared.event.KnownGrant.{KnownGrant}
use Rattle.queue_types.specs.declared.sheet.AccountSheet.{AccountSheet}
use Rattle.queue_types.specs.declared.event.FreeRow.{FreeRow}
use Rattle.queue_types.specs.Event.{grant, expire}

-- ---- documents

found : (b : Bool) (ds : List KeptDocument) (j : Job) (e : Option Entry) (o : Option Job) → e ≡ option_map (entry_of ds) o → cond b (Some (entry_of ds j)) e ≡ option_map (entry_of ds) (cond b (Some j) o)
found true ds j e o same = refl
found false ds j e o same = same

entry_at : (ds : List KeptDocument) (js : List Job) (n : ℕ) → find (λ (e : Entry). nat_eq e.row.number n) (entries_of ds js) ≡ option_map (entry_of ds) (job_at n js)
entry_at ds [] n = refl
entry_at ds (j ∷ js) n = found (nat_eq j.number n) ds j _ (job_at n js) (entry_at ds js n)

pub document_is : (l : Lists) (job n : ℕ) → document_at (world_of l) job n ≡ document_of (option_map (entry_of l.documents.items) (job_at job l.jobs.items)) n
unfolding document_at
document_is l job n = ap (λ e. document_of e n) (entry_at l.documents.items l.jobs.items job)

both : {X : Type 0} (a b : Bool) (x y : Option X) → cond (a && b) x None ≡ cond a (cond b x None) None
both true b x y = refl
both false b x y = refl

pub no_job : (l : Lists) (job n : ℕ) → None ≡ job_at job l.jobs.items → None ≡ document_at (world_of l) job n
no_job l job n none = ap (λ o. document_of (option_map (entry_of l.documents.items) o) n) none ∙ sym (document_is l job n)

pub fetched : (l : Lists) (j : Job) (job n : ℕ) → Some j ≡ job_at job l.jobs.items → cond (may_be_fetched j) (nth_of j.number n l.documents.items) None ≡ document_at (world_of l) job n
fetched l j job n there =
    sym (both (may_be_fetched j) (nat_lt 0 n) (slice_get (documents_of j.number l.documents.items) (n - 1)) None)
    ∙ ap (λ o. document_of (option_map (entry_of l.documents.items) o) n) there ∙ sym (document_is l job n)

one_document : (b : Bool) (k : KeptDocument) (ds : List Document) (ks : List KeptDocument) → ds ≡ map (λ x. x.document) ks → cond b (k.document ∷ ds) ds ≡ map (λ x. x.document) (cond b (k ∷ ks) ks)
one_document true k ds ks same = ap (λ xs. k.document ∷ xs) same
one_document false k ds ks same = same

documents_are : (job : ℕ) (ks : List KeptDocument) → documents_of job ks ≡ map (λ x. x.document) (filter (λ x. nat_eq x.job job) ks)
documents_are job [] = refl
documents_are job (k ∷ ks) = one_document (nat_eq k.job job) k _ _ (documents_are job ks)

document_behind : (job n : ℕ) (ks : List KeptDocument) → slice_get (documents_of job ks) n ≡ option_map (λ x. x.document) (slice_get (filter (λ x. nat_eq x.job job) ks) n)
document_behind job n ks = ap (λ ds. slice_get ds n) (documents_are job ks) ∙ slice_get-map (λ x. x.document) (filter (λ x. nat_eq x.job job) ks) n

-- document n is that of the row behind n - 1 rows of its job
pub nth_is : (job n before : ℕ) (ks : List KeptDocument) (o : Option KeptDocument) → 1 ≤ n → before ≡ n - 1 → o ≡ slice_get (filter (λ x. nat_eq x.job job) ks) before → option_map (λ x. x.document) o ≡ nth_of job n ks
nth_is job n before ks o some is there =
    ap (option_map (λ x. x.document)) there
    ∙ sym (document_behind job before ks)
    ∙ ap (slice_get (documents_of job ks)) is
    ∙ sym (cond-true (nat_lt 0 n) (slice_get (documents_of job ks) (n - 1)) None (lt-ltb 0 n some))

-- ---- limits of a sound world

rising : (first next : ℕ) (es : List Entry) → Rise first es next → length es + first ≤ next
rising first next [] rise = omega (arith, rise)
rising first next (e ∷ es) rise = let more = rising (e.row.number + 1) next es rise.1 in omega (arith, more, rise.0)

pub few : (w : World) → IsSound w → length w.jobs < 2 ^ 31
few w sound = let e = rising 1 w.next w.jobs sound.numbers in omega (arith, e, sound.next)

length_of : (ds : List KeptDocument) (js : List Job) → length (entries_of ds js) ≡ length js
length_of ds [] = refl
length_of ds (j ∷ js) = ap (λ n. suc n) (length_of ds js)

pub few_jobs : (l : Lists) → IsSound (world_of l) → length l.jobs.items < 2 ^ 31
few_jobs l sound = let e = few (world_of l) sound in let same = length_of l.documents.items l.jobs.items in omega (arith, e, same)

each_job : (ds : List KeptDocument) (js : List Job) → Each IsSoundEntry (entries_of ds js) → Each IsSoundJob js
each_job ds [] each = tt
each_job ds (j ∷ js) each = (each.0.row, each_job ds js each.1)

either : (b : Bool) (x y n : ℕ) → x ≤ n → y ≤ n → cond b x y ≤ n
either true x y n h k = h
either false x y n h k = k

estimate_fits : (j : Job) → IsSoundJob j → estimate j ≤ 100000 * 999
estimate_fits j sound =
    let a : j.impressions * j.copies ≤ j.impressions * 999 = mul-le-mul_left j.impressions sound.copies.1 in
    let b : 999 * j.impressions ≤ 999 * 100000 = mul-le-mul_left 999 sound.impressions in
    omega (arith, a, b)

owed_fits : (j : Job) → IsSoundJob j → owed j ≤ 100000000
owed_fits j sound =
    let e = estimate_fits j sound in
    either (is_live j) (cond j.hold 0 (estimate j - j.count)) 0 100000000 (either j.hold 0 (estimate j - j.count) 100000000 (omega arith) (omega (arith, e))) (omega arith)

sum_fits : (f : Job → ℕ) (js : List Job) → Each IsSoundJob js → ((j : Job) → IsSoundJob j → f j ≤ 100000000) → sum_by f js ≤ length js * 100000000
sum_fits f [] each fits = omega arith
sum_fits f (j ∷ js) each fits = let here = fits j each.0 in let more = sum_fits f js each.1 fits in let e = sum_by-cons f j js in omega (arith, here, more, e)

pub reserved_fits : (l : Lists) (a : List ℕ) → IsSound (world_of l) → reserved_for a l.jobs.items < 2 ^ 64
reserved_fits l a sound =
    let few = few_jobs l sound in
    let sum = sum_fits (λ j. cond (bytes_eq j.owner a) (owed j) 0) l.jobs.items (each_job l.documents.items l.jobs.items sound.entries) (λ j s. either (bytes_eq j.owner a) (owed j) 0 100000000 (owed_fits j s) (omega arith)) in
    omega (arith, few, sum)

pub printed_fits : (l : Lists) (a : List ℕ) → IsSound (world_of l) → printed_for a l.jobs.items < 2 ^ 64
printed_fits l a sound =
    let few = few_jobs l sound in
    let sum = sum_fits (λ j. cond (bytes_eq j.owner a) j.count 0) l.jobs.items (each_job l.documents.items l.jobs.items sound.entries) (λ j s. either (bytes_eq j.owner a) j.count 0 100000000 s.count (omega arith)) in
    omega (arith, few, sum)

-- ---- grants

no_entries : entries (empty {X = ℕ} {R = grant_cmp}) ≡ []
no_entries =
    let same : from_sorted {X = ℕ} {R = grant_cmp} [] ≡ empty = same_map grant_total grant_exact _ _ (λ q. get-from_sorted grant_cmp [] q tt ∙ sym (get-empty grant_cmp q)) in
    ap entries (sym same) ∙ entries-from_sorted grant_cmp [] tt

pub nothing_granted : (a : List ℕ) → granted_in a empty ≡ 0
nothing_granted a = ap (sum_by (λ (g : (List ℕ × List ℕ) × ℕ). cond (bytes_eq g.0.1 a) g.1 0)) no_entries

-- what the tables know is what the world gives
pub known_is : (l : Lists) (rows : List GrantRow) → AreTotals l → map (known_in l.grants.entries l.accounts.entries) rows ≡ map (known_grant (world_of l)) rows
known_is l [] totals = refl
known_is l (g ∷ rows) totals =
    let rest = known_is l rows totals in
    let total = totals g.account in
    λ i. record { pages = get (grants_map l.grants.entries) (g.batch, g.account); granted = total i; free = get (free_map l.accounts.entries) g.account } ∷ rest i

pub grants_scene_is : (l : Lists) (now : ℕ) (rows : List GrantRow) (known : List KnownGrant) → known ≡ map (known_grant (world_of l)) rows → cut (world_of l) now (grant rows) ≡ record { settings = l.settings; jobs = []; free = []; live = 0; counts = queue_counts []; report = None; known = known; next = l.next }
grants_scene_is l now rows known of_known =
    let k = sym of_known in
    λ i. record { settings = l.settings; jobs = []; free = []; live = 0; counts = queue_counts []; report = None; known = k i; next = l.next }

pub sweep_scene_is : (l : Lists) (now : ℕ) (jobs : List Job) (free : List FreeRow) → jobs ≡ filter (has_expired l.settings.keep now) l.jobs.items → free ≡ rows_of_accounts (free_map l.accounts.entries) (owners jobs) → cut (world_of l) now expire ≡ jobs_scene l.settings jobs free
sweep_scene_is l now jobs free of_jobs of_free =
    let late : filter (has_expired l.settings.keep now) (map (λ e. e.row) (entries_of l.documents.items l.jobs.items)) ≡ jobs = ap (filter (has_expired l.settings.keep now)) (rows_of l.documents.items l.jobs.items) ∙ sym of_jobs in
    let accounts = ap (λ js. rows_of_accounts (free_map l.accounts.entries) (owners js)) late ∙ sym of_free in
    λ i. jobs_scene l.settings (late i) (accounts i)

-- a sheet is of the account that was asked for
pub sheet_named : (l : Lists) (a : List ℕ) (free : Option ℤ) → IfSome (option_map (sheet_in l a) free) (λ it. it.account ≡ a)
sheet_named l a None = tt
sheet_named l a (Some pages) = refl

-- the sheet is the world's
pub sheet_is : (l : Lists) (a : List ℕ) → AreTotals l → option_map (sheet_in l a) (get (free_map l.accounts.entries) a) ≡ sheet_of (world_of l) a
unfolding sheet_of
sheet_is l a totals =
    let total = totals a in
    let same : map (λ e. e.row) (entries_of l.documents.items l.jobs.items) ≡ l.jobs.items = rows_of l.documents.items l.jobs.items in
    λ i. option_map (λ free. record {
      account = a;
      granted = total i;
      free = free;
      reserved = reserved_for a (sym same i);
      printed = printed_for a (sym same i);
      jobs = charged_to a (sym same i);
    }) (get (free_map l.accounts.entries) a)

-- a sheet by its parts
pub same_sheet : (l : Lists) (a : List ℕ) (free : ℤ) (s : AccountSheet) → s.account ≡ a → s.granted ≡ total_of l.accounts.entries a → s.free ≡ free
    → s.reserved ≡ reserved_for a l.jobs.items → s.printed ≡ printed_for a l.jobs.items
    → s.jobs ≡ charged_to a l.jobs.items → s ≡ sheet_in l a free
same_sheet l a free s account granted pages reserved printed jobs =
    λ i. record { account = account i; granted = granted i; free = pages i; reserved = reserved i; printed = printed i; jobs = jobs i }
