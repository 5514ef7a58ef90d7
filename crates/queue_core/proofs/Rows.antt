-- One job changes, with its owner's free pages by the balance: the world stays sound.
use Rattle.std.proofs.Common.{◌≡◌, ℕ, ℤ, pos, ◌+ℤ◌, ◌-ℤ◌, ◌+◌, ◌*◌, ◌≤◌, List, [], ◌∷◌, map, refl, ap, sym, ◌∙◌, arith, subst, Bool, true, false, cond}
use Rattle.std.specs.Prelude.{Option, Some, None, IfSome, IsSomeAnd, is_some, bytes_eq, option_map, sum_by, ◌&&◌, ◌⊎◌}
use Rattle.std.specs.FinMap.{FinMap, get}
use Rattle.std.proofs.lemmas.Int.{ints}
use Rattle.std.proofs.lemmas.Option.{IfSome_then}
use Rattle.queue_types.specs.Job.{owed, is_live}
use Rattle.queue_core.specs.World.{World, with_row, text_cmp, report_cmp, job_at, granted}
use Rattle.queue_core.specs.Machine.{taken}
use Rattle.queue_core.specs.Limits.{IsMoment, IsSoundJob, FitsPhase}
use Rattle.std.specs.List.{AllByRecursion as Each}
use Rattle.queue_core.specs.Sound.{Rise, IsSound, IsSoundEntry, IsKept, IsGreatestCount, IsIdle, reserved, printed}
use Rattle.queue_types.specs.declared.job.Job.{Job}
use Rattle.queue_core.specs.World.{Entry}
use Rattle.queue_types.specs.declared.event.KeptReport.{KeptReport}
use Rattle.queue_core.proofs.Keep.{at, each-with_row, rise-with_row, some-with_row, sum-with_row}

-- x in place of j: not its number or owner
pub record Succeeds (x j : Job) : Type 0 where
  pub number : x.number ≡ j.number
  pub owner : x.owner ≡ j.owner
  pub live : cond (is_live x) 1 0 ≤ cond (is_live j) 1 0

-- nor its count
pub record Replaces (x j : Job) : Type 0 where
  pub number : x.number ≡ j.number
  pub owner : x.owner ≡ j.owner
  pub count : x.count ≡ j.count
  pub live : cond (is_live x) 1 0 ≤ cond (is_live j) 1 0

-- what never changes in a job
abbrev pub IsSameJob : Job → Job → Type 0
IsSameJob x j = (x.number ≡ j.number) × (x.owner ≡ j.owner) × (x.name ≡ j.name) × (x.copies ≡ j.copies) × (x.impressions ≡ j.impressions) × (x.created ≡ j.created)

pub same_job : (j : Job) → IsSameJob j j
same_job j = (refl, refl, refl, refl, refl, refl)

-- a sound job stays one where what changed is within the limits
pub still_sound : (x j : Job) → IsSameJob x j → IsSoundJob j → x.count ≤ 100000000 → IfSome x.begun IsMoment → IfSome x.ended IsMoment → x.documents ≤ 16 → x.octets ≤ x.documents * 16777216 → FitsPhase x.phase x → IsSoundJob x
still_sound x j (number, owner, name, copies, impressions, created) s count begun ended documents octets phase = record {
  number = rw number s.number;
  owner = rw owner s.owner;
  name = rw name s.name;
  copies = rw copies s.copies;
  impressions = rw impressions s.impressions;
  count = count;
  created = rw created s.created;
  begun = begun;
  ended = ended;
  documents = documents;
  octets = octets;
  phase = phase;
}

-- with the documents of j
pub record KeepsDocuments (x j : Job) : Type 0 where
  pub documents : x.documents ≡ j.documents
  pub octets : x.octets ≡ j.octets
  pub sound : IsSoundJob j → IsSoundJob x

-- what the account gets back
abbrev pub back : Job → Job → List ℕ → ℤ
back x j a = cond (bytes_eq x.owner a) (pos (taken j) -ℤ pos (taken x)) (pos 0)

abbrev pub with_jobs : World → FinMap text_cmp ℤ → List Entry → World
with_jobs w m es = record w { jobs = es; free = m }

some_map : (f : ℤ → ℤ) (o : Option ℤ) → is_some (option_map f o) ≡ is_some o
some_map f None = refl
some_map f (Some z) = refl

none_map : (f : ℤ → ℤ) (o : Option ℤ) → option_map f o ≡ None → o ≡ None
none_map f None e = refl
none_map f (Some z) e = absurd (cc)

live_part : (b l k : Bool) → cond l 1 0 ≤ cond k 1 0 → cond (b && l) 1 0 ≤ cond (b && k) 1 0
live_part true l k h = h
live_part false l k h = omega arith

balance : (o : Option ℤ) (b : Bool) (g r s p q oj ox cj cx : ℕ) → s + cond b oj 0 ≡ r + cond b ox 0 → q + cond b cj 0 ≡ p + cond b cx 0 → IfSome o (λ f. pos g ≡ f +ℤ pos (r + p)) → IfSome (option_map (λ f. f +ℤ cond b (pos (oj + cj) -ℤ pos (ox + cx)) (pos 0)) o) (λ f. pos g ≡ f +ℤ pos (s + q))
balance None b g r s p q oj ox cj cx es eq is = tt
balance (Some f) true g r s p q oj ox cj cx es eq is = omega (arith, ints)
balance (Some f) false g r s p q oj ox cj cx es eq is = omega (arith, ints)

same_owner : (x j : Job) → x.owner ≡ j.owner → (a : List ℕ) → bytes_eq j.owner a ≡ bytes_eq x.owner a
same_owner x j e a = ap (λ t. bytes_eq t a) (sym e)

-- ---- entries with the same rows

abbrev pub rows_of : List Entry → List Job
rows_of es = map (λ e. e.row) es

abbrev head_of : Job → List Job → Job
head_of d [] = d
head_of d (j ∷ js) = j

abbrev tail_of : List Job → List Job
tail_of [] = []
tail_of (j ∷ js) = js

no_rows : (x : Job) (xs : List Job) → (x ∷ xs) ≡ [] → ⊥
no_rows x xs e = absurd (cc)

rise-rows : (es fs : List Entry) (first next : ℕ) → rows_of es ≡ rows_of fs → Rise first fs next → Rise first es next
rise-rows [] [] first next same rise = rise
rise-rows [] (f ∷ fs) first next same rise = absurd (no_rows f.row (rows_of fs) (sym same))
rise-rows (e ∷ es) [] first next same rise = absurd (no_rows e.row (rows_of es) same)
rise-rows (e ∷ es) (f ∷ fs) first next same rise =
    let n : f.row.number ≡ e.row.number = ap (λ js. (head_of e.row js).number) (sym same) in
    (subst (λ k. first ≤ k) n rise.0, rise-rows es fs (e.row.number + 1) next (ap tail_of same) (subst (λ k. Rise (k + 1) fs next) n rise.1))

each-rows : (P : Job → Type 0) (es fs : List Entry) → rows_of es ≡ rows_of fs → Each (λ e. P e.row) fs → Each (λ e. P e.row) es
each-rows P [] fs same each = tt
each-rows P (e ∷ es) [] same each = absurd (no_rows e.row (rows_of es) same)
each-rows P (e ∷ es) (f ∷ fs) same each = (subst P (ap (head_of e.row) (sym same)) each.0, each-rows P es fs (ap tail_of same) each.1)

-- the entries after x took the place of j, with whatever documents
module _ (w : World) (m : FinMap text_cmp ℤ) (rep : FinMap report_cmp KeptReport) (es : List Entry) (x j : Job) (sound : IsSound w) (there : at x.number w.jobs ≡ Some j) (fits : Succeeds x j) (same : rows_of es ≡ rows_of (with_row w.jobs x)) (entries : Each IsSoundEntry es) (stays_idle : get w.free x.owner ≡ None → IsIdle j → IsIdle x) (free : (a : List ℕ) → get m a ≡ option_map (λ f. f +ℤ back x j a) (get w.free a))
    (kept : (n s : ℕ) → IfSome (get rep (n, s)) (IsKept (record w { jobs = es; free = m; reports = rep }) n s)) (greatest : Each (λ e. IsGreatestCount (record w { jobs = es; free = m; reports = rep }) e.row) (with_row w.jobs x)) where
  abbrev new : World
  new = record w { jobs = es; free = m; reports = rep }

  sum_after : (f : Job → ℕ) → sum_by f (rows_of es) + f j ≡ sum_by f (rows_of w.jobs) + f x
  sum_after f = ap (λ js. sum_by f js + f j) same ∙ sum-with_row f x j w.jobs there

  live_keeps : (u : List ℕ) → sum_by (λ (k : Job). cond (bytes_eq k.owner u && is_live k) 1 0) (rows_of es) ≤ 100
  live_keeps u =
      let sums = sum_after (λ (k : Job). cond (bytes_eq k.owner u && is_live k) 1 0) in
      let less : cond (bytes_eq x.owner u && is_live x) 1 0 ≤ cond (bytes_eq j.owner u && is_live j) 1 0 = subst (λ b. cond (b && is_live x) 1 0 ≤ cond (bytes_eq j.owner u && is_live j) 1 0) (same_owner x j fits.owner u) (live_part (bytes_eq j.owner u) (is_live x) (is_live j) fits.live) in
      let most = sound.live u in
      omega arith

  none_before : (a : List ℕ) → get m a ≡ None → get w.free a ≡ None
  none_before a e = none_map _ (get w.free a) (sym (free a) ∙ e)

  balance_keeps : (a : List ℕ) → IfSome (get m a) (λ f. pos (granted a new) ≡ f +ℤ pos (reserved a new + printed a new))
  balance_keeps a =
      let owing : reserved a new + cond (bytes_eq x.owner a) (owed j) 0 ≡ reserved a w + cond (bytes_eq x.owner a) (owed x) 0 = subst (λ b. reserved a new + cond b (owed j) 0 ≡ reserved a w + cond (bytes_eq x.owner a) (owed x) 0) (same_owner x j fits.owner a) (sum_after (λ (k : Job). cond (bytes_eq k.owner a) (owed k) 0)) in
      let counting : printed a new + cond (bytes_eq x.owner a) j.count 0 ≡ printed a w + cond (bytes_eq x.owner a) x.count 0 = subst (λ b. printed a new + cond b j.count 0 ≡ printed a w + cond (bytes_eq x.owner a) x.count 0) (same_owner x j fits.owner a) (sum_after (λ (k : Job). cond (bytes_eq k.owner a) k.count 0)) in
      subst (λ o. IfSome o (λ f. pos (granted a w) ≡ f +ℤ pos (reserved a new + printed a new))) (sym (free a))
      (balance (get w.free a) (bytes_eq x.owner a) (granted a w) (reserved a w) (reserved a new) (printed a w) (printed a new) (owed j) (owed x) j.count x.count owing counting (sound.balances a))

  pub job_keeps : IsSound new
  job_keeps = record {
    settings = sound.settings;
    numbers = rise-rows es (with_row w.jobs x) 1 w.next same (rise-with_row x j 1 w.next w.jobs there sound.numbers);
    next = sound.next;
    entries = entries;
    live = live_keeps;
    grants = sound.grants;
    most = sound.most;
    accounts = λ a. (λ h. (sound.accounts a).0 (sym (some_map _ (get w.free a)) ∙ ap is_some (sym (free a)) ∙ h), λ h. ap is_some (free a) ∙ some_map _ (get w.free a) ∙ (sound.accounts a).1 h);
    reports = kept;
    counts = each-rows (IsGreatestCount new) es (with_row w.jobs x) same greatest;
    idle = each-rows (λ k. get m k.owner ≡ None → IsIdle k) es (with_row w.jobs x) same (each-with_row (λ e. get w.free e.row.owner ≡ None → IsIdle e.row) (λ e. get m e.row.owner ≡ None → IsIdle e.row) x j w.jobs there
        (λ e p none. p (none_before e.row.owner none))
        (λ e r p none. stays_idle (none_before x.owner none) (subst IsIdle r (p (ap (λ (t : Job). get w.free t.owner) r ∙ ap (get w.free) (sym fits.owner) ∙ none_before x.owner none))))
        sound.idle);
    balances = balance_keeps;
  }

-- the same, where the count stays and no report is kept
module _ (w : World) (m : FinMap text_cmp ℤ) (es : List Entry) (x j : Job) (sound : IsSound w) (there : at x.number w.jobs ≡ Some j) (fits : Replaces x j) (same : rows_of es ≡ rows_of (with_row w.jobs x)) (entries : Each IsSoundEntry es) (stays_idle : get w.free x.owner ≡ None → IsIdle j → IsIdle x) (free : (a : List ℕ) → get m a ≡ option_map (λ f. f +ℤ back x j a) (get w.free a)) where
  count_keeps : (e : Entry) → e.row ≡ j → IsGreatestCount w e.row → IsGreatestCount w x
  count_keeps e r g =
      let n : e.row.number ≡ x.number = ap (λ (t : Job). t.number) r ∙ sym fits.number in
      let c : e.row.count ≡ x.count = ap (λ (t : Job). t.count) r ∙ sym fits.count in
      subst (λ c. ((seq : ℕ) → IfSome (get w.reports (x.number, seq)) (λ k. k.report.count ≤ c)) × ((c ≡ 0) ⊎ ((seq : ℕ) × IsSomeAnd (get w.reports (x.number, seq)) (λ k. k.report.count ≡ c)))) c
      (subst (λ n. ((seq : ℕ) → IfSome (get w.reports (n, seq)) (λ k. k.report.count ≤ e.row.count)) × ((e.row.count ≡ 0) ⊎ ((seq : ℕ) × IsSomeAnd (get w.reports (n, seq)) (λ k. k.report.count ≡ e.row.count)))) n g)

  pub row_keeps : IsSound (with_jobs w m es)
  row_keeps = job_keeps w m w.reports es x j sound there (record { number = fits.number; owner = fits.owner; live = fits.live }) same entries stays_idle free
      (λ n s. IfSome_then (get w.reports (n, s)) (sound.reports n s) (λ k p. record { job = p.job; seq = p.seq; there = ap (λ js. is_some (job_at n js)) same ∙ some-with_row n x j w.jobs there p.there; positive = p.positive; count = p.count; total = p.total }))
      (each-with_row (λ e. IsGreatestCount w e.row) (λ e. IsGreatestCount w e.row) x j w.jobs there (λ e p. p) count_keeps sound.counts)

-- the entries with x in the place of j are sound, where x keeps its documents
pub row_entries : (es : List Entry) (x j : Job) → at x.number es ≡ Some j → KeepsDocuments x j → Each IsSoundEntry es → Each IsSoundEntry (with_row es x)
row_entries es x j there keeps all = each-with_row IsSoundEntry IsSoundEntry x j es there (λ e p. p)
    (λ e r s. record {
      row = keeps.sound (subst IsSoundJob r s.row);
      documents = keeps.documents ∙ ap (λ (t : Job). t.documents) (sym r) ∙ s.documents;
      octets = keeps.octets ∙ ap (λ (t : Job). t.octets) (sym r) ∙ s.octets;
      sizes = s.sizes;
    })
    all

-- no account but the owner's moves
pub kept_amount : (o : Option ℤ) → o ≡ option_map (λ f. f +ℤ pos 0) o
kept_amount None = refl
kept_amount (Some f) = ap Some (omega (arith, ints))
