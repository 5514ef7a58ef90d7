-- What a report makes of what is a caller's own.
use Rattle.std.proofs.Common.{◌≡◌, ℕ, List, [], ◌∷◌, refl, ap, sym, ◌∙◌, subst, inl, inr, Bool, true, false, cond}
use Rattle.std.specs.Prelude.{Some, None, nat_eq, bytes_eq, unwrap_or, ◌||◌}
use Rattle.std.specs.List.{AllByRecursion as Each}
use Rattle.std.specs.FinMap.{get}
use Rattle.queue_types.specs.Settings.{SettingValues}
use Rattle.queue_types.specs.Event.{Decision, tell}
use Rattle.queue_core.specs.World.{World, Entry, rows, cut, made_on, numbered, owner_row, queue_counts, has_number}
use Rattle.queue_core.specs.Machine.{decision, step, accepted}
use Rattle.queue_core.specs.Sound.{IsSound}
use Rattle.queue_types.specs.declared.job.Job.{Job}
use Rattle.queue_types.specs.declared.event.Report.{Report}
use Rattle.queue_types.specs.declared.event.Scene.{Scene}
use Rattle.queue_laws.specs.Own.{Own, own, own_jobs}
use Rattle.queue_laws.proofs.Asked.{nothing_by, each_credited, number_of}
use Rattle.queue_laws.proofs.Base.{at}
use Rattle.queue_laws.proofs.Callers.{IsBy, IsNumberOf, own_made, own_made_on, others_made}
use Rattle.queue_laws.proofs.Seen.{named, own_or_others, own_free_row, own_account, each_own}
use Rattle.queue_laws.proofs.Telling.{IsAccepted, declined, known, taken, telling, named_before}

-- ---- an accepted report is a change by the owner of its job

accepted_by : (w : World) (now : ℕ) (r : Report) (d : Decision) → IsSound w → (a : IsAccepted w now r d) → (owner : List ℕ) → a.before.owner ≡ owner → IsBy owner w d.change
accepted_by w now r d sound a owner own =
    let x : Job = a.after in
    let here = named_before w now r d a in
    let number : IsNumberOf owner r.job w.jobs = subst (λ o. IsNumberOf o r.job w.jobs) own (number_of r.job 1 w.next a.before w.jobs sound.numbers here.0) in
    let same : x.number ≡ r.job = ap (λ (k : Job). k.number) a.moved.0 ∙ here.1 in
    let mine : x.owner ≡ owner = ap (λ (k : Job). k.owner) a.moved.0 ∙ own in
    let by : IsBy owner w (accepted (cut w now (tell r)) r x).change = record {
      jobs = ((mine, subst (λ n. IsNumberOf owner n w.jobs) (sym same) number), tt);
      document = tt;
      free = each_credited w owner a.before x a.rest (numbered r.job (rows w)) a.jobs own;
      grants = refl;
      report = number;
      next = inl refl;
    } in
    subst (λ (d : Decision). IsBy owner w d.change) (sym a.is) by

-- ---- whose job it is

-- the job of a number that is u's is among u's
pub own_has : (u : List ℕ) (n : ℕ) (es : List Entry) (j : Job) → at n es ≡ Some j → bytes_eq j.owner u ≡ true → has_number n (own_jobs u es) ≡ true
own_has u n [] j there own = absurd (cc)
own_has u n (e ∷ es) j there own =
    elim (nat_eq e.row.number n) as (λ t. nat_eq e.row.number n ≡ t → cond t (Some e.row) (at n es) ≡ Some j → has_number n (cond (bytes_eq e.row.owner u) (e ∷ own_jobs u es) (own_jobs u es)) ≡ true) [
      | true ↦ λ is there.
          let same : e.row ≡ j = cc in
          ap (λ b. has_number n (cond b (e ∷ own_jobs u es) (own_jobs u es))) (ap (λ (k : Job). bytes_eq k.owner u) same ∙ own) ∙ ap (λ b. b || has_number n (own_jobs u es)) is
      | false ↦ λ is there.
          elim (bytes_eq e.row.owner u) as (λ b. has_number n (cond b (e ∷ own_jobs u es) (own_jobs u es)) ≡ true) [
            | true ↦ ap (λ b. b || has_number n (own_jobs u es)) is ∙ own_has u n es j there own
            | false ↦ own_has u n es j there own
          ]
    ] refl there

-- no own job has a number that none of them is named by
none_has : (n : ℕ) (es : List Entry) → named n es ≡ [] → has_number n es ≡ false
none_has n [] e = refl
none_has n (x ∷ es) e =
    elim (nat_eq x.row.number n) as (λ t. cond t (x.row ∷ named n es) (named n es) ≡ [] → (t || has_number n es) ≡ false) [
      | true ↦ λ e. absurd (cc)
      | false ↦ λ e. none_has n es e
    ] e

-- where u has a job of that number, all jobs of that number are u's
pub all_own : (u : List ℕ) (n : ℕ) (w : World) → IsSound w → has_number n (own_jobs u w.jobs) ≡ true → numbered n (rows w) ≡ named n (own_jobs u w.jobs)
all_own u n w sound has = elim (own_or_others u n 1 w.next w.jobs sound.numbers) as (λ o. numbered n (rows w) ≡ named n (own_jobs u w.jobs)) [
  | inl is ↦ is
  | inr others ↦ (let no : has_number n (own_jobs u w.jobs) ≡ false = none_has n (own_jobs u w.jobs) others.0 in absurd (cc))
]

-- ---- a report on another's job, or on none

module _ (u : List ℕ) (w : World) (now : ℕ) (r : Report) (sound : IsSound w) (no : has_number r.job (own_jobs u w.jobs) ≡ false) where
  abbrev by : Decision → Own
  by d = own u (made_on d.change w)

  others_taken : (a : IsAccepted w now r (decision (cut w now (tell r)) now (tell r))) → (b : Bool) → bytes_eq a.before.owner u ≡ b → by (decision (cut w now (tell r)) now (tell r)) ≡ own u w
  others_taken a true is = let yes : has_number r.job (own_jobs u w.jobs) ≡ true = own_has u r.job w.jobs a.before (named_before w now r (decision (cut w now (tell r)) now (tell r)) a).0 is in absurd (cc)
  others_taken a false is =
      let d : Decision = decision (cut w now (tell r)) now (tell r) in
      let none : unwrap_or d.change.next w.next ≡ w.next = ap (λ (d : Decision). unwrap_or d.change.next w.next) a.is in
      others_made u a.before.owner w d.change is (accepted_by w now r d sound a a.before.owner refl) ∙ ap (λ n. record (own u w) { next = n }) none

  pub heard_others : own u (step w now (tell r)).world ≡ own u w
  heard_others = elim (telling w now r) as (λ _. by (decision (cut w now (tell r)) now (tell r)) ≡ own u w) [
    | declined cause e ↦ ap by e
    | known k kept same e ↦ ap by e
    | taken a ↦ others_taken a (bytes_eq a.before.owner u) refl
  ]

-- ---- a report on a job of the caller's own

-- the scene that is cut from what is the caller's own
abbrev pub seen_report : List ℕ → SettingValues → Own → Report → Scene
seen_report u s o r = record {
  settings = s;
  jobs = named r.job o.jobs;
  free = own_free_row u o (named r.job o.jobs);
  live = 0;
  counts = queue_counts [];
  report = o.reports r.job r.seq;
  known = [];
  next = 1;
}

abbrev pub own_heard_on : List ℕ → SettingValues → ℕ → Report → Own → Own
own_heard_on u s now r o = own_made_on u (decision (seen_report u s o r) now (tell r)).change o

module _ (u : List ℕ) (w : World) (now : ℕ) (r : Report) (sound : IsSound w) (yes : has_number r.job (own_jobs u w.jobs) ≡ true) where
  all : numbered r.job (rows w) ≡ named r.job (own_jobs u w.jobs)
  all = all_own u r.job w sound yes

  free_same : owner_row w.free (numbered r.job (rows w)) ≡ own_free_row u (own u w) (named r.job (own_jobs u w.jobs))
  free_same = own_account u r.job w all

  kept_same : get w.reports (r.job, r.seq) ≡ (own u w).reports r.job r.seq
  kept_same = sym (ap (λ b. cond b (get w.reports (r.job, r.seq)) None) yes)

  scene_same : cut w now (tell r) ≡ seen_report u w.settings (own u w) r
  scene_same = λ i. record { settings = w.settings; jobs = all i; free = free_same i; live = 0; counts = queue_counts []; report = kept_same i; known = []; next = 1 }

  decided_same : decision (cut w now (tell r)) now (tell r) ≡ decision (seen_report u w.settings (own u w) r) now (tell r)
  decided_same = ap (λ (s : Scene). decision s now (tell r)) scene_same

  pub heard_reply : (step w now (tell r)).reply ≡ (decision (seen_report u w.settings (own u w) r) now (tell r)).reply
  heard_reply = ap (λ (d : Decision). d.reply) decided_same

  first_own : (j : Job) (rest : List Job) → numbered r.job (rows w) ≡ j ∷ rest → j.owner ≡ u
  first_own j rest e = (subst (λ js. Each (λ (j : Job). j.owner ≡ u) js) (sym all ∙ e) (each_own u r.job w)).0

  heard_by : IsBy u w (decision (cut w now (tell r)) now (tell r)).change
  heard_by = elim (telling w now r) as (λ _. IsBy u w (decision (cut w now (tell r)) now (tell r)).change) [
    | declined cause e ↦ subst (λ (d : Decision). IsBy u w d.change) (sym e) (nothing_by u w)
    | known k kept same e ↦ subst (λ (d : Decision). IsBy u w d.change) (sym e) (nothing_by u w)
    | taken a ↦ accepted_by w now r (decision (cut w now (tell r)) now (tell r)) sound a u (first_own a.before a.rest a.jobs)
  ]

  pub heard_own : own u (step w now (tell r)).world ≡ own_heard_on u w.settings now r (own u w)
  heard_own =
      own_made u w (decision (cut w now (tell r)) now (tell r)).change sound heard_by
      ∙ ap (λ (d : Decision). own_made_on u d.change (own u w)) decided_same
