-- A report keeps a world sound: one job changes, its count is the greatest, and the report is kept.
use Rattle.std.proofs.Common.{◌≡◌, ◌≢◌, ℕ, ℤ, ◌+◌, ◌≤◌, ◌<◌, List, [], ◌∷◌, map, refl, ap, sym, ◌∙◌, arith, subst, inl, inr, Bool, true, false, cond}
use Rattle.std.specs.Prelude.{Option, Some, None, IfSome, IsSome, IsSomeAnd, IsTrue, is_some, nat_eq, nat_le, fold, max, ◌⊎◌, ◌||◌}
use Rattle.std.specs.List.{AllByRecursion as Each}
use Rattle.std.specs.FinMap.{FinMap, get, insert, get-insert}
use Rattle.std.proofs.lemmas.Bool.{both_ways, eqb-false, eqb-true, false_from_ne_true, or_parts}
use Rattle.std.proofs.lemmas.Bool.Decides.{nat_tests}
use Rattle.std.proofs.lemmas.Option.{IfSome_then, none-some, same_Some}
use Rattle.queue_types.specs.Job.{is_live, is_live_in, job_state, state, state_in}
use Rattle.queue_types.specs.Event.{tell}
use Rattle.queue_core.specs.World.{World, Entry, rows, cut, made_on, with_row, owner_row, put_free, job_at, report_cmp, text_cmp}
use Rattle.queue_core.specs.Reports.{counted, ended_as, why_halted, moved_by, reported, is_same_report}
use Rattle.queue_core.specs.Machine.{credited, answered, accepted, accepted_where, report_row}
use Rattle.queue_core.specs.Limits.{IsMoment, IsReport, IsSoundJob, FitsPhase}
use Rattle.queue_core.specs.Runs.{Follows, is_pair}
use Rattle.queue_core.specs.Sound.{IsSound, IsSoundEntry, IsKept, IsGreatestCount, IsIdle, Rise}
use Rattle.queue_types.specs.declared.event.Kind.{Kind}
use Rattle.queue_types.specs.declared.event.Kind.TheVariants.{Start, Stop, Resume, Count, Done, Fail, Halt}
use Rattle.queue_types.specs.declared.event.KeptReport.{KeptReport}
use Rattle.queue_types.specs.declared.event.Report.{Report}
use Rattle.queue_types.specs.declared.event.ReportRefusal.TheVariants.{Conflict}
use Rattle.queue_types.specs.declared.event.Reply.TheVariants.{Told, NotTold}
use Rattle.queue_types.specs.declared.event.Scene.{Scene}
use Rattle.queue_types.specs.declared.job.Job.{Job}
use Rattle.queue_types.specs.declared.job.Phase.{Phase}
use Rattle.queue_types.specs.declared.job.Why.{Why}
use Rattle.queue_types.specs.declared.job.Why.TheVariants.{AtDevice}
use Rattle.queue_types.specs.declared.job.Phase.TheVariants.{Waiting, Running, Stopped, Canceled, Aborted, Completed}
use Rattle.queue_core.proofs.Keep.{at, each-with_row, ne_from_gt, some-with_row}
use Rattle.queue_core.proofs.Fair.{first_sound}
use Rattle.queue_core.proofs.Maps.{report_total, is_report_key, report_key, own_report_key}
use Rattle.queue_core.proofs.Moves.{row_moves}
use Rattle.queue_core.proofs.Own.{Keeps, unchanged, first_named, moved, moved_get}
use Rattle.queue_core.proofs.Rows.{IsSameJob, same_job, still_sound, job_keeps}

-- ---- the job that comes of it

pub record IsReported (c : ℕ) (x j : Job) : Type 0 where
  pub number : x.number ≡ j.number
  pub owner : x.owner ≡ j.owner
  pub documents : x.documents ≡ j.documents
  pub octets : x.octets ≡ j.octets
  pub count : x.count ≡ max j.count c
  pub live : cond (is_live x) 1 0 ≤ cond (is_live j) 1 0
  pub sound : IsSoundJob x
  pub follows : Follows (Some j) (Some x)
  pub busy : IsIdle j → ⊥

abbrev limit : ℕ
limit = 100000000

at_most : (a b : ℕ) → a ≤ limit → b ≤ limit → max a b ≤ limit
at_most a b h k = omega arith

begun_not_idle : (o : Option ℕ) → IsSome o → o ≡ None → ⊥
begun_not_idle o some none = both_ways (is_some o) (ap is_some none) some

held_or_ended : (hold incoming : Bool) (ended : Option ℕ) → (hold || incoming) ≡ false → ended ≡ None → IsTrue (hold || is_some ended) → ⊥
held_or_ended true incoming ended free none idle = absurd (cc)
held_or_ended false incoming ended free none idle = let no : is_some ended ≡ false = ap is_some none in absurd (cc)

no_device : (o : Option Why) → o ≡ None → o ≢ Some AtDevice
no_device o none device = absurd (cc)

pending : (hold incoming : Bool) → (hold || incoming) ≡ false → IsTrue (is_pair (state_in Waiting hold incoming) 5)
pending true incoming e = absurd (cc)
pending false true e = absurd (cc)
pending false false e = refl

module _ (c now : ℕ) (j : Job) (s : IsSoundJob j) (moment : IsMoment now) (fits : c ≤ limit) where
  -- the row's own limits, whatever its phase
  within : (x : Job) → IsSameJob x j → x.count ≡ max j.count c → IfSome x.begun IsMoment → IfSome x.ended IsMoment → x.documents ≡ j.documents → x.octets ≡ j.octets → FitsPhase x.phase x → IsSoundJob x
  within x same count begun ended documents octets phase = still_sound x j same s (rw count (at_most j.count c s.count fits)) begun ended (rw documents s.documents) (rw octets (rw documents s.octets)) phase

  starts : (b : Bool) → (j.hold || j.incoming) ≡ b → j.phase ≡ Waiting → (x : Job) → cond b None (Some (record (counted c j) { phase = Running; begun = Some now })) ≡ Some x → IsReported c x j
  starts true free is x e = absurd (cc)
  starts false free is x e =
      let waits = subst (λ p. FitsPhase p j) is s.phase in
      let un = or_parts j.hold j.incoming free in
      subst (λ x. IsReported c x j) (same_Some _ x e) (record {
        number = refl;
        owner = refl;
        documents = refl;
        octets = refl;
        count = refl;
        live = subst (λ p. 1 ≤ cond (is_live_in p) 1 0) (sym is) (omega arith);
        sound = within (record (counted c j) { phase = Running; begun = Some now }) (same_job j) refl moment s.ended refl refl (un.0, un.1, refl, waits.2, no_device j.stopping waits.3);
        follows = inr (subst (λ p. IsTrue (is_pair (state_in p j.hold j.incoming) 5)) (sym is) (pending j.hold j.incoming free));
        busy = λ idle. held_or_ended j.hold j.incoming j.ended free waits.2 idle.2;
      })

  -- the device has the job, and it goes on in a phase or ends in it
  goes : (p q : Phase) (y : Job) → j.phase ≡ p → (FitsPhase p j → (j.hold ≡ false) × (j.incoming ≡ false) × IsSome j.begun × (j.ended ≡ None)) → IsSameJob y j → y.count ≡ max j.count c → y.begun ≡ j.begun → IfSome y.ended IsMoment → y.documents ≡ j.documents → y.octets ≡ j.octets → FitsPhase y.phase y
      → cond (is_live y) 1 0 ≤ cond (is_live_in p) 1 0 → (state y ≡ state_in p j.hold j.incoming) ⊎ IsTrue (is_pair (state_in p j.hold j.incoming) (state y)) → (x : Job) → Some y ≡ Some x → IsReported c x j
  goes p q y is on same count begun ended documents octets phase live follows x e =
      let has = on (subst (λ p. FitsPhase p j) is s.phase) in
      subst (λ x. IsReported c x j) (same_Some y x e) (record {
        number = same.0;
        owner = same.1;
        documents = documents;
        octets = octets;
        count = count;
        live = subst (λ p. cond (is_live y) 1 0 ≤ cond (is_live_in p) 1 0) (sym is) live;
        sound = within y same count (subst (λ o. IfSome o IsMoment) (sym begun) s.begun) ended documents octets phase;
        follows = subst (λ p. (state y ≡ state_in p j.hold j.incoming) ⊎ IsTrue (is_pair (state_in p j.hold j.incoming) (state y))) (sym is) follows;
        busy = λ idle. begun_not_idle j.begun has.2 idle.0;
      })

  -- a count in a phase that comes after the start
  counts_in : (p : Phase) → j.phase ≡ p → (IsSome j.begun → FitsPhase p j → FitsPhase p (counted c j)) → (b : Bool) → is_some j.begun ≡ b → (x : Job) → cond b (Some (counted c j)) None ≡ Some x → IsReported c x j
  counts_in p is keeps false has x e = absurd (cc)
  counts_in p is keeps true has x e =
      subst (λ x. IsReported c x j) (same_Some (counted c j) x e) (record {
        number = refl;
        owner = refl;
        documents = refl;
        octets = refl;
        count = refl;
        live = omega arith;
        sound = within (counted c j) (same_job j) refl s.begun s.ended refl refl (subst (λ p. FitsPhase p (counted c j)) (sym is) (keeps has (subst (λ p. FitsPhase p j) is s.phase)));
        follows = inl refl;
        busy = λ idle. begun_not_idle j.begun has idle.0;
      })

  waits_uncounted : IsSome j.begun → FitsPhase Waiting j → FitsPhase Waiting (counted c j)
  waits_uncounted some waits = absurd (begun_not_idle j.begun some waits.1)

  moved_is : (k : Kind) (p : Phase) → j.phase ≡ p → (x : Job) → moved_by k p now (counted c j) ≡ Some x → IsReported c x j
  moved_is Start Waiting is x e = starts (j.hold || j.incoming) refl is x e
  moved_is Stop Running is x e = let has = subst (λ p. FitsPhase p j) is s.phase in goes Running Stopped (record (counted c j) { phase = Stopped }) is (λ f. (f.0, f.1, f.2, f.3)) (same_job j) refl refl s.ended refl refl has (omega arith) (inr refl) x e
  moved_is Resume Stopped is x e = let has = subst (λ p. FitsPhase p j) is s.phase in goes Stopped Running (record (counted c j) { phase = Running }) is (λ f. (f.0, f.1, f.2, f.3)) (same_job j) refl refl s.ended refl refl has (omega arith) (inr refl) x e
  moved_is Count Waiting is x e = counts_in Waiting is waits_uncounted (is_some j.begun) refl x e
  moved_is Count p is x e = counts_in p is (λ some f. f) (is_some j.begun) refl x e
  moved_is Done Running is x e = let has = subst (λ p. FitsPhase p j) is s.phase in goes Running Completed (ended_as Completed now (counted c j)) is (λ f. (f.0, f.1, f.2, f.3)) (same_job j) refl refl moment refl refl (has.0, has.1, refl, refl) (omega arith) (inr refl) x e
  moved_is Fail Running is x e = let has = subst (λ p. FitsPhase p j) is s.phase in goes Running Aborted (ended_as Aborted now (counted c j)) is (λ f. (f.0, f.1, f.2, f.3)) (same_job j) refl refl moment refl refl (has.0, has.1, refl, refl) (omega arith) (inr refl) x e
  moved_is Fail Stopped is x e = let has = subst (λ p. FitsPhase p j) is s.phase in goes Stopped Aborted (ended_as Aborted now (counted c j)) is (λ f. (f.0, f.1, f.2, f.3)) (same_job j) refl refl moment refl refl (has.0, has.1, refl, refl) (omega arith) (inr refl) x e
  moved_is Halt Running is x e = let has = subst (λ p. FitsPhase p j) is s.phase in goes Running Completed (ended_as (Canceled (why_halted j.stopping)) now (counted c j)) is (λ f. (f.0, f.1, f.2, f.3)) (same_job j) refl refl moment refl refl (has.0, has.1, refl, refl) (omega arith) (inr refl) x e
  moved_is Halt Stopped is x e = let has = subst (λ p. FitsPhase p j) is s.phase in goes Stopped Completed (ended_as (Canceled (why_halted j.stopping)) now (counted c j)) is (λ f. (f.0, f.1, f.2, f.3)) (same_job j) refl refl moment refl refl (has.0, has.1, refl, refl) (omega arith) (inr refl) x e
  moved_is _ _ is x e = absurd (cc)

pub reported_is : (r : Report) (now : ℕ) (j x : Job) → IsSoundJob j → IsMoment now → IsReport r → reported r now j ≡ Some x → IsReported r.count x j
reported_is r now j x sound moment report e = moved_is r.count now j sound moment report.count r.kind j.phase refl x e

-- ---- the entries

-- the others have other numbers
others_keep : (P Q : Entry → Type 0) (n first next : ℕ) (es : List Entry) → n < first → Rise first es next → ((e : Entry) → nat_eq e.row.number n ≡ false → P e → Q e) → Each P es → Each Q es
others_keep P Q n first next [] low rise other all = tt
others_keep P Q n first next (e ∷ es) low rise other all =
    let least = rise.0 in
    (other e (ne_from_gt e.row.number n (omega arith)) all.0, others_keep P Q n (e.row.number + 1) next es (omega arith) rise.1 other all.1)

each-with_row_apart : (P Q : Entry → Type 0) (x j : Job) (first next : ℕ) (es : List Entry) → at x.number es ≡ Some j → Rise first es next → ((e : Entry) → nat_eq e.row.number x.number ≡ false → P e → Q e) → ((e : Entry) → e.row ≡ j → P e → Q (record e { row = x })) → Each P es → Each Q (with_row es x)
each-with_row_apart P Q x j first next [] there rise other here all = absurd (cc)
each-with_row_apart P Q x j first next (e ∷ es) there rise other here all =
    elim (nat_eq e.row.number x.number) as (λ t. nat_eq e.row.number x.number ≡ t → cond t (Some e.row) (at x.number es) ≡ Some j → Each Q (cond t (record e { row = x } ∷ es) (e ∷ with_row es x))) [
      | true ↦ λ is there. (here e (cc) all.0, others_keep P Q x.number (e.row.number + 1) next es (let same = eqb-true e.row.number x.number is in omega arith) rise.1 other all.1)
      | false ↦ λ is there. (other e is all.0, each-with_row_apart P Q x j (e.row.number + 1) next es there rise.1 other here all.1)
    ] refl there

-- ---- the report is kept

module _ (w : World) (now : ℕ) (r : Report) (sound : IsSound w) (moment : IsMoment now) (limits : IsReport r) where
  abbrev scene : Scene
  scene = cut w now (tell r)

  abbrev kept_report : Job → KeptReport
  kept_report x = record { report = r; state = job_state x; total = x.count }

  abbrev reports_after : Job → FinMap report_cmp KeptReport
  reports_after x = insert w.reports (r.job, r.seq) (kept_report x)

  abbrev world_after : FinMap text_cmp ℤ → Job → World
  world_after m x = record w { jobs = with_row w.jobs x; free = m; reports = reports_after x }

  got : (x : Job) (n s : ℕ) → get (reports_after x) (n, s) ≡ cond (is_report_key (n, s) (r.job, r.seq)) (Some (kept_report x)) (get w.reports (n, s))
  got x n s = get-insert report_total w.reports (r.job, r.seq) (kept_report x) (n, s)

  module _ (j x : Job) (there : at x.number w.jobs ≡ Some j) (named : x.number ≡ r.job) (is : IsReported r.count x j) (new : get w.reports (r.job, r.seq) ≡ None) where
    kept : (m : FinMap text_cmp ℤ) (n s : ℕ) → IfSome (get (reports_after x) (n, s)) (IsKept (world_after m x) n s)
    kept m n s =
        subst (λ o. IfSome o (IsKept (world_after m x) n s)) (sym (got x n s))
        (elim (is_report_key (n, s) (r.job, r.seq)) as (λ b. is_report_key (n, s) (r.job, r.seq) ≡ b → IfSome (cond b (Some (kept_report x)) (get w.reports (n, s))) (IsKept (world_after m x) n s)) [
          | true ↦ λ same.
              let key = report_key n s r.job r.seq same in
              let number = named ∙ sym key.0 in
              record {
                job = sym key.0;
                seq = sym key.1;
                there = some-with_row n x j w.jobs there (ap (λ i. is_some (at i w.jobs)) (sym number) ∙ ap is_some there);
                positive = subst (λ i. (1 ≤ i) × (i < 2147483648)) (sym key.1) limits.seq;
                count = limits.count;
                total = is.sound.count;
              }
          | false ↦ λ same. IfSome_then (get w.reports (n, s)) (sound.reports n s) (λ k p. record { job = p.job; seq = p.seq; there = some-with_row n x j w.jobs there p.there; positive = p.positive; count = p.count; total = p.total })
        ] refl)

    other_key : (n s : ℕ) → nat_eq n r.job ≡ false → is_report_key (n, s) (r.job, r.seq) ≡ false
    other_key n s apart = false_from_ne_true (is_report_key (n, s) (r.job, r.seq)) (λ same. eqb-false n r.job apart (report_key n s r.job r.seq same).0)

    -- a job of another number keeps its reports
    same_reports : (n s : ℕ) → nat_eq n r.job ≡ false → get (reports_after x) (n, s) ≡ get w.reports (n, s)
    same_reports n s apart = got x n s ∙ ap (λ b. cond b (Some (kept_report x)) (get w.reports (n, s))) (other_key n s apart)

    stays_greatest : (m : FinMap text_cmp ℤ) (k : Job) → nat_eq k.number r.job ≡ false → IsGreatestCount w k → IsGreatestCount (world_after m x) k
    stays_greatest m k apart g = (
      λ seq. subst (λ o. IfSome o (λ (t : KeptReport). t.report.count ≤ k.count)) (sym (same_reports k.number seq apart)) (g.0 seq),
      elim g.1 as (λ _. (k.count ≡ 0) ⊎ ((seq : ℕ) × IsSomeAnd (get (reports_after x) (k.number, seq)) (λ (t : KeptReport). t.report.count ≡ k.count))) [
        | inl none ↦ inl none
        | inr some ↦ inr (some.0, subst (λ o. IsSomeAnd o (λ (t : KeptReport). t.report.count ≡ k.count)) (sym (same_reports k.number some.0 apart)) some.1)
      ],
    )

    raised : (o : Option KeptReport) → IfSome o (λ (t : KeptReport). t.report.count ≤ j.count) → IfSome o (λ (t : KeptReport). t.report.count ≤ x.count)
    raised o h = let c = is.count in IfSome_then o h (λ t p. omega arith)

    is_greater : (c d : ℕ) → nat_le c d ≡ false → x.count ≡ max d c → c ≡ x.count
    is_greater c d e h = let l : d < c = grind (arith, nat_tests) in omega arith

    -- the count is that of the new report, or one that was attained before
    attained : (m : FinMap text_cmp ℤ) → IsGreatestCount w j → (b : Bool) → nat_le r.count j.count ≡ b → (x.count ≡ 0) ⊎ ((seq : ℕ) × IsSomeAnd (get (reports_after x) (x.number, seq)) (λ (t : KeptReport). t.report.count ≡ x.count))
    attained m g false above = inr (r.seq, subst (λ o. IsSomeAnd o (λ (t : KeptReport). t.report.count ≡ x.count)) (sym (ap (λ i. get (reports_after x) (i, r.seq)) named ∙ got x r.job r.seq ∙ ap (λ b. cond b (Some (kept_report x)) (get w.reports (r.job, r.seq))) (own_report_key r.job r.seq))) (is_greater r.count j.count above is.count))
    attained m g true below =
        let same : x.count ≡ j.count = is_less r.count j.count below is.count in
        elim g.1 as (λ _. (x.count ≡ 0) ⊎ ((seq : ℕ) × IsSomeAnd (get (reports_after x) (x.number, seq)) (λ (t : KeptReport). t.report.count ≡ x.count))) [
          | inl none ↦ inl (same ∙ none)
          | inr some ↦ inr (some.0, still some.0 (get w.reports (j.number, some.0)) refl some.1 same)
        ]
      where
        is_less : (c d : ℕ) → nat_le c d ≡ true → x.count ≡ max d c → x.count ≡ d
        is_less c d e h = let l : c ≤ d = grind (arith, nat_tests) in omega arith

        still : (seq : ℕ) → (o : Option KeptReport) → get w.reports (j.number, seq) ≡ o → IsSomeAnd o (λ (t : KeptReport). t.report.count ≡ j.count) → x.count ≡ j.count → IsSomeAnd (get (reports_after x) (x.number, seq)) (λ (t : KeptReport). t.report.count ≡ x.count)
        still seq None e some same = absurd some
        still seq (Some t) e some same =
            let o : get w.reports (x.number, seq) ≡ Some t = ap (λ i. get w.reports (i, seq)) is.number ∙ e in
            elim (is_report_key (x.number, seq) (r.job, r.seq)) as (λ b. is_report_key (x.number, seq) (r.job, r.seq) ≡ b → IsSomeAnd (get (reports_after x) (x.number, seq)) (λ (t : KeptReport). t.report.count ≡ x.count)) [
              | true ↦ λ k. let key = report_key x.number seq r.job r.seq k in absurd (none-some t (sym (sym o ∙ ap (λ i. get w.reports (i, seq)) key.0 ∙ ap (λ s. get w.reports (r.job, s)) key.1 ∙ new)))
              | false ↦ λ k. subst (λ o. IsSomeAnd o (λ (t : KeptReport). t.report.count ≡ x.count)) (sym (got x x.number seq ∙ ap (λ b. cond b (Some (kept_report x)) (get w.reports (x.number, seq))) k ∙ o)) (some ∙ sym same)
            ] refl

    greatest_of : (m : FinMap text_cmp ℤ) → IsGreatestCount w j → IsGreatestCount (world_after m x) x
    greatest_of m g = (
      λ seq. subst (λ o. IfSome o (λ (t : KeptReport). t.report.count ≤ x.count)) (sym (got x x.number seq))
          (elim (is_report_key (x.number, seq) (r.job, r.seq)) as (λ b. IfSome (cond b (Some (kept_report x)) (get w.reports (x.number, seq))) (λ (t : KeptReport). t.report.count ≤ x.count)) [
            | true ↦ (let c = is.count in omega arith)
            | false ↦ raised (get w.reports (x.number, seq)) (subst (λ i. IfSome (get w.reports (i, seq)) (λ (t : KeptReport). t.report.count ≤ j.count)) (sym is.number) (g.0 seq))
          ]),
      attained m g (nat_le r.count j.count) refl,
    )

    greatest : (m : FinMap text_cmp ℤ) → Each (λ e. IsGreatestCount (world_after m x) e.row) (with_row w.jobs x)
    greatest m =
        each-with_row_apart (λ e. IsGreatestCount w e.row) (λ e. IsGreatestCount (world_after m x) e.row) x j 1 w.next w.jobs there sound.numbers
        (λ e apart g. stays_greatest m e.row (subst (λ i. nat_eq e.row.number i ≡ false) named apart) g)
        (λ e row g. greatest_of m (subst (IsGreatestCount w) row g))
        sound.counts

    entries_after : Each IsSoundEntry (with_row w.jobs x)
    entries_after = each-with_row IsSoundEntry IsSoundEntry x j w.jobs there (λ e p. p)
        (λ e row s. record {
          row = is.sound;
          documents = is.documents ∙ ap (λ (t : Job). t.documents) (sym row) ∙ s.documents;
          octets = is.octets ∙ ap (λ (t : Job). t.octets) (sym row) ∙ s.octets;
          sizes = s.sizes;
        })
        sound.entries

    told_keeps : (rest : List Job) → Keeps w (world_after (moved w.free x.owner (j ∷ rest) (x ∷ [])) x)
    told_keeps rest =
        let m = moved w.free x.owner (j ∷ rest) (x ∷ []) in
        record {
          sound = job_keeps w m (reports_after x) (with_row w.jobs x) x j sound there (record { number = is.number; owner = is.owner; live = is.live }) refl entries_after (λ none idle. absurd (is.busy idle)) (moved_get w.free j x rest is.number) (kept m) (greatest m);
          moves = row_moves w m (with_row w.jobs x) x j refl there is.follows;
        }

  found : (j : Job) (rest : List Job) → scene.jobs ≡ j ∷ rest → (job_at r.job (rows w) ≡ Some j) × (j.number ≡ r.job)
  found j rest e = first_named r.job (rows w) j rest e

  accepted_keeps : (j x : Job) (rest : List Job) → scene.jobs ≡ j ∷ rest → get w.reports (r.job, r.seq) ≡ None → IsReported r.count x j → Keeps w (made_on (accepted scene r x).change w)
  accepted_keeps j x rest e new is =
      let here = found j rest e in
      let named : x.number ≡ r.job = is.number ∙ here.1 in
      let there : at x.number w.jobs ≡ Some j = ap (λ m. job_at m (rows w)) named ∙ here.0 in
      let kept : Keeps w (world_after (moved w.free j.owner (j ∷ rest) (x ∷ [])) x) = subst (λ a. Keeps w (world_after (moved w.free a (j ∷ rest) (x ∷ [])) x)) is.owner (told_keeps j x there named is new rest) in
      subst (λ js. Keeps w (world_after (fold put_free w.free (map (credited js (x ∷ [])) (owner_row w.free js))) x)) (sym e) kept

  taken_keeps : (j : Job) (rest : List Job) → scene.jobs ≡ j ∷ rest → get w.reports (r.job, r.seq) ≡ None → (o : Option Job) → reported r now j ≡ o → Keeps w (made_on (accepted_where scene r o).change w)
  taken_keeps j rest e new None is = unchanged w sound
  taken_keeps j rest e new (Some x) is = accepted_keeps j x rest e new (reported_is r now j x (first_sound w now (tell r) sound j rest e) moment limits is)

  row_keeps : (js : List Job) → scene.jobs ≡ js → (o : Option KeptReport) → get w.reports (r.job, r.seq) ≡ o → Keeps w (made_on (report_row scene now r js o).change w)
  row_keeps [] e o kept = unchanged w sound
  row_keeps (j ∷ rest) e None kept = taken_keeps j rest e kept (reported r now j) refl
  row_keeps (j ∷ rest) e (Some k) kept = elim (is_same_report r k.report) as (λ b. Keeps w (made_on (cond b (answered (Told k.state k.total)) (answered (NotTold Conflict))).change w)) [ true ↦ unchanged w sound | false ↦ unchanged w sound ]

  pub tell_keeps : Keeps w (made_on (report_row scene now r scene.jobs scene.report).change w)
  tell_keeps = row_keeps scene.jobs refl scene.report refl
