-- A run and the run without repeats end in one world, and repeats are answered as before.
use Rattle.std.proofs.Common.{◌≡◌, ℕ, ◌+◌, List, [], ◌∷◌, ◌++◌, length, refl, ap, sym, ◌∙◌, subst, Bool, true, false, cond}
use Rattle.std.specs.Prelude.{Option, Some, None, nat_eq, bytes_eq, not, is_some, fold, ◌&&◌, ◌||◌, ⊤}
use Rattle.std.specs.List.{AllByRecursion as Each}
use Rattle.std.specs.FinMap.{FinMap, get}
use Rattle.std.proofs.lemmas.Bool.{and_parts}
use Rattle.queue_types.specs.Event.{Decision, Event, ask, tell, grant, expire, kind_number}
use Rattle.queue_core.specs.Grants.{Taken, all_taken, none_taken, take_rows, add_row, row_of, repeated, refused_row, new_row, free_after}
use Rattle.queue_core.specs.Machine.{Step, step, grant_row}
use Rattle.queue_types.specs.Job.{job_state}
use Rattle.queue_core.specs.Runs.{Place, IsPlace, after, run}
use Rattle.queue_core.specs.Sound.{IsSound}
use Rattle.queue_core.specs.World.{World, made_on, known_grant, put_grant, put_free, report_cmp}
use Rattle.queue_types.specs.declared.event.FreeRow.{FreeRow}
use Rattle.queue_types.specs.declared.event.GrantRow.{GrantRow}
use Rattle.queue_types.specs.declared.event.KeptReport.{KeptReport}
use Rattle.queue_types.specs.declared.event.Report.{Report}
use Rattle.queue_types.specs.declared.event.Reply.{Reply}
use Rattle.queue_types.specs.declared.states.JobState.{JobState}
use Rattle.queue_types.specs.declared.event.Reply.TheVariants.{Told, Added}
use Rattle.queue_laws.specs.Granting.{IsGranted}
use Rattle.queue_laws.specs.Replies.{refuses}
use Rattle.queue_laws.specs.Thin.{are_equal_reports, are_equal_rows, has_report, has_row, is_accepted, reports_then, rows_then, thin_rows, thin_place, thin_from, thin, Answered, answered_then, IsAnsweredAgain, AnswerAgain}
use Rattle.queue_laws.proofs.Again.{IsKeptAs, told_kept, kept_stays, told_again, KeepsSound}
use Rattle.queue_laws.proofs.Base.{equal, same_key, each_map}
use Rattle.queue_laws.proofs.Filed.{taken_of, file_granted, granted_after}
use Rattle.queue_laws.proofs.Taking.{known, IsThere, means_repeat, repeat_means, new_means, still_there, now_there}
use Rattle.queue_laws.proofs.Telling.{declined, known as known_before, taken, telling}

-- ---- equal reports

pub record AreEqual (a b : Report) : Type 0 where
  pub job : a.job ≡ b.job
  pub seq : a.seq ≡ b.seq
  pub kind : kind_number a.kind ≡ kind_number b.kind
  pub count : a.count ≡ b.count

pub are_equal : (a b : Report) → are_equal_reports a b ≡ true → AreEqual a b
are_equal a b e =
    let four = and_parts (nat_eq a.job b.job && nat_eq a.seq b.seq && nat_eq (kind_number a.kind) (kind_number b.kind)) (nat_eq a.count b.count) e in
    let three = and_parts (nat_eq a.job b.job && nat_eq a.seq b.seq) (nat_eq (kind_number a.kind) (kind_number b.kind)) four.0 in
    let two = and_parts (nat_eq a.job b.job) (nat_eq a.seq b.seq) three.0 in
    record {
      job = equal a.job b.job two.0;
      seq = equal a.seq b.seq two.1;
      kind = equal (kind_number a.kind) (kind_number b.kind) three.1;
      count = equal a.count b.count four.1;
    }

kept_equal : (kept : FinMap report_cmp KeptReport) (a b : Report) (s : JobState) (c : ℕ) → are_equal_reports a b ≡ true → IsKeptAs kept a s c → IsKeptAs kept b s c
kept_equal kept a b s c e was =
    let same = are_equal a b e in
    record {
      report = was.report;
      there = (λ i. get kept (sym same.job i, sym same.seq i)) ∙ was.there;
      same = sym (λ i. nat_eq (same.kind i) (kind_number was.report.report.kind) && nat_eq (same.count i) was.report.report.count) ∙ was.same;
      state = was.state;
      total = was.total;
    }

-- ---- what is accepted

record IsTold (r : Reply) : Type 0 where
  state : JobState
  count : ℕ
  is : r ≡ Told state count

not_accepted : (A : Type 0) (r : Reply) → refuses r ≡ true → not (refuses r) ≡ true → A
not_accepted A r refused accepts = let one : false ≡ true = sym (ap not refused) ∙ accepts in absurd (cc)

told_of : (w : World) (now : ℕ) (r : Report) → is_accepted w now (tell r) ≡ true → IsTold (step w now (tell r)).reply
told_of w now r accepts = elim (telling w now r) as (λ _. IsTold (step w now (tell r)).reply) [
  | declined cause e ↦ not_accepted _ (step w now (tell r)).reply (ap (λ (d : Decision). refuses d.reply) e) accepts
  | known_before k kept same e ↦ record { state = k.state; count = k.total; is = ap (λ (d : Decision). d.reply) e }
  | taken a ↦ record { state = job_state a.after; count = a.after.count; is = ap (λ (d : Decision). d.reply) a.is }
]

record IsAdded (r : Reply) : Type 0 where
  added : ℕ
  repeats : ℕ
  is : r ≡ Added added repeats

added_by : (t : Taken) → not (refuses (grant_row t).reply) ≡ true → IsAdded (grant_row t).reply
added_by (all_taken new free n) e = record { added = length new; repeats = n; is = refl }
added_by (none_taken fault row) e = absurd (cc)

pub record IsKeptNow (w : World) (r : Report) : Type 0 where
  state : JobState
  count : ℕ
  kept : IsKeptAs w.reports r state count

-- the reports and rows that were accepted stay
pub record Holds (kept : List Report) (given : List GrantRow) (w : World) : Type 0 where
  pub reports : Each (IsKeptNow w) kept
  pub rows : Each (IsGranted w.grants) given

reports_hold : (w : World) (now : ℕ) (o : Option Event) (kept : List Report) → Each (IsKeptNow w) kept → Each (IsKeptNow (after w now o)) kept
reports_hold w now o kept each = each_map (IsKeptNow w) (IsKeptNow (after w now o)) kept (λ r k. record { state = k.state; count = k.count; kept = kept_stays w now o r k.state k.count k.kept }) each

rows_hold : (w : World) (now : ℕ) (o : Option Event) (given : List GrantRow) → Each (IsGranted w.grants) given → Each (IsGranted (after w now o).grants) given
rows_hold w now o given each = each_map (IsGranted w.grants) (IsGranted (after w now o).grants) given (granted_after w now o) each

pub each_append : {A : Type 0} (P : A → Type 0) (xs ys : List A) → Each P xs → Each P ys → Each P (xs ++ ys)
each_append P [] ys a b = b
each_append P (x ∷ xs) ys a b = (a.0, each_append P xs ys a.1 b)

then_reports : (kept : List Report) (w : World) (now : ℕ) (o : Option Event) → Each (IsKeptNow w) kept → Each (IsKeptNow (after w now o)) (reports_then kept w now o)
then_reports kept w now None each = each
then_reports kept w now (Some (ask caller call)) each = reports_hold w now (Some (ask caller call)) kept each
then_reports kept w now (Some (tell r)) each =
    let all = reports_hold w now (Some (tell r)) kept each in
    elim (is_accepted w now (tell r)) as (λ b. is_accepted w now (tell r) ≡ b → Each (IsKeptNow (step w now (tell r)).world) (cond b (r ∷ kept) kept)) [
      | true ↦ λ is. (let t = told_of w now r is in (record { state = t.state; count = t.count; kept = told_kept w now r t.state t.count t.is }, all))
      | false ↦ λ is. all
    ] refl
then_reports kept w now (Some (grant file)) each = reports_hold w now (Some (grant file)) kept each
then_reports kept w now (Some expire) each = reports_hold w now (Some expire) kept each

then_rows : (given : List GrantRow) (w : World) (now : ℕ) (o : Option Event) → Each (IsGranted w.grants) given → Each (IsGranted (after w now o).grants) (rows_then given w now o)
then_rows given w now None each = each
then_rows given w now (Some (ask caller call)) each = rows_hold w now (Some (ask caller call)) given each
then_rows given w now (Some (tell r)) each = rows_hold w now (Some (tell r)) given each
then_rows given w now (Some (grant file)) each =
    let all = rows_hold w now (Some (grant file)) given each in
    elim (is_accepted w now (grant file)) as (λ b. is_accepted w now (grant file) ≡ b → Each (IsGranted (step w now (grant file)).world.grants) (cond b (file ++ given) given)) [
      | true ↦ λ is. (let t = added_by (taken_of w file) is in each_append (IsGranted (step w now (grant file)).world.grants) file given (file_granted w now file t.added t.repeats t.is) all)
      | false ↦ λ is. all
    ] refl
then_rows given w now (Some expire) each = rows_hold w now (Some expire) given each

pub then_holds : (kept : List Report) (given : List GrantRow) (w : World) (now : ℕ) (o : Option Event) → Holds kept given w → Holds (reports_then kept w now o) (rows_then given w now o) (after w now o)
then_holds kept given w now o holds = record { reports = then_reports kept w now o holds.reports; rows = then_rows given w now o holds.rows }

-- ---- a file without rows that are there makes the same of the world

abbrev TakesSame : Taken → Taken → Type 0
TakesSame (all_taken new free n) (all_taken also freed m) = (new ≡ also) × (free ≡ freed)
TakesSame (all_taken new free n) (none_taken fault row) = ⊥
TakesSame (none_taken fault row) (all_taken new free n) = ⊥
TakesSame (none_taken fault row) (none_taken other place) = ⊤

pub equal_rows : (h g : GrantRow) → are_equal_rows h g ≡ true → h ≡ g
equal_rows h g is =
    let three = and_parts (bytes_eq h.batch g.batch && bytes_eq h.account g.account) (nat_eq h.pages g.pages) is in
    let two = and_parts (bytes_eq h.batch g.batch) (bytes_eq h.account g.account) three.0 in
    λ i. record {
      batch = same_key h.batch g.batch two.0 i;
      account = same_key h.account g.account two.1 i;
      pages = equal h.pages g.pages three.1 i;
    }

module _ (w : World) where
  equal_there : (new given : List GrantRow) (g : GrantRow) → has_row g given ≡ true → Each (λ h. IsThere w h new) given → IsThere w g new
  equal_there new [] g any each = absurd (cc)
  equal_there new (h ∷ given) g any each =
      elim (are_equal_rows h g) as (λ b. are_equal_rows h g ≡ b → (b || has_row g given) ≡ true → IsThere w g new) [
        | true ↦ λ is any.
            subst (λ x. IsThere w x new) (equal_rows h g is) each.0
        | false ↦ λ is any. equal_there new given g any each.1
      ] refl any

  each_still : (new given : List GrantRow) (r : GrantRow) → Each (λ h. IsThere w h new) given → Each (λ h. IsThere w h (new ++ r ∷ [])) given
  each_still new given r each = each_map (λ h. IsThere w h new) (λ h. IsThere w h (new ++ r ∷ [])) given (λ h there. still_there w h new r there) each

  seen_with : (b : Bool) (new given : List GrantRow) (g : GrantRow) → IsThere w g new → Each (λ h. IsThere w h new) given → Each (λ h. IsThere w h new) (cond b (g ∷ given) given)
  seen_with true new given g here each = (here, each)
  seen_with false new given g here each = each

  thin_takes : (accepted : Bool) (file given : List GrantRow) (row other : ℕ) (new : List GrantRow) (free : List FreeRow) (n m : ℕ) → Each (λ h. IsThere w h new) given
      → TakesSame (take_rows file (known w file) row new free n) (take_rows (thin_rows accepted given file) (known w (thin_rows accepted given file)) other new free m)
  thin_takes accepted [] given row other new free n m each = (refl, refl)
  thin_takes accepted (g ∷ file) given row other new free n m each =
      let k = known_grant w g in
      let next : List GrantRow = cond accepted (g ∷ given) given in
      elim (has_row g given) as (λ b. has_row g given ≡ b
      → TakesSame (add_row (row_of g (known_grant w g) new) g (known_grant w g) row (take_rows file (known w file) (row + 1)) new free n)
      (take_rows (cond b (thin_rows accepted given file) (g ∷ thin_rows accepted next file)) (known w (cond b (thin_rows accepted given file) (g ∷ thin_rows accepted next file))) other new free m)) [
        | true ↦ λ any.
            subst (λ o. TakesSame (add_row o g (known_grant w g) row (take_rows file (known w file) (row + 1)) new free n) (take_rows (thin_rows accepted given file) (known w (thin_rows accepted given file)) other new free m))
            (sym (means_repeat g (known_grant w g) new (equal_there new given g any each)))
            (thin_takes accepted file given (row + 1) other new free (n + 1) m each)
        | false ↦ λ any.
            elim (row_of g (known_grant w g) new) as (λ o. row_of g (known_grant w g) new ≡ o
            → TakesSame (add_row o g (known_grant w g) row (take_rows file (known w file) (row + 1)) new free n)
            (add_row o g (known_grant w g) other (take_rows (thin_rows accepted next file) (known w (thin_rows accepted next file)) (other + 1)) new free m)) [
              | repeated ↦ λ is. thin_takes accepted file next (row + 1) (other + 1) new free (n + 1) (m + 1) (seen_with accepted new given g (repeat_means g (known_grant w g) new is) each)
              | refused_row fault ↦ λ is. tt
              | new_row ↦ λ is. thin_takes accepted file next (row + 1) (other + 1) (new ++ g ∷ []) (free ++ free_after g (known_grant w g) new ∷ []) n m
                  (seen_with accepted (new ++ g ∷ []) given g (now_there w g new (new_means g (known_grant w g) new is)) (each_still new given g each))
            ] refl
      ] refl

  same_made : (s t : Taken) → TakesSame s t → made_on (grant_row s).change w ≡ made_on (grant_row t).change w
  same_made (all_taken new free n) (all_taken also freed m) same = λ i. record w { grants = fold put_grant w.grants (same.0 i); free = fold put_free w.free (same.1 i) }
  same_made (all_taken new free n) (none_taken fault row) same = absurd same
  same_made (none_taken fault row) (all_taken new free n) same = absurd same
  same_made (none_taken fault row) (none_taken other place) same = refl

  same_accepted : (s t : Taken) → TakesSame s t → not (refuses (grant_row s).reply) ≡ not (refuses (grant_row t).reply)
  same_accepted (all_taken new free n) (all_taken also freed m) same = refl
  same_accepted (all_taken new free n) (none_taken fault row) same = absurd same
  same_accepted (none_taken fault row) (all_taken new free n) same = absurd same
  same_accepted (none_taken fault row) (none_taken other place) same = refl

  given_there : (given : List GrantRow) → Each (IsGranted w.grants) given → Each (λ h. IsThere w h []) given
  given_there given each = each_map (IsGranted w.grants) (λ h. IsThere w h []) given (λ h there. ap (λ (o : Option ℕ). cond (is_some o) o None) there) each

  pub thin_file : (accepted : Bool) (file given : List GrantRow) (now : ℕ) → Each (IsGranted w.grants) given → (step w now (grant file)).world ≡ (step w now (grant (thin_rows accepted given file))).world
  thin_file accepted file given now each =
      same_made (taken_of w file) (taken_of w (thin_rows accepted given file)) (thin_takes accepted file given 1 1 [] [] 0 0 (given_there given each))

  -- a file is accepted where it is without them
  pub thin_accepted : (accepted : Bool) (file given : List GrantRow) (now : ℕ) → Each (IsGranted w.grants) given → is_accepted w now (grant file) ≡ is_accepted w now (grant (thin_rows accepted given file))
  thin_accepted accepted file given now each =
      same_accepted (taken_of w file) (taken_of w (thin_rows accepted given file)) (thin_takes accepted file given 1 1 [] [] 0 0 (given_there given each))

-- ---- without repeats

pub report_stays : (w : World) (now : ℕ) (r : Report) (kept : List Report) → IsSound w → has_report r kept ≡ true → Each (IsKeptNow w) kept → (step w now (tell r)).world ≡ w
report_stays w now r [] sound any each = absurd (cc)
report_stays w now r (s ∷ kept) sound any each =
    elim (are_equal_reports s r) as (λ b. are_equal_reports s r ≡ b → (b || has_report r kept) ≡ true → (step w now (tell r)).world ≡ w) [
      | true ↦ λ is any. (let k = each.0 in ap (λ (t : Step). t.world) (told_again w now r k.state k.count sound (kept_equal w.reports s r k.state k.count is k.kept)))
      | false ↦ λ is any. report_stays w now r kept sound any each.1
    ] refl any

thin_here : (kept : List Report) (given : List GrantRow) (w : World) (now : ℕ) (o : Option Event) (ps : List Place) → IsSound w → Holds kept given w → run w (thin_place kept given w now o ++ ps) ≡ run (after w now o) ps
thin_here kept given w now None ps sound holds = refl
thin_here kept given w now (Some (ask caller call)) ps sound holds = refl
thin_here kept given w now (Some (tell r)) ps sound holds =
    elim (has_report r kept) as (λ b. has_report r kept ≡ b → run w (cond b [] (record { now = now; event = Some (tell r) } ∷ []) ++ ps) ≡ run (step w now (tell r)).world ps) [
      | true ↦ λ any. ap (λ v. run v ps) (sym (report_stays w now r kept sound any holds.reports))
      | false ↦ λ any. refl
    ] refl
thin_here kept given w now (Some (grant file)) ps sound holds = ap (λ v. run v ps) (sym (thin_file w (is_accepted w now (grant file)) file given now holds.rows))
thin_here kept given w now (Some expire) ps sound holds = refl

thin_all : KeepsSound → (ps : List Place) (kept : List Report) (given : List GrantRow) (w : World) → IsSound w → Each IsPlace ps → Holds kept given w → run w (thin_from kept given w ps) ≡ run w ps
thin_all keeps [] kept given w sound places holds = refl
thin_all keeps (p ∷ ps) kept given w sound places holds =
    thin_here kept given w p.now p.event (thin_from (reports_then kept w p.now p.event) (rows_then given w p.now p.event) (after w p.now p.event) ps) sound holds
    ∙ thin_all keeps ps (reports_then kept w p.now p.event) (rows_then given w p.now p.event) (after w p.now p.event) (keeps w (p ∷ []) sound (places.0, tt)) places.1
    (then_holds kept given w p.now p.event holds)

-- the run without repeats ends in the same world
pub thin_run : KeepsSound → (w : World) (ps : List Place) → IsSound w → Each IsPlace ps → run w (thin w ps) ≡ run w ps
thin_run keeps w ps sound places = thin_all keeps ps [] [] w sound places (record { reports = tt; rows = tt })

-- ---- answers

record IsAnswered (w : World) (x : Answered) : Type 0 where
  state : JobState
  count : ℕ
  reply : x.1 ≡ Told state count
  kept : IsKeptAs w.reports x.0 state count

answers_hold : (w : World) (now : ℕ) (o : Option Event) (before : List Answered) → Each (IsAnswered w) before → Each (IsAnswered (after w now o)) before
answers_hold w now o before each = each_map (IsAnswered w) (IsAnswered (after w now o)) before (λ x k. record { state = k.state; count = k.count; reply = k.reply; kept = kept_stays w now o x.0 k.state k.count k.kept }) each

then_answers : (before : List Answered) (w : World) (now : ℕ) (o : Option Event) → Each (IsAnswered w) before → Each (IsAnswered (after w now o)) (answered_then before w now o)
then_answers before w now None each = each
then_answers before w now (Some (ask caller call)) each = answers_hold w now (Some (ask caller call)) before each
then_answers before w now (Some (tell r)) each =
    let all = answers_hold w now (Some (tell r)) before each in
    elim (is_accepted w now (tell r)) as (λ b. is_accepted w now (tell r) ≡ b → Each (IsAnswered (step w now (tell r)).world) (cond b ((r, (step w now (tell r)).reply) ∷ before) before)) [
      | true ↦ λ is. (let t = told_of w now r is in (record { state = t.state; count = t.count; reply = t.is; kept = told_kept w now r t.state t.count t.is }, all))
      | false ↦ λ is. all
    ] refl
then_answers before w now (Some (grant file)) each = answers_hold w now (Some (grant file)) before each
then_answers before w now (Some expire) each = answers_hold w now (Some expire) before each

same_answers : (before : List Answered) (w : World) (now : ℕ) (r : Report) → IsSound w → Each (IsAnswered w) before → Each (λ (x : Answered). are_equal_reports x.0 r ≡ true → (step w now (tell r)).reply ≡ x.1) before
same_answers before w now r sound each = each_map (IsAnswered w) (λ (x : Answered). are_equal_reports x.0 r ≡ true → (step w now (tell r)).reply ≡ x.1) before
    (λ x k is. ap (λ (t : Step). t.reply) (told_again w now r k.state k.count sound (kept_equal w.reports x.0 r k.state k.count is k.kept)) ∙ sym k.reply) each

one_again : (before : List Answered) (w : World) (now : ℕ) (o : Option Event) → IsSound w → Each (IsAnswered w) before → IsAnsweredAgain before w now o
one_again before w now None sound each = tt
one_again before w now (Some (ask caller call)) sound each = tt
one_again before w now (Some (tell r)) sound each = same_answers before w now r sound each
one_again before w now (Some (grant file)) sound each = tt
one_again before w now (Some expire) sound each = tt

all_again : KeepsSound → (ps : List Place) (before : List Answered) (w : World) → IsSound w → Each IsPlace ps → Each (IsAnswered w) before → AnswerAgain before w ps
all_again keeps [] before w sound places each = tt
all_again keeps (p ∷ ps) before w sound places each =
    (one_again before w p.now p.event sound each, all_again keeps ps (answered_then before w p.now p.event) (after w p.now p.event) (keeps w (p ∷ []) sound (places.0, tt)) places.1 (then_answers before w p.now p.event each))

-- each report that equals an accepted one is answered as that one was
pub answers_again : KeepsSound → (w : World) (ps : List Place) → IsSound w → Each IsPlace ps → AnswerAgain [] w ps
answers_again keeps w ps sound places = all_again keeps ps [] w sound places tt
