-- What a caller is answered depends on what is the caller's own alone.
use Rattle.std.proofs.Common.{◌≡◌, ℕ, ◌<◌, ◌+◌, ◌⊎◌, List, [], ◌∷◌, refl, ap, sym, ◌∙◌, arith, inl, inr, Bool, true, false, cond}
use Rattle.std.specs.Prelude.{Some, None, nat_eq, bytes_eq, filter, sum_by, not, ◌&&◌, ◌||◌}
use Rattle.std.specs.FinMap.{get}
use Rattle.std.specs.List.{AllByRecursion as Each}
use Rattle.std.proofs.lemmas.List.Sums.{sum_by-cons}
use Rattle.std.proofs.lemmas.Bool.{ne_eqb}
use Rattle.queue_types.specs.Settings.{SettingValues}
use Rattle.queue_types.specs.Job.{is_live}
use Rattle.queue_types.specs.Event.{Call, Decision, Event, ask, print_job, validate_job, create_job, send_document, cancel_job, cancel_my_jobs, hold_job, release_job, get_job_attributes, get_jobs, get_printer_attributes}
use Rattle.queue_types.specs.Operators.{is_operator}
use Rattle.queue_core.specs.World.{World, Entry, rows, cut, numbered, found_row, owner_row, jobs_for, shows_all, live_for, live_jobs, counts_for, next_for, is_one_of}
use Rattle.queue_core.specs.Visible.{is_among, in_order, within_limit}
use Rattle.queue_core.specs.Machine.{decision, refused, answered, of_own, of_seen, cancel_row, cause, send_in, hold_in, release_in}
use Rattle.queue_core.specs.Sound.{IsSound, Rise}
use Rattle.queue_types.specs.declared.job.Job.{Job}
use Rattle.queue_types.specs.declared.event.Reply.TheVariants.{Jobs}
use Rattle.queue_types.specs.declared.event.FreeRow.{FreeRow}
use Rattle.queue_types.specs.declared.event.Scene.{Scene}
use Rattle.queue_types.specs.declared.event.WhichJobs.{WhichJobs}
use Rattle.queue_core.proofs.Ordered.{each-filter}
use Rattle.queue_laws.specs.Alike.{counts_all}
use Rattle.queue_laws.specs.Own.{Own, own, own_jobs}
use Rattle.queue_laws.proofs.Base.{equal, rows_of, same_key}
use Rattle.queue_laws.proofs.OneJob.{seen_own}

-- ---- tests that only jobs of the caller's pass

pub filter_own : (u : List ℕ) (q : Job → Bool) (es : List Entry) → filter (λ j. bytes_eq j.owner u && q j) (rows_of es) ≡ filter (λ j. bytes_eq j.owner u && q j) (rows_of (own_jobs u es))
filter_own u q [] = refl
filter_own u q (e ∷ es) =
    let test : Job → Bool = λ j. bytes_eq j.owner u && q j in
    let rest : filter test (rows_of es) ≡ filter test (rows_of (own_jobs u es)) = filter_own u q es in
    elim (bytes_eq e.row.owner u) as (λ b. bytes_eq e.row.owner u ≡ b → cond (b && q e.row) (e.row ∷ filter test (rows_of es)) (filter test (rows_of es)) ≡ filter test (rows_of (cond b (e ∷ own_jobs u es) (own_jobs u es)))) [
      | true ↦ λ is. ap (λ t. cond (q e.row) (e.row ∷ t) t) rest ∙ ap (λ b. cond (b && q e.row) (e.row ∷ filter test (rows_of (own_jobs u es))) (filter test (rows_of (own_jobs u es)))) (sym is)
      | false ↦ λ is. rest
    ] refl

live_own : (u : List ℕ) (es : List Entry) → live_jobs u (rows_of es) ≡ live_jobs u (rows_of (own_jobs u es))
live_own u [] = refl
live_own u (e ∷ es) =
    let one : Job → ℕ = λ j. cond (bytes_eq j.owner u && is_live j) 1 0 in
    let rest : sum_by one (rows_of es) ≡ sum_by one (rows_of (own_jobs u es)) = live_own u es in
    sum_by-cons one e.row (rows_of es)
    ∙ elim (bytes_eq e.row.owner u) as (λ b. bytes_eq e.row.owner u ≡ b → cond (b && is_live e.row) 1 0 + sum_by one (rows_of es) ≡ sum_by one (rows_of (cond b (e ∷ own_jobs u es) (own_jobs u es)))) [
      | true ↦ λ is.
          ap (λ n. cond (is_live e.row) 1 0 + n) rest
          ∙ ap (λ b. cond (b && is_live e.row) 1 0 + sum_by one (rows_of (own_jobs u es))) (sym is)
          ∙ sym (sum_by-cons one e.row (rows_of (own_jobs u es)))
      | false ↦ λ is. omega arith
    ] refl

-- ---- the job of a number

abbrev pub named : ℕ → List Entry → List Job
named n es = filter (λ j. nat_eq j.number n) (rows_of es)

none_above : (n first next : ℕ) (es : List Entry) → n < first → Rise first es next → named n es ≡ []
none_above n first next [] low rise = refl
none_above n first next (e ∷ es) low rise =
    let least = rise.0 in
    ap (λ b. cond b (e.row ∷ named n es) (named n es)) (ne_eqb e.row.number n (λ same. omega arith))
    ∙ none_above n (e.row.number + 1) next es (omega arith) rise.1

-- no own job has a number that no job has
none_own : (u : List ℕ) (n : ℕ) (es : List Entry) → named n es ≡ [] → named n (own_jobs u es) ≡ []
none_own u n [] none = refl
none_own u n (e ∷ es) none =
    elim (nat_eq e.row.number n) as (λ t. nat_eq e.row.number n ≡ t → cond t (e.row ∷ named n es) (named n es) ≡ [] → named n (cond (bytes_eq e.row.owner u) (e ∷ own_jobs u es) (own_jobs u es)) ≡ []) [
      | true ↦ λ is none. absurd (cc)
      | false ↦ λ is none.
          elim (bytes_eq e.row.owner u) as (λ b. named n (cond b (e ∷ own_jobs u es) (own_jobs u es)) ≡ []) [
            | true ↦ ap (λ t. cond t (e.row ∷ named n (own_jobs u es)) (named n (own_jobs u es))) is ∙ none_own u n es none
            | false ↦ none_own u n es none
          ]
    ] refl none

-- it is the caller's own, or another's
abbrev pub IsOwnOrOthers : List ℕ → ℕ → List Entry → Type 0
IsOwnOrOthers u n es = (named n es ≡ named n (own_jobs u es)) ⊎ ((named n (own_jobs u es) ≡ []) × ((row : Job → Decision) → of_own u row (named n es) ≡ refused 0x0406))

more_own : (u : List ℕ) (n : ℕ) (e : Entry) (es : List Entry) → nat_eq e.row.number n ≡ false → IsOwnOrOthers u n es → IsOwnOrOthers u n (e ∷ es)
more_own u n e es not rest =
    let all : named n (e ∷ es) ≡ named n es = ap (λ t. cond t (e.row ∷ named n es) (named n es)) not in
    let mine : named n (own_jobs u (e ∷ es)) ≡ named n (own_jobs u es) =
    elim (bytes_eq e.row.owner u) as (λ b. named n (cond b (e ∷ own_jobs u es) (own_jobs u es)) ≡ named n (own_jobs u es)) [
      | true ↦ ap (λ t. cond t (e.row ∷ named n (own_jobs u es)) (named n (own_jobs u es))) not
      | false ↦ refl
    ] in
    elim rest as (λ r. IsOwnOrOthers u n (e ∷ es)) [
      | inl same ↦ inl (all ∙ same ∙ sym mine)
      | inr other ↦ inr (mine ∙ other.0, λ row. ap (of_own u row) all ∙ other.1 row)
    ]

pub own_or_others : (u : List ℕ) (n first next : ℕ) (es : List Entry) → Rise first es next → IsOwnOrOthers u n es
own_or_others u n first next [] rise = inl refl
own_or_others u n first next (e ∷ es) rise =
    elim (nat_eq e.row.number n) as (λ t. nat_eq e.row.number n ≡ t → IsOwnOrOthers u n (e ∷ es)) [
      | true ↦ λ is.
          let here : e.row.number ≡ n = equal e.row.number n is in
          let rest : named n es ≡ [] = none_above n (e.row.number + 1) next es (omega arith) rise.1 in
          let none : named n (own_jobs u es) ≡ [] = none_own u n es rest in
          let all : named n (e ∷ es) ≡ e.row ∷ [] = ap (λ t. cond t (e.row ∷ named n es) (named n es)) is ∙ ap (λ t. e.row ∷ t) rest in
          elim (bytes_eq e.row.owner u) as (λ b. bytes_eq e.row.owner u ≡ b → IsOwnOrOthers u n (e ∷ es)) [
            | true ↦ λ own.
                let mine : named n (own_jobs u (e ∷ es)) ≡ e.row ∷ [] =
                ap (λ b. named n (cond b (e ∷ own_jobs u es) (own_jobs u es))) own
                ∙ ap (λ t. cond t (e.row ∷ named n (own_jobs u es)) (named n (own_jobs u es))) is
                ∙ ap (λ t. e.row ∷ t) none in
                inl (all ∙ sym mine)
            | false ↦ λ own.
                let mine : named n (own_jobs u (e ∷ es)) ≡ [] = ap (λ b. named n (cond b (e ∷ own_jobs u es) (own_jobs u es))) own ∙ none in
                inr (mine, λ row. ap (of_own u row) all ∙ ap (λ b. cond b (row e.row) (refused 0x0406)) own)
          ] refl
      | false ↦ λ is. more_own u n e es is (own_or_others u n (e.row.number + 1) next es rise.1)
    ] refl

-- ---- the account of the owner of the first of these jobs, where they are u's

abbrev pub own_free_row : List ℕ → Own → List Job → List FreeRow
own_free_row u o [] = []
own_free_row u o (j ∷ js) = found_row u o.free

pub owners : (u : List ℕ) (es : List Entry) → Each (λ (j : Job). j.owner ≡ u) (rows_of (own_jobs u es))
owners u [] = tt
owners u (e ∷ es) = elim (bytes_eq e.row.owner u) as (λ b. bytes_eq e.row.owner u ≡ b → Each (λ (j : Job). j.owner ≡ u) (rows_of (cond b (e ∷ own_jobs u es) (own_jobs u es)))) [
  | true ↦ λ is. (same_key e.row.owner u is, owners u es)
  | false ↦ λ is. owners u es
] refl

pub each_own : (u : List ℕ) (n : ℕ) (w : World) → Each (λ (j : Job). j.owner ≡ u) (named n (own_jobs u w.jobs))
each_own u n w = each-filter (λ (j : Job). j.owner ≡ u) (λ j. nat_eq j.number n) (rows_of (own_jobs u w.jobs)) (owners u w.jobs)

free_of_own : (u : List ℕ) (w : World) (js : List Job) → Each (λ (j : Job). j.owner ≡ u) js → owner_row w.free js ≡ own_free_row u (own u w) js
free_of_own u w [] each = refl
free_of_own u w (j ∷ js) each = ap (λ a. found_row a (get w.free a)) each.0

-- the jobs of that number are u's own
pub own_account : (u : List ℕ) (n : ℕ) (w : World) → numbered n (rows w) ≡ named n (own_jobs u w.jobs) → owner_row w.free (numbered n (rows w)) ≡ own_free_row u (own u w) (named n (own_jobs u w.jobs))
own_account u n w all = ap (owner_row w.free) all ∙ free_of_own u w (named n (own_jobs u w.jobs)) (each_own u n w)

-- ---- the scene that is cut from what is the caller's own

abbrev pub seen_free : List ℕ → Call → Own → List FreeRow
seen_free u (cancel_job n) o = own_free_row u o (named n o.jobs)
seen_free u (cancel_my_jobs numbers) o = found_row u o.free
seen_free u (hold_job n) o = found_row u o.free
seen_free u (release_job n) o = found_row u o.free
seen_free u _ o = []

abbrev pub seen : SettingValues → Own → List ℕ → Call → Scene
seen s o caller call = record {
  settings = s;
  jobs = jobs_for s.operators caller call (rows_of o.jobs);
  free = seen_free caller call o;
  live = live_for caller call (rows_of o.jobs);
  counts = counts_for call [];
  report = None;
  known = [];
  next = next_for call o.next;
}

-- ---- the call

module _ (u : List ℕ) (w : World) (now : ℕ) (call : Call) (sound : IsSound w) (plain : is_operator w.settings.operators u ≡ false) where
  abbrev e : Event
  e = ask u call

  abbrev here : Scene
  here = cut w now e

  abbrev mine : Scene
  mine = seen w.settings (own u w) u call

  -- the change is the same, and the reply where it does not count everybody's jobs
  abbrev pub IsDecided : Type 0
  IsDecided = ((decision here now e).change ≡ (decision mine now e).change) × (counts_all call ≡ false → (decision here now e).reply ≡ (decision mine now e).reply)

  same : decision here now e ≡ decision mine now e → IsDecided
  same is = (ap (λ (d : Decision). d.change) is, λ not. ap (λ (d : Decision). d.reply) is)

  of_scene : here.jobs ≡ mine.jobs → here.free ≡ mine.free → here.live ≡ mine.live → here.counts ≡ mine.counts → IsDecided
  of_scene jobs free live counts =
      let one : here ≡ mine = λ i. record { settings = w.settings; jobs = jobs i; free = free i; live = live i; counts = counts i; report = None; known = []; next = next_for call w.next } in
      same (ap (λ (s : Scene). decision s now e) one)

  of_number : (n : ℕ) (row : Scene → Job → Decision) → here.jobs ≡ named n w.jobs → mine.jobs ≡ named n (own_jobs u w.jobs) → (numbered n (rows w) ≡ named n (own_jobs u w.jobs) → here.free ≡ mine.free) → here.live ≡ mine.live → here.counts ≡ mine.counts
      → ((s : Scene) → s.settings ≡ w.settings → decision s now e ≡ of_own u (row s) s.jobs) → IsDecided
  of_number n row all some free live counts table =
      elim (own_or_others u n 1 w.next w.jobs sound.numbers) as (λ o. IsDecided) [
        | inl is ↦ of_scene (all ∙ is ∙ sym some) (free is) live counts
        | inr other ↦ same (table here refl ∙ ap (of_own u (row here)) all ∙ other.1 (row here) ∙ sym (table mine refl ∙ ap (of_own u (row mine)) (some ∙ other.0)))
      ]

  -- another's job is none to u
  by_own : (row : Scene → Job → Decision) (s : Scene) → s.settings ≡ w.settings → of_seen s.settings.operators u (row s) s.jobs ≡ of_own u (row s) s.jobs
  by_own row s is = seen_own s.settings.operators u (row s) s.jobs (ap (λ (t : SettingValues). is_operator t.operators u) is ∙ plain)

  -- and none is listed
  shown_own : (which : WhichJobs) (mine : Bool) (js : List Job) → filter (λ j. (shows_all w.settings.operators u mine || bytes_eq j.owner u) && is_among which j) js ≡ filter (λ j. bytes_eq j.owner u && is_among which j) js
  shown_own which mine js = ap (λ b. filter (λ j. ((b && not mine) || bytes_eq j.owner u) && is_among which j) js) plain

pub decided : (u : List ℕ) (w : World) (now : ℕ) (call : Call) → (sound : IsSound w) (plain : is_operator w.settings.operators u ≡ false) → IsDecided u w now call sound plain
decided u w now (print_job j format payload) sound plain = of_scene u w now (print_job j format payload) sound plain refl refl (live_own u w.jobs) refl
decided u w now (validate_job j) sound plain = of_scene u w now (validate_job j) sound plain refl refl (live_own u w.jobs) refl
decided u w now (create_job j) sound plain = of_scene u w now (create_job j) sound plain refl refl (live_own u w.jobs) refl
decided u w now (send_document n format payload last) sound plain = of_number u w now (send_document n format payload last) sound plain n (λ s j. send_in s j format payload last) refl refl (λ is. refl) refl refl (λ s is. refl)
decided u w now (cancel_job n) sound plain =
    let row : Scene → Job → Decision = λ s j. cancel_row s now (cause u j) j in
    of_number u w now (cancel_job n) sound plain n row refl refl (own_account u n w) refl refl (by_own u w now (cancel_job n) sound plain row)
decided u w now (cancel_my_jobs None) sound plain = of_scene u w now (cancel_my_jobs None) sound plain (filter_own u is_live w.jobs) refl refl refl
decided u w now (cancel_my_jobs (Some numbers)) sound plain = of_scene u w now (cancel_my_jobs (Some numbers)) sound plain (filter_own u (is_one_of numbers) w.jobs) refl refl refl
decided u w now (hold_job n) sound plain = of_number u w now (hold_job n) sound plain n (λ s j. hold_in j.phase s j) refl refl (λ is. refl) refl refl (λ s is. refl)
decided u w now (release_job n) sound plain = of_number u w now (release_job n) sound plain n (λ s j. release_in j.phase s j) refl refl (λ is. refl) refl refl (λ s is. refl)
decided u w now (get_job_attributes n) sound plain =
    let row : Scene → Job → Decision = λ s j. answered (Jobs (j ∷ [])) in
    of_number u w now (get_job_attributes n) sound plain n row refl refl (λ is. refl) refl refl (by_own u w now (get_job_attributes n) sound plain row)
decided u w now (get_jobs which limit mine) sound plain =
    let listed : (js : List Job) → filter (λ j. (shows_all w.settings.operators u mine || bytes_eq j.owner u) && is_among which j) js ≡ filter (λ j. bytes_eq j.owner u && is_among which j) js =
    shown_own u w now (get_jobs which limit mine) sound plain which mine in
    of_scene u w now (get_jobs which limit mine) sound plain
    (ap (λ js. within_limit limit (in_order which js)) (listed (rows_of w.jobs) ∙ filter_own u (is_among which) w.jobs ∙ sym (listed (rows_of (own_jobs u w.jobs))))) refl refl refl
decided u w now get_printer_attributes sound plain = (refl, λ no. absurd (cc))
