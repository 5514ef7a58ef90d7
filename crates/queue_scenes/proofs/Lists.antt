-- The jobs that SELECTs of all columns show.
use Rattle.std.proofs.Common.{◌≡◌, inl, inr, ℕ, ◌<◌, List, [], ◌∷◌, map, filter, Bool, true, false, ◌&&◌, ◌==◌, Some, Less, refl, sym, subst, ◌∙◌, arith, bytes_eq}
use Rattle.std.specs.Prelude.{⊤}
use Rattle.std.specs.List.{AllByRecursion as Each}
use Rattle.std.specs.List.Sorted.{IsPermutation}
use Rattle.std.proofs.lemmas.Bool.{cases_Bool, eqb-true, eq-eqb, ne_eqb, or_parts}
use Rattle.std.proofs.lemmas.List.{map-id}
use Rattle.std.proofs.lemmas.List.Elements.{All-from_recursion}
use Rattle.sqlite.specs.declared.types.Value.TheVariants.{Int, Text as Words}
use Rattle.sqlite.specs.Collation.TheVariants.{Binary}
use Rattle.sqlite.specs.Order.{Row}
use Rattle.sqlite.specs.State.{State}
use Rattle.sqlite.specs.Term.{eval_all}
use Rattle.sqlite_keyed.proofs.ListLemmas.{IsPermutation-same, all_both, all-filter}
use Rattle.sqlite_sql.specs.Query.{key_cmp}
use Rattle.sqlite_trees.specs.Tree.{IsAscending}
use Rattle.sqlite_value.specs.Keys.{ascending}
use Rattle.sqlite_value.specs.declared.keys.Key.{Key}
use Rattle.queue_types.specs.declared.job.Job.{Job}
use Rattle.queue_types.specs.Job.{is_live, state}
use Rattle.queue_core.specs.Shown.{pending_in, pending_jobs}
use Rattle.queue_core.specs.Limits.{IsSoundJob}
use Rattle.queue_core.specs.Sound.{IsSound, IsSoundEntry}
use Rattle.queue_core.specs.World.{World, Entry, has_expired, rows, job_at, numbered, has_number}
use Rattle.queue_tables.specs.Content.{AreRowsOf, Holds, content_of}
use Rattle.queue_tables.specs.Kept.{HasRows}
use Rattle.queue_tables.specs.Steps.{AreDistinct}
use Rattle.queue_tables.specs.Values.{number, job_values, job_view}
use Rattle.queue_tables.proofs.Entries.{rows_in, found_rows, distinct_of}
use Rattle.queue_tables.proofs.JobPut.{reads_job_at}
use Rattle.queue_tables.proofs.PlainQueries.{passes, shown_of}
use Rattle.queue_tables.proofs.Statements.{IsSelection, Selection, select_job}
use Rattle.queue_scenes.specs.Expiry.{latest}
use Rattle.queue_scenes.specs.Jobs.{Selects, own_live}
use Rattle.queue_scenes.proofs.Lookup.{rows_passing}
use Rattle.queue_scenes.proofs.Numbers.{AreRising, rising, rising_filter, numbers_ascend, number_key}
use Rattle.queue_scenes.proofs.Ordered.{shows_in_order}
use Rattle.queue_scenes.proofs.Statements.{select_expired, select_expired_is, select_own, select_own_is, select_own_live, select_own_live_is, select_pending, select_pending_is}
use Rattle.queue_scenes.proofs.Tests.{expired-row, is_expired_row, is_own_row, own-row, is_own_live_row, own_live-row, is_pending_row, pending-row}

-- ---- each row of a world is its job of that number

found_behind : (x j : Job) (js : List Job) → x.number < j.number → job_at j.number js ≡ Some j → job_at j.number (x ∷ js) ≡ Some j
found_behind x j js low there =
    let apart : (x.number == j.number) ≡ false = ne_eqb x.number j.number (λ same. omega (arith, low, same)) in
    rw apart there

pub each_found : (js : List Job) → AreRising js → Each (λ (j : Job). job_at j.number js ≡ Some j) js
each_found [] rise = tt
each_found (x ∷ js) rise =
    let here : (x.number == x.number) ≡ true = eq-eqb x.number x.number refl in
    (rw here refl, all_both (λ (j : Job). x.number < j.number) (λ (j : Job). job_at j.number js ≡ Some j) (λ (j : Job). job_at j.number (x ∷ js) ≡ Some j) (λ j low there. found_behind x j js low there) js rise.0 (each_found js rise.1))

pub world_rising : (w : World) → IsSound w → AreRising (rows w)
world_rising w sound = rising 1 w.jobs w.next sound.numbers

pub each_row : (w : World) → IsSound w → Each (λ (j : Job). job_at j.number (rows w) ≡ Some j) (rows w)
each_row w sound = each_found (rows w) (world_rising w sound)

pub filtered_rows : (w : World) → IsSound w → (p : Job → Bool) → AreRowsOf w (filter p (rows w))
filtered_rows w sound p = All-from_recursion (λ (j : Job). job_at j.number (rows w) ≡ Some j) (filter p (rows w)) (all-filter (λ (j : Job). job_at j.number (rows w) ≡ Some j) p (rows w) (each_row w sound))

pub each_sound : (es : List Entry) → Each IsSoundEntry es → Each IsSoundJob (rows_in es)
each_sound [] all = tt
each_sound (e ∷ es) all = (all.0.row, each_sound es all.1)

-- ---- by number

none_of : (n : ℕ) (es : List Entry) → has_number n es ≡ false → numbered n (rows_in es) ≡ []
none_of n [] none = refl
none_of n (e ∷ es) none =
    let parts = or_parts (e.row.number == n) (has_number n es) none in
    rw (parts.0) (none_of n es parts.1)

one_of_number : (n : ℕ) (es : List Entry) → AreDistinct es → found_rows (job_at n (rows_in es)) ≡ map job_values (numbered n (rows_in es))
one_of_number n [] d = refl
one_of_number n (e ∷ es) d = elim (cases_Bool (e.row.number == n)) [
  | inl same ↦ rw (same, none_of n es (subst (λ m. has_number m es ≡ false) (eqb-true e.row.number n same) d.0)) refl
  | inr apart ↦ rw apart (one_of_number n es d.1)
]

pub selects_numbered : (n : ℕ) (s : State) → Selects select_job.text (number n ∷ []) s (λ w. numbered n (rows w))
selects_numbered n s = record {
  rows = λ w sound. filtered_rows w sound (λ (j : Job). j.number == n);
  shows = λ w sound has shown_rows h.
      let distinct = distinct_of 1 w.jobs w.next sound.numbers in
      (reads_job_at s s n shown_rows w distinct has h).0 ∙ one_of_number n w.jobs distinct;
}

-- ---- in the order of their numbers

-- a SELECT of all columns of the jobs that pass its test, by number
module _ (q : Selection) (tree : q.tree ≡ 1) (params : Row) (test : Row → Bool) (p : Job → Bool) (alike : (r : Row) → passes q.filter params r ≡ test (job_view r)) (shows : (r : Row) → shown_of q.terms params r ≡ job_view r)
    (keys : (r : Row) → eval_all (map (λ k. k.0) q.order) (params ∷ r ∷ []) ≡ number_key (job_view r)) (order : map (λ k. k.1) q.order ≡ ascending Binary ∷ []) (same : (j : Job) → test (job_values j) ≡ p j) where
  there : (s : State) (w : World) → Holds (content_of w) s → HasRows ⊤ job_view (map job_values (rows w)) (s.now.trees q.tree)
  there s w has = subst (λ t. HasRows ⊤ job_view (map job_values (rows w)) (s.now.trees t)) (sym tree) has.rows.jobs

  listed : (w : World) → IsPermutation (filter test (map job_values (rows w))) (map job_values (filter p (rows w)))
  listed w = IsPermutation-same _ _ (rows_passing job_values test p same (rows w))

  ascend : (w : World) → IsSound w → IsAscending (λ u v. key_cmp 0 (map (λ k. k.1) q.order) (number_key u) (number_key v) ≡ Less) (map job_values (filter p (rows w)))
  ascend w sound =
      subst (λ (ks : List Key). IsAscending (λ u v. key_cmp 0 ks (number_key u) (number_key v) ≡ Less) (map job_values (filter p (rows w)))) (sym order)
      (numbers_ascend (filter p (rows w)) (rising_filter p (rows w) (world_rising w sound)))

  pub selects_all : IsSelection q → (s : State) → Selects q.text params s (λ w. filter p (rows w))
  selects_all is s = record {
    rows = λ w sound. filtered_rows w sound p;
    shows = λ w sound has shown_rows h.
        shows_in_order q params job_view test (λ (v : Row). v) number_key alike shows keys
        is s s (map job_values (rows w)) shown_rows (map job_values (filter p (rows w))) has.schema (there s w has) (listed w) (ascend w sound) h
        ∙ map-id (map job_values (filter p (rows w)));
  }

pub selects_own_live : (name : List ℕ) (s : State) → Selects select_own_live.text (Words name ∷ []) s (λ w. own_live name (rows w))
unfolding is_own_live_row
selects_own_live name =
    selects_all select_own_live refl (Words name ∷ []) (is_own_live_row name) (λ j. bytes_eq j.owner name && is_live j) (λ r. refl) (λ r. refl) (λ r. refl) refl (own_live-row name) select_own_live_is

pub selects_own : (name : List ℕ) (s : State) → Selects select_own.text (Words name ∷ []) s (λ w. filter (λ (j : Job). bytes_eq j.owner name) (rows w))
unfolding is_own_row
selects_own name = selects_all select_own refl (Words name ∷ []) (is_own_row name) (λ j. bytes_eq j.owner name) (λ r. refl) (λ r. refl) (λ r. refl) refl (own-row name) select_own_is

pub selects_pending : (s : State) → Selects select_pending.text [] s pending_jobs
unfolding is_pending_row pending_in
selects_pending = selects_all select_pending refl [] is_pending_row (λ j. state j == 3) (λ r. refl) (λ r. refl) (λ r. refl) refl pending-row select_pending_is

pub selects_expired : (keep now : ℕ) (s : State) → Selects select_expired.text (Int (latest keep now) ∷ []) s (λ w. filter (has_expired keep now) (rows w))
unfolding is_expired_row
selects_expired keep now = selects_all select_expired refl (Int (latest keep now) ∷ []) (is_expired_row (latest keep now)) (has_expired keep now) (λ r. refl) (λ r. refl) (λ r. refl) refl (expired-row keep now) select_expired_is
