-- How many jobs a SELECT of count(*) shows.
use Rattle.std.proofs.Common.{◌≡◌, inl, inr, ℕ, ◌<◌, ◌^◌, pos, List, [], ◌∷◌, map, filter, flat_map, length, Bool, false, ◌&&◌, Some, codes, refl, sym, ap, subst, ◌∙◌, arith, bytes_eq, if◌then◌else◌}
use Rattle.std.specs.Prelude.{⊤, count_by}
use Rattle.std.specs.List.{AllZip, list_all}
use Rattle.std.specs.List.Sorted.{IsPermutation}
use Rattle.std.proofs.lemmas.Bool.{cases_Bool}
use Rattle.std.proofs.lemmas.List.{length-map}
use Rattle.std.proofs.lemmas.List.Sums.{length-filter, count_by-le-length}
use Rattle.std.proofs.lemmas.List.Sorted.{length_permutation}
use Rattle.sqlite.specs.declared.types.Value.TheVariants.{Int, Null, Text as Words}
use Rattle.sqlite.specs.Collation.TheVariants.{Binary}
use Rattle.sqlite.specs.Command.TheVariants.{Select}
use Rattle.sqlite.specs.Listing.{understood}
use Rattle.sqlite.specs.Order.{Row}
use Rattle.sqlite.specs.Program.{overlay}
use Rattle.sqlite.specs.Query.{Query, IsAnswer, Output, output, page}
use Rattle.sqlite.specs.State.{State, Shown}
use Rattle.sqlite.specs.Term.{Env, Term, lit, col, op2, eval, holds}
use Rattle.sqlite.specs.Tree.{Trees}
use Rattle.sqlite.proofs.Callers.{one_permutation, reads_as}
use Rattle.sqlite_resolve.specs.Compile.{first}
use Rattle.sqlite_sql.specs.Aggregate.{count}
use Rattle.sqlite_sql.specs.Group.{Aggregate, Grouping, IsSummary, Summarizes, value_over}
use Rattle.sqlite_sql.specs.declared.aggregate.AggregateOp.TheVariants.{CountRows}
use Rattle.sqlite_sql.specs.declared.ops.BinaryOp.TheVariants.{Compare}
use Rattle.sqlite_sql.specs.declared.ops.CompareOp.TheVariants.{Eq, Lt}
use Rattle.sqlite_tied.specs.Compute.{everything}
use Rattle.sqlite_tied.specs.Listing.{counting}
use Rattle.queue_types.specs.declared.job.Job.{Job}
use Rattle.queue_types.specs.Job.{is_live, is_running, is_stopped}
use Rattle.queue_core.specs.World.{rows, live_jobs}
use Rattle.queue_tables.specs.Kept.{HasRows}
use Rattle.queue_tables.specs.Tables.{book_schema}
use Rattle.queue_tables.specs.Values.{job_values, job_view}
use Rattle.queue_tables.proofs.Permuting.{passing}
use Rattle.queue_tables.proofs.PlainQueries.{passes, plain_query}
use Rattle.queue_tables.proofs.Statements.{Shows}
use Rattle.queue_scenes.specs.Counts.{Counts}
use Rattle.queue_scenes.proofs.Bounds.{jobs_are_few}
use Rattle.queue_scenes.proofs.Lookup.{rows_passing}
use Rattle.queue_scenes.proofs.Tests.{is_own_live_row, own_live-row, is_own_row, own-row, is_running_row, running-row, is_stopped_row, stopped-row, is_live_row, live-row}

-- ---- texts that count

-- a SELECT of how many rows of one table there are for which the conditions of WHERE hold
pub record Count : Type 0 where
  pub text : List ℕ
  pub tree : ℕ
  pub filter : List Term

abbrev pub count_of : Count → Query
count_of q = counting (plain_query q.tree q.filter [] [])

-- its text means it
pub record IsCount (q : Count) : Type 0 where
  pub shows : Shows q.text (Select (record { lets = []; body = count_of q }) (codes "count(*)" ∷ []))
  pub plainly : (db : Trees) → overlay db [] q.tree ≡ db q.tree

-- an owner's live jobs
abbrev pub count_live : Count
count_live = record { text = codes "SELECT count(*) FROM jobs WHERE owner = ?1 AND phase < 3"; tree = 1; filter = op2 (Compare Eq Binary) (col 1 2) (col 0 0) ∷ op2 (Compare Lt Binary) (col 1 8) (lit (Int (pos 3))) ∷ [] }

pub count_live_is : IsCount count_live
unfolding understood first everything
count_live_is = record { shows = record { command = refl; plain = (refl, refl); query = refl; unlisted = refl }; plainly = λ db. refl }

-- all jobs of an owner
abbrev pub count_own : Count
count_own = record { text = codes "SELECT count(*) FROM jobs WHERE owner = ?1"; tree = 1; filter = op2 (Compare Eq Binary) (col 1 2) (col 0 0) ∷ [] }

pub count_own_is : IsCount count_own
unfolding understood first everything
count_own_is = record { shows = record { command = refl; plain = (refl, refl); query = refl; unlisted = refl }; plainly = λ db. refl }

-- the running jobs
abbrev pub count_running : Count
count_running = record { text = codes "SELECT count(*) FROM jobs WHERE phase = 1"; tree = 1; filter = op2 (Compare Eq Binary) (col 1 8) (lit (Int (pos 1))) ∷ [] }

pub count_running_is : IsCount count_running
unfolding understood first everything
count_running_is = record { shows = record { command = refl; plain = (refl, refl); query = refl; unlisted = refl }; plainly = λ db. refl }

-- the stopped jobs
abbrev pub count_stopped : Count
count_stopped = record { text = codes "SELECT count(*) FROM jobs WHERE phase = 2"; tree = 1; filter = op2 (Compare Eq Binary) (col 1 8) (lit (Int (pos 2))) ∷ [] }

pub count_stopped_is : IsCount count_stopped
unfolding understood first everything
count_stopped_is = record { shows = record { command = refl; plain = (refl, refl); query = refl; unlisted = refl }; plainly = λ db. refl }

-- the live jobs
abbrev pub count_queued : Count
count_queued = record { text = codes "SELECT count(*) FROM jobs WHERE phase < 3"; tree = 1; filter = op2 (Compare Lt Binary) (col 1 8) (lit (Int (pos 3))) ∷ [] }

pub count_queued_is : IsCount count_queued
unfolding understood first everything
count_queued_is = record { shows = record { command = refl; plain = (refl, refl); query = refl; unlisted = refl }; plainly = λ db. refl }

-- ---- what such a text shows

module _ (terms : List Term) (params : Row) where
  -- the rows that pass, as the query matches them
  found : List Row → List Env
  found rs = flat_map (λ r. if passes terms params r then (params ∷ r ∷ []) ∷ [] else []) rs

  as_many : (rs : List Row) → length (found rs) ≡ length (filter (passes terms params) rs)
  unfolding found
  as_many [] = refl
  as_many (r ∷ rs) = elim (cases_Bool (passes terms params r)) [
    | inl passed ↦ rw (passed, as_many rs) refl
    | inr failed ↦ rw (failed, as_many rs) refl
  ]

-- of so few rows the count is exact
exact : (n : ℕ) → n < 2 ^ 31 → count n ≡ Int (pos n)
exact n low = ap (λ m. Int (pos m)) (omega (arith, low))

abbrev counted : Aggregate
counted = record { op = CountRows; distinct = false; collation = Binary; argument = lit Null }

abbrev in_one : Grouping
in_one = record { keys = []; collations = []; aggregates = counted ∷ []; having = [] }

module _ (group : List Env) where
  one_value : (values : Row) → AllZip (λ a v. value_over group a ≡ Some v) (counted ∷ []) values → values ≡ count (length group) ∷ []
  one_value [] z = absurd z
  one_value (v ∷ []) z = let is : count (length (map (eval (lit Null)) group)) ≡ v = cc in sym (rw (length-map group (eval (lit Null))) at (ap (λ x. x ∷ []) is))
  one_value (v ∷ w ∷ ws) z = absurd z.1

  one_summary : (rs : List Row) → AllZip (IsSummary in_one) (group ∷ []) rs → rs ≡ (count (length group) ∷ []) ∷ []
  one_summary [] z = absurd z
  one_summary (r ∷ []) z = ap (λ x. x ∷ []) (z.0.2 ∙ one_value z.0.0 z.0.1)
  one_summary (r ∷ x ∷ xs) z = absurd z.1

-- all that was found is one group, with its count as the one value
summed : (all : List Env) (params : Row) (staged : List Env) → Summarizes in_one params all staged → staged ≡ (params ∷ (count (length all) ∷ []) ∷ []) ∷ []
summed all params staged s =
    let group = s.grouping.0 in
    let one : s.rows ≡ (count (length group) ∷ []) ∷ [] = one_summary group s.rows (subst (λ gs. AllZip (IsSummary in_one) gs s.rows) s.grouping.2 s.summaries) in
    let many : length group ≡ length all = length_permutation all group s.grouping.1 in
    s.having ∙ ap (λ (rs : List Row). filter (λ (env : Env). list_all (holds env) []) (map (λ r. params ∷ r ∷ []) rs)) one ∙ ap (λ n. (params ∷ (count n ∷ []) ∷ []) ∷ []) many

module _ (q : Count) (is : IsCount q) where
  shows_count : {K : Type 0} (old : State) (params : Row) (cells : Row → Row) (let_through : Row → Bool) (values shown_rows : List Row) → old.now.schema ≡ book_schema
      → ((r : Row) → passes q.filter params r ≡ let_through (cells r)) → HasRows K cells values (old.now.trees q.tree) → length (filter let_through values) < 2 ^ 31
      → Shown q.text params old old shown_rows → shown_rows ≡ (Int (pos (length (filter let_through values))) ∷ []) ∷ []
  unfolding found
  shows_count old params cells let_through values shown_rows has_schema alike has few h =
      let got = reads_as q.text params old old book_schema has_schema _ is.shows.command is.shows.plain is.shows.unlisted shown_rows h in
      let a : IsAnswer (count_of q) (overlay old.now.trees []) params shown_rows = got.answer Null in
      let rs = old.now.trees q.tree in
      let passed = filter (passes q.filter params) rs in
      let m = length (filter let_through values) in
      let many : length (found q.filter params rs) ≡ m = as_many q.filter params rs ∙ sym (length-map passed cells) ∙ length_permutation (filter let_through values) (map cells passed) (passing cells values rs has (passes q.filter params) let_through alike) in
      let staged : a.staged ≡ (params ∷ (count (length (found q.filter params rs)) ∷ []) ∷ []) ∷ [] = rw (is.plainly old.now.trees) at (summed _ params a.staged a.grouped) in
      let kept : a.kept ≡ ([], count m ∷ []) ∷ [] = a.distinct ∙ ap (map (output (count_of q))) staged ∙ ap (λ n. ([], count n ∷ []) ∷ []) many in
      let ordered : a.ordered ≡ ([], count m ∷ []) ∷ [] = one_permutation ([], count m ∷ []) a.ordered (subst (λ (k : List Output). IsPermutation k a.ordered) kept a.same) in
      a.shown ∙ ap (λ (os : List Output). page (count_of q) params (map (λ (o : Output). o.1) os)) ordered ∙ ap (λ v. (v ∷ []) ∷ []) (exact m few)

-- ---- the jobs of a world

module _ (q : Count) (is : IsCount q) (jobs : q.tree ≡ 1) (params : Row) (let_through : Row → Bool) (p : Job → Bool) (alike : (r : Row) → passes q.filter params r ≡ let_through (job_view r)) (same : (j : Job) → let_through (job_values j) ≡ p j) where
  counts_jobs : (old : State) → Counts q.text params old (λ w. count_by p (rows w))
  counts_jobs old = record {
    shows = λ w sound has shown_rows h.
        let js = rows w in
        let n : length (filter let_through (map job_values js)) ≡ count_by p js = ap (length {A = Row}) (rows_passing job_values let_through p same js) ∙ length-map (filter p js) job_values ∙ length-filter p js in
        let few : length (filter let_through (map job_values js)) < 2 ^ 31 = omega (arith, n, count_by-le-length p js, jobs_are_few w sound) in
        let there = subst (λ t. HasRows ⊤ job_view (map job_values js) (old.now.trees t)) (sym jobs) has.rows.jobs in
        shows_count q is old params job_view let_through (map job_values js) shown_rows has.schema alike there few h ∙ ap (λ m. (Int (pos m) ∷ []) ∷ []) n;
  }

pub counts_live : (name : List ℕ) (old : State) → Counts count_live.text (Words name ∷ []) old (λ w. live_jobs name (rows w))
unfolding is_own_live_row
counts_live name = counts_jobs count_live count_live_is refl (Words name ∷ []) (is_own_live_row name) (λ (j : Job). bytes_eq j.owner name && is_live j) (λ r. refl) (own_live-row name)

pub counts_own : (name : List ℕ) (old : State) → Counts count_own.text (Words name ∷ []) old (λ w. count_by (λ (j : Job). bytes_eq j.owner name) (rows w))
unfolding is_own_row
counts_own name = counts_jobs count_own count_own_is refl (Words name ∷ []) (is_own_row name) (λ (j : Job). bytes_eq j.owner name) (λ r. refl) (own-row name)

pub counts_running : (old : State) → Counts count_running.text [] old (λ w. count_by is_running (rows w))
unfolding is_running_row
counts_running = counts_jobs count_running count_running_is refl [] is_running_row is_running (λ r. refl) running-row

pub counts_stopped : (old : State) → Counts count_stopped.text [] old (λ w. count_by is_stopped (rows w))
unfolding is_stopped_row
counts_stopped = counts_jobs count_stopped count_stopped_is refl [] is_stopped_row is_stopped (λ r. refl) stopped-row

pub counts_queued : (old : State) → Counts count_queued.text [] old (λ w. count_by is_live (rows w))
unfolding is_live_row
counts_queued = counts_jobs count_queued count_queued_is refl [] is_live_row is_live (λ r. refl) live-row
