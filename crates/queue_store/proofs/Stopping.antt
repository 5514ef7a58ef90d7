-- The causes of jobs that are stopping: where none is missing, and how they are put.
use Rattle.std.proofs.Common.{◌≡◌, ℕ, ℤ, pos, ◌+ℤ◌, List, [], ◌∷◌, codes, inl, inr, map, filter, length, drop, Bool, true, false, ◌&&◌, Some, Ok, refl, sym, ap, Float, is_nan, subst, ◌∙◌, arith, slice_set}
use Rattle.std.specs.Prelude.{⊤, ◌↔◌}
use Rattle.std.specs.List.{AllByRecursion as Each}
use Rattle.std.specs.List.Sorted.{IsPermutation}
use Rattle.std.proofs.lemmas.Bool.{cases_Bool}
use Rattle.std.proofs.lemmas.Int.{ints}
use Rattle.std.proofs.lemmas.List.{length-map}
use Rattle.std.proofs.lemmas.List.Elements.{All-from_recursion}
use Rattle.std.proofs.lemmas.List.Sorted.{All-permutation, length_permutation}
use Rattle.sqlite.specs.Cast.{cast_row}
use Rattle.sqlite.specs.Collation.TheVariants.{Binary}
use Rattle.sqlite.specs.Command.TheVariants.{Update}
use Rattle.sqlite.specs.Effect.{IsDatabase}
use Rattle.sqlite.specs.Kind.TheVariants.{Integer, Text}
use Rattle.sqlite.specs.Listing.{understood}
use Rattle.sqlite.specs.Ops.{binary, fits_i64, from_truth, is_null, is_true, real}
use Rattle.sqlite.specs.Order.{Row, column}
use Rattle.sqlite.specs.Query.{Output}
use Rattle.sqlite.specs.State.{ExecutesInside, Shown, State}
use Rattle.sqlite.specs.Term.{Term, col, lit, op2}
use Rattle.sqlite.specs.declared.types.Value.{Value}
use Rattle.sqlite.specs.declared.types.Value.TheVariants.{Int, Null}
use Rattle.sqlite_resolve.specs.Compile.{first}
use Rattle.sqlite_rules.proofs.ListLemmas.{all_has}
use Rattle.sqlite_rules.specs.Lists.{Has}
use Rattle.sqlite_schema.specs.Rules.{Obeys, are_typed, is_of}
use Rattle.sqlite_schema.specs.Rules as rules
use Rattle.sqlite_schema.specs.declared.schema.Constraint.TheVariants.{Datatype}
use Rattle.sqlite_sql.specs.declared.ops.ArithOp.TheVariants.{Add}
use Rattle.sqlite_sql.specs.declared.ops.BinaryOp.TheVariants.{And, Arith, Compare}
use Rattle.sqlite_sql.specs.declared.ops.CompareOp.TheVariants.{Eq}
use Rattle.sqlite_tied.specs.Compute.{everything}
use Rattle.sqlite_trees.proofs.ListLemmas.{filter_none}
use Rattle.queue_types.specs.declared.job.Job.{Job}
use Rattle.queue_tables.proofs.Permuting.{has_at}
use Rattle.queue_tables.proofs.PlainQueries.{passes, plain_query, shown_of}
use Rattle.queue_tables.proofs.Rows.{cast_job, job_stored}
use Rattle.queue_tables.proofs.Statements.{IsSelection, Means, Selection, jobs_still}
use Rattle.queue_tables.proofs.Sums.{sum_is}
use Rattle.queue_tables.proofs.Writing.{kept_of, reads_rows, sorted_and_shown}
use Rattle.queue_tables.specs.Content.{Content, Holds}
use Rattle.queue_tables.specs.Kept.{HasRows}
use Rattle.queue_tables.specs.Plain.{table_of}
use Rattle.queue_tables.specs.Tables.{book_schema, jobs}
use Rattle.queue_tables.specs.Values.{job_values, job_view, kept_job_view, number, without_cause}
use Rattle.queue_store.proofs.Taken.{moved}
use Rattle.queue_store.proofs.Updates.{has_map, map_alike, updates_each}
use Rattle.queue_store.specs.Older.{AreCaused, HoldsThird, lacks_cause}

-- ---- the two statements

abbrev is_unnamed : Term
is_unnamed = op2 (Compare Eq Binary) (col 1 9) (lit (Int (pos 0)))

abbrev is_stopping : Term
is_stopping = op2 (Compare Eq Binary) (col 1 10) (lit (Int (pos 1)))

abbrev are_lacking : List Term
are_lacking = is_unnamed ∷ is_stopping ∷ []

abbrev pub select_text : List ℕ
select_text = codes "SELECT number FROM jobs WHERE why = 0 AND stopping = 1"

abbrev selection : Selection
selection = record { text = select_text; names = codes "number" ∷ []; tree = 1; filter = are_lacking; terms = col 1 0 ∷ []; order = [] }

pub selection_is : IsSelection selection
unfolding understood first everything
selection_is = record { shows = record { command = refl; plain = (refl, refl); query = refl; unlisted = refl }; plainly = λ db. refl }

abbrev pub update_text : List ℕ
update_text = codes "UPDATE jobs SET why = why + (why = 0 AND stopping = 1) WHERE why = 0 AND stopping = 1"

abbrev update_terms : List Term
update_terms =
    col 1 0 ∷ col 1 0 ∷ lit Null ∷ col 1 2 ∷ col 1 3 ∷ col 1 4 ∷ col 1 5 ∷ col 1 6 ∷ col 1 7 ∷ col 1 8 ∷ op2 (Arith Add) (col 1 9) (op2 And is_unnamed is_stopping) ∷ col 1 10 ∷ col 1 11
    ∷ col 1 12 ∷ col 1 13 ∷ col 1 14 ∷ []

update_is : Means update_text (Update 1 (record { lets = []; body = plain_query 1 are_lacking update_terms [] }))
unfolding understood everything
update_is = record { command = refl; plain = (refl, refl) }

and_true : (b : Bool) → (b && true) ≡ b
and_true true = refl
and_true false = refl

lets_through : (r : Row) → passes are_lacking [] r ≡ lacks_cause r
lets_through r = ap (λ (b : Bool). is_true (binary (Compare Eq Binary) (column r 9) (Int (pos 0))) && b) (and_true (is_true (binary (Compare Eq Binary) (column r 10) (Int (pos 1)))))

-- ---- where none is missing

none_pass : (p : Row → Bool) (rows : List Row) → length (filter p rows) ≡ 0 → Each (λ r. p r ≡ false) rows
none_pass p [] none = tt
none_pass p (r ∷ rows) none = elim (cases_Bool (p r)) [
  | inl passed ↦ absurd (let more : length (r ∷ filter p rows) ≡ 0 = rw passed at none in omega (arith, more))
  | inr failed ↦ (failed, none_pass p rows (rw failed at none))
]

each_same : (p q : Row → Bool) (b : Bool) (rows : List Row) → ((r : Row) → p r ≡ q r) → Each (λ r. q r ≡ b) rows → Each (λ r. p r ≡ b) rows
each_same p q b [] same all = tt
each_same p q b (r ∷ rows) same all = (same r ∙ all.0, each_same p q b rows same all.1)

-- the SELECT shows each job that lacks its cause
pub shows_lacking : (old new : State) (rows : List Row) → old.now.schema ≡ book_schema → Shown select_text [] old new rows → (length rows ≡ 0) ↔ AreCaused old.now
shows_lacking old new rows schema shown =
    let all = old.now.trees 1 in
    let l = reads_rows selection selection_is old new [] rows schema shown in
    let found = filter (passes are_lacking []) all in
    let a = ap (length {A = Row}) l.shown ∙ length-map l.ordered (λ (o : Output). o.1) in
    let b = length_permutation (kept_of 1 are_lacking (col 1 0 ∷ []) [] [] all) l.ordered l.same in
    let c = length-map found (sorted_and_shown [] (col 1 0 ∷ []) []) in
    let count : length rows ≡ length found = omega (arith, a, b, c) in (
      λ none. each_same lacks_cause (passes are_lacking []) false all (λ r. sym (lets_through r)) (none_pass (passes are_lacking []) all (omega (arith, count, none))),
      λ caused. let empty = ap (length {A = Row}) (filter_none (passes are_lacking []) all (each_same (passes are_lacking []) lacks_cause false all lets_through caused)) in omega (arith, count, empty),
    )

-- ---- the column why

and_first : (a b : Bool) → (a && b) ≡ true → a ≡ true
and_first true b e = refl
and_first false b e = absurd cc

and_second : (a b : Bool) → (a && b) ≡ true → b ≡ true
and_second true b e = e
and_second false b e = absurd cc

why_typed : (r : Row) → are_typed (Some 0) 0 jobs.columns (drop 1 r) ≡ true → is_of Integer (column r 9) ≡ true
why_typed (id ∷ a ∷ b ∷ c ∷ d ∷ e ∷ f ∷ g ∷ h ∷ why ∷ rest) typed =
    let first = and_second (is_null a) _ typed in
    let texts = and_second (is_of Text c) _ (and_second (is_of Text b) _ first) in
    let numbers = and_second (is_of Integer g) _ (and_second (is_of Integer f) _ (and_second (is_of Integer e) _ (and_second (is_of Integer d) _ texts))) in
    and_first (is_of Integer why) _ (and_second (is_of Integer h) _ numbers)
why_typed _ typed = refl

none_of : (b c : Bool) → (is_true (from_truth (Some b)) && is_true (from_truth (Some c))) ≡ false → binary And (from_truth (Some b)) (from_truth (Some c)) ≡ Int (pos 0)
unfolding binary
none_of true true e = absurd cc
none_of true false e = refl
none_of false true e = refl
none_of false false e = refl

none_lacks : (m n : ℤ) → (is_true (binary (Compare Eq Binary) (Int m) (Int (pos 0))) && is_true (binary (Compare Eq Binary) (Int n) (Int (pos 1)))) ≡ false
    → without_cause (Int m) (Int n) ≡ Int (pos 0)
unfolding binary
none_lacks m n e = none_of _ _ e

null_no_int : (b : Value) (n : ℤ) → binary (Arith Add) Null b ≡ Int n → ⊥
unfolding binary
null_no_int b n e = cc

real_no_int : (x : Float) (n : ℤ) → real x ≡ Int n → ⊥
real_no_int x n e = elim (cases_Bool (is_nan x)) [
  | inl nan ↦ let no = rw nan at e in cc
  | inr number ↦ let no = rw number at e in cc
]

wide_no_int : (m n : ℤ) → fits_i64 (m +ℤ pos 0) ≡ false → binary (Arith Add) (Int m) (Int (pos 0)) ≡ Int n → ⊥
unfolding binary
wide_no_int m n wide e = real_no_int _ n (rw wide at e)

plus_none : (m n : ℤ) → binary (Arith Add) (Int m) (Int (pos 0)) ≡ Int n → Int m ≡ Int n
plus_none m n e = elim (cases_Bool (fits_i64 (m +ℤ pos 0))) [
  | inl fits ↦ let same : m ≡ m +ℤ pos 0 = omega (arith, ints) in ap (λ (k : ℤ). Int k) same ∙ sym (sum_is m (pos 0) fits) ∙ e
  | inr wide ↦ absurd (wide_no_int m n wide e)
]

-- a cause that isn't lacking is shown as it is
stays : (why stopping : Value) (m n : ℤ) → is_of Integer why ≡ true → stopping ≡ Int m → binary (Arith Add) why (without_cause why stopping) ≡ Int n
    → (is_true (binary (Compare Eq Binary) why (Int (pos 0))) && is_true (binary (Compare Eq Binary) stopping (Int (pos 1)))) ≡ false → why ≡ Int n
stays Null stopping m n typed is sum failed = absurd (null_no_int _ n sum)
stays (Int k) stopping m n typed is sum failed =
    let none : without_cause (Int k) (Int m) ≡ Int (pos 0) = none_lacks k m (rw is at failed) in
    plus_none k n (ap (binary (Arith Add) (Int k)) (sym none) ∙ (rw is at sum))
stays _ stopping m n typed is sum failed = absurd (let no = typed in cc)

-- ---- the rows of jobs

abbrev IsJobRow : Row → Type 0
IsJobRow v = (j : Job) × (v ≡ job_values j)

each_job : (jobs : List Job) → Each IsJobRow (map job_values jobs)
each_job [] = tt
each_job (j ∷ jobs) = ((j, refl), each_job jobs)

module _ (values : List Job) (rows : List Row) (has : HasRows ⊤ kept_job_view (map job_values values) rows) where
  job_of : (r : Row) → Has rows r → IsJobRow (kept_job_view r)
  job_of r there =
      has_at IsJobRow (map kept_job_view rows) (kept_job_view r) (All-permutation IsJobRow (map job_values values) (map kept_job_view rows) has.same (All-from_recursion IsJobRow (map job_values values) (each_job values)))
      (has_map kept_job_view rows r there)

-- the row that is stored of what is shown of it
abbrev stored_of : Row → Row
stored_of v =
    column v 0 ∷ Null ∷ column v 1 ∷ column v 2 ∷ column v 3 ∷ column v 4 ∷ column v 5 ∷ column v 6 ∷ column v 7 ∷ column v 8 ∷ column v 9 ∷ column v 10 ∷ column v 11 ∷ column v 12 ∷ column v 13 ∷ []

put_shown : (r : Row) (j : Job) → kept_job_view r ≡ job_values j → job_view (cast_row (table_of jobs) (drop 1 (shown_of update_terms [] r))) ≡ kept_job_view r
put_shown r j is =
    let shown : drop 1 (shown_of update_terms [] r) ≡ job_stored j = ap stored_of is in
    ap (λ (v : Row). job_view (cast_row (table_of jobs) v)) shown ∙ ap job_view (cast_job j) ∙ sym is

rest_shown : (r : Row) (j : Job) → kept_job_view r ≡ job_values j → is_of Integer (column r 9) ≡ true → lacks_cause r ≡ false → job_view r ≡ kept_job_view r
rest_shown r j is typed caused =
    let sum : binary (Arith Add) (column r 9) (without_cause (column r 9) (column r 10)) ≡ column (job_values j) 8 = ap (λ (v : Row). column v 8) is in
    let same = stays (column r 9) (column r 10) _ _ typed (ap (λ (v : Row). column v 9) is) sum caused ∙ sym sum in
    ap (λ (v : Value). slice_set (job_view r) 8 v) same

module _ (s : State) (schema : s.now.schema ≡ book_schema) (sound : IsDatabase s.now) where
  obeyed : Obeys book_schema s.now.trees
  obeyed = subst (λ k. Obeys k s.now.trees) schema sound.obeys

  typed_row : (r : Row) → Has (s.now.trees 1) r → is_of Integer (column r 9) ≡ true
  typed_row r there = why_typed r (and_first _ _ (all_has (λ row. rules.passes Datatype book_schema s.now.trees (table_of jobs) row ≡ true) (s.now.trees 1) r (obeyed.rules Datatype).1.0 there))

-- ---- what the tables hold

-- where none is missing
pub caused_holds : (c : Content) (values : List Job) (s : State) → c.jobs ≡ map job_values values → HoldsThird c s → AreCaused s.now → Holds c s
caused_holds c values s are has caused =
    let rows = s.now.trees 1 in
    let kept = subst (λ (vs : List Row). HasRows ⊤ kept_job_view vs rows) are has.rows.second.first.jobs in
    let same : map job_view rows ≡ map kept_job_view rows
    = map_alike job_view kept_job_view rows (λ r there. let it = job_of values rows kept r there in rest_shown r it.0 it.1 (typed_row s has.schema_is has.sound r there) (all_has (λ r. lacks_cause r ≡ false) rows r caused there)) in
    record {
      schema = has.schema_is;
      sound = has.sound;
      rows = record {
        meta = has.rows.second.first.meta;
        jobs = record { same = subst (IsPermutation c.jobs) (sym same) has.rows.second.first.jobs.same; keyed = has.rows.second.first.jobs.keyed };
        documents = has.rows.second.first.documents;
        pieces = has.rows.second.first.pieces;
        accounts = has.rows.second.first.accounts;
        grants = has.rows.second.first.grants;
        reports = has.rows.second.first.reports;
        policy = has.rows.second.policy;
        operators = has.rows.operators;
      };
      live = has.live;
    }

-- once they are put
pub puts_causes : (old new : State) (count : ℕ) (c : Content) (values : List Job) → c.jobs ≡ map job_values values → HoldsThird c old → ExecutesInside 0 update_text [] old new (Ok count) → Holds c new
puts_causes old new count c values are has h =
    let kept = subst (λ (vs : List Row). HasRows ⊤ kept_job_view vs (old.now.trees 1)) are has.rows.second.first.jobs in
    let l = updates_each book_schema update_text 1 jobs are_lacking update_terms update_is.command update_is.plain refl (λ db. refl) jobs_still job_view kept_job_view [] c.jobs old new count has.schema_is
    (λ r there. let it = job_of values (old.now.trees 1) kept r there in record {
      id = refl;
      put = λ passed. put_shown r it.0 it.1;
      rest = λ failed. rest_shown r it.0 it.1 (typed_row old has.schema_is has.sound r there) (sym (lets_through r) ∙ failed);
    })
    has.rows.second.first.jobs h.0 in
    let others = l.others in
    record {
      schema = l.schema_is;
      sound = l.sound;
      rows = record {
        meta = moved (others.0 (omega arith)) has.rows.second.first.meta;
        jobs = l.rows;
        documents = moved (others.1.1.0 (omega arith)) has.rows.second.first.documents;
        pieces = moved (others.1.1.1.0 (omega arith)) has.rows.second.first.pieces;
        accounts = moved (others.1.1.1.1.0 (omega arith)) has.rows.second.first.accounts;
        grants = moved (others.1.1.1.1.1.0 (omega arith)) has.rows.second.first.grants;
        reports = moved (others.1.1.1.1.1.1.0 (omega arith)) has.rows.second.first.reports;
        policy = moved (others.1.1.1.1.1.1.1.0 (omega arith)) has.rows.second.policy;
        operators = moved (others.1.1.1.1.1.1.1.1.0 (omega arith)) has.rows.operators;
      };
      live = h.1.is_open;
    }
