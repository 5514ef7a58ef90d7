-- What the UPDATE and the SELECT of one job do.
use Rattle.std.proofs.Common.{◌≡◌, ℕ, ℤ, List, [], ◌∷◌, map, filter, drop, length, Bool, Ok, Option, None, Some, refl, sym, ap, subst, ◌∙◌, option_map, slice_get}
use Rattle.std.specs.List.Sorted.{IsPermutation}
use Rattle.std.proofs.lemmas.List.{map-id}
use Rattle.sqlite.specs.declared.types.Value.{Value}
use Rattle.sqlite.specs.declared.types.Value.TheVariants.{Int, Text as Words}
use Rattle.sqlite.specs.Order.{Row, column}
use Rattle.sqlite.specs.Tree.{rowid}
use Rattle.sqlite.specs.State.{State, ExecutesInside, Shown}
use Rattle.queue_types.specs.declared.job.Job.{Job}
use Rattle.queue_types.specs.declared.job.Phase.{Phase}
use Rattle.queue_types.specs.declared.job.Why.{Why}
use Rattle.queue_core.specs.World.{World, rows, job_at}
use Rattle.queue_rows.specs.Codes.{phase_number, stopping_number, why_number, flag_number}
use Rattle.queue_tables.specs.Tables.{book_schema, jobs}
use Rattle.queue_tables.specs.Values.{number, moment, job_values, job_view}
use Rattle.queue_tables.specs.Content.{Content, Holds, content_of}
use Rattle.queue_tables.specs.Steps.{AreDistinct, bare, is_numbered, with_job_anew}
use Rattle.queue_tables.proofs.Statements.{update_job_text, update_job_terms, update_job_where, update_job_is, jobs_still, select_job, select_job_is}
use Rattle.queue_tables.proofs.Rows.{job_stored, cast_job}
use Rattle.queue_tables.proofs.Held.{holds_jobs}
use Rattle.queue_tables.proofs.Changing.{updates_row}
use Rattle.queue_tables.proofs.Firsts.{exactly, first_none, first_some}
use Rattle.queue_tables.proofs.Showing.{shows_all, rows_keep}
use Rattle.queue_tables.proofs.Ending.{unchanged_holds}
use Rattle.queue_tables.proofs.Entries.{row_at, found_rows}
use Rattle.queue_tables.proofs.Puts.{rows_twice}

-- ---- UPDATE

keyed_number : (was : Job) (r : Row) (id : ℤ) → rowid r ≡ Int id → job_view r ≡ job_values was → Int id ≡ number was.number
keyed_number was r id keyed is = sym keyed ∙ ap (λ (v : Row). column v 0) is

pub puts_job : (old new : State) (j was : Job) (count : ℕ) (c : Content) → Holds c old → filter (is_numbered j.number) c.jobs ≡ job_values was ∷ [] → was.number ≡ j.number
    → ExecutesInside 0 update_job_text (job_values j) old new (Ok count) → Holds (with_job_anew j c) new
puts_job old new j was count c has one same h =
    holds_jobs c _ old new has (updates_row book_schema update_job_text 1 jobs update_job_where update_job_terms update_job_is.command update_job_is.plain refl (λ db. refl) jobs_still
    job_view c.jobs (is_numbered j.number) (λ v. job_values j)
    old new (job_values j) (job_values was) (λ id. Int id ∷ drop 1 (job_stored j)) count has.schema
    (λ r. refl)
    (λ r id keyed is. let at : Int id ≡ number j.number = keyed_number was r id keyed is ∙ ap number same in
    (ap (λ (v : Value). v ∷ v ∷ drop 1 (job_stored j)) keyed, rw at (cast_job j), refl, rw at refl))
    has.rows.jobs one h.0) h.1.is_open

-- ---- SELECT

pub reads_job : (old new : State) (n : ℕ) (shown_rows : List Row) (c : Content) → Holds c old → Shown select_job.text (number n ∷ []) old new shown_rows
    → IsPermutation (map (λ (v : Row). v) (filter (is_numbered n) c.jobs)) shown_rows × Holds c new
reads_job old new n shown_rows c has h = (
  shows_all select_job select_job_is
      old new (number n ∷ []) job_view (is_numbered n) (λ (v : Row). v) c.jobs shown_rows has.schema (λ r. refl) (λ r. refl) has.rows.jobs h,
  unchanged_holds c old new has (rows_keep select_job select_job_is old new (number n ∷ []) shown_rows has.schema h),
)

-- the job of that number, or no row
pub reads_job_at : (old new : State) (n : ℕ) (shown_rows : List Row) (w : World) → AreDistinct w.jobs → Holds (content_of w) old → Shown select_job.text (number n ∷ []) old new shown_rows
    → (shown_rows ≡ found_rows (job_at n (rows w))) × Holds (content_of w) new
reads_job_at old new n shown_rows w d has h =
    let it = reads_job old new n shown_rows (content_of w) has h in
    let only = map-id (filter (is_numbered n) (content_of w).jobs) ∙ ap (filter (is_numbered n)) (rows_twice w.jobs) ∙ row_at n w.jobs d in
    (exactly job_values (job_at n (rows w)) shown_rows (subst (λ (k : List Row). IsPermutation k shown_rows) only it.0), it.1)

-- ---- the job that was read

same_int : (m n : ℕ) → number m ≡ number n → m ≡ n
same_int m n e = cc

same_moment : (o p : Option ℕ) → moment o ≡ moment p → o ≡ p
same_moment None None e = refl
same_moment None (Some n) e = absurd cc
same_moment (Some m) None e = absurd cc
same_moment (Some m) (Some n) e = ap (λ (k : ℕ). Some k) (same_int m n e)

same_words : (s t : List ℕ) → Words s ≡ Words t → s ≡ t
same_words s t e = cc

-- the numbers of a course tell it
abbrev pub TellCourses : Type 0
TellCourses = (p q : Phase) (s t : Option Why) → phase_number p ≡ phase_number q → why_number p s ≡ why_number q t → stopping_number p s ≡ stopping_number q t → (p ≡ q) × (s ≡ t)

pub same_job : TellCourses → ((a b : Bool) → flag_number a ≡ flag_number b → a ≡ b)
    → (j k : Job) → job_values j ≡ job_values k → j.documents ≡ 0 → j.octets ≡ 0 → j ≡ bare k
same_job courses flags j k e documents octets =
    let at : (i : ℕ) → column (job_values j) i ≡ column (job_values k) i = λ i. ap (λ (v : Row). column v i) e in
    let n = same_int j.number k.number (at 0) in
    let o = same_words j.owner k.owner (at 1) in
    let m = same_words j.name k.name (at 2) in
    let c = same_int j.copies k.copies (at 3) in
    let i = same_int j.impressions k.impressions (at 4) in
    let h = flags j.hold k.hold (same_int _ _ (at 5)) in
    let inc = flags j.incoming k.incoming (same_int _ _ (at 6)) in
    let course = courses j.phase k.phase j.stopping k.stopping (same_int _ _ (at 7)) (same_int _ _ (at 8)) (same_int _ _ (at 9)) in
    let p = course.0 in
    let s = course.1 in
    let t = same_int j.count k.count (at 10) in
    let r = same_int j.created k.created (at 11) in
    let b = same_moment j.begun k.begun (at 12) in
    let d = same_moment j.ended k.ended (at 13) in
    λ x. record { number = n x; owner = o x; name = m x; copies = c x; impressions = i x; hold = h x; incoming = inc x; phase = p x; stopping = s x; count = t x; created = r x; begun = b x; ended = d x; documents = documents x; octets = octets x }

-- so is the job that was read of a row
pub read_bare : TellCourses → ((a b : Bool) → flag_number a ≡ flag_number b → a ≡ b)
    → (row : Row) (j k : Job) → (length row ≡ 14 → row ≡ job_values j) → (j.documents ≡ 0) × (j.octets ≡ 0) → row ≡ job_values k → j ≡ bare k
read_bare courses flags row j k reads plain is =
    let read : row ≡ job_values j = reads (ap (length {A = Value}) is) in
    same_job courses flags j k (sym read ∙ is) plain.0 plain.1

-- and with the sizes of its documents it is the job
pub counted_job : (j k : Job) (documents octets : ℕ) → j ≡ bare k → documents ≡ k.documents → octets ≡ k.octets → record j { documents = documents; octets = octets } ≡ k
counted_job j k documents octets is d o =
    ap (λ (i : Job). record i { documents = documents; octets = octets }) is ∙ ap (λ n. record k { documents = n; octets = octets }) d ∙ ap (λ n. record k { octets = n }) o

pub found_none : (rs : List Row) (o : Option Job) → slice_get rs 0 ≡ None → rs ≡ found_rows o → None ≡ option_map bare o
found_none rs o none is = sym (ap (option_map bare) (first_none job_values rs o none is))

pub found_some : TellCourses → ((a b : Bool) → flag_number a ≡ flag_number b → a ≡ b)
    → (rs : List Row) (row : Row) (j : Job) (o : Option Job) → slice_get rs 0 ≡ Some row → (length row ≡ 14 → row ≡ job_values j) → (j.documents ≡ 0) × (j.octets ≡ 0) → rs ≡ found_rows o → Some j ≡ option_map bare o
found_some courses flags rs row j o some reads plain is =
    let it = first_some job_values rs row o some is in
    ap (λ (x : Job). Some x) (read_bare courses flags row j it.0 reads plain it.2) ∙ sym (ap (option_map bare) it.1)

-- ---- what is read of it

pub was_found : (j : Job) (o : Option Job) → Some j ≡ option_map bare o → (was : Job) × (o ≡ Some was) × (j ≡ bare was)
was_found j None e = absurd cc
was_found j (Some k) e = (k, refl, let same : j ≡ bare k = cc in same)

pub was_none : (o : Option Job) → None ≡ option_map bare o → o ≡ None
was_none None e = refl
was_none (Some k) e = absurd cc
