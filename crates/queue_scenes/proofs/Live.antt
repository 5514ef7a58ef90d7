-- The live jobs of an owner, by the rank of their state and by number.
use Rattle.std.proofs.Common.{◌≡◌, ◌⊎◌, inl, inr, ℕ, pos, ◌+◌, ◌<◌, List, [], ◌∷◌, ◌++◌, map, filter, take, Bool, true, false, ◌&&◌, ◌||◌, ◌==◌, if◌then◌else◌, Option, Some, None, refl, sym, ap, subst, ◌∙◌, bytes_eq, nat_le, nat_lt, is_gt, Less}
use Rattle.std.specs.Prelude.{unwrap_or}
use Rattle.std.specs.Ordering.{int_cmp}
use Rattle.std.specs.Cmp.{tied_itself}
use Rattle.std.specs.List.{AllByRecursion as Each}
use Rattle.std.specs.List.Sorted.{IsPermutation}
use Rattle.std.proofs.lemmas.Bool.{and_parts, cases_Bool, eqb-true, ltb-true, or_cases}
use Rattle.std.proofs.lemmas.List.{map-id, take-map}
use Rattle.std.proofs.lemmas.List.Sorted.{IsPermutation-refl, IsPermutation-sym, IsPermutation-trans, IsPermutation-cons, IsPermutation-map, IsPermutation-middle, IsPermutation-append_left}
use Rattle.sqlite.specs.declared.types.Value.{Value}
use Rattle.sqlite.specs.declared.types.Value.TheVariants.{Int, Text as Words}
use Rattle.sqlite.specs.Order.{Row, column}
use Rattle.sqlite.specs.Ops.{binary, from_truth}
use Rattle.sqlite.specs.Collation.TheVariants.{Binary}
use Rattle.sqlite.specs.State.{State}
use Rattle.sqlite_sql.specs.Query.{key_cmp}
use Rattle.sqlite_sql.specs.declared.ops.BinaryOp.TheVariants.{Arith, Compare}
use Rattle.sqlite_sql.specs.declared.ops.ArithOp.TheVariants.{Add}
use Rattle.sqlite_sql.specs.declared.ops.CompareOp.TheVariants.{Eq, Gt}
use Rattle.sqlite_value.specs.Keys.{ascending}
use Rattle.sqlite_value.proofs.OrderLemmas.{value_cmp-Int, value_cmp_total}
use Rattle.sqlite_trees.specs.Tree.{IsAscending}
use Rattle.sqlite_keyed.proofs.ListLemmas.{ascending-map}
use Rattle.queue_types.specs.declared.job.Job.{Job}
use Rattle.queue_types.specs.declared.job.Phase.{Phase}
use Rattle.queue_types.specs.declared.job.Phase.TheVariants.{Waiting, Running, Stopped}
use Rattle.queue_types.specs.declared.event.WhichJobs.TheVariants.{NotCompleted}
use Rattle.queue_types.specs.Job.{is_live, is_live_in, state_in}
use Rattle.queue_core.specs.Limits.{FitsPhase, IsSoundJob}
use Rattle.queue_core.specs.Order.{AreByRank, AreRising as Rises, is_before, rank}
use Rattle.queue_core.specs.Sound.{IsSound}
use Rattle.queue_core.specs.Visible.{by_state, in_states, visible}
use Rattle.queue_core.specs.World.{World, rows}
use Rattle.queue_core.proofs.Ordered.{each-visible}
use Rattle.queue_core.proofs.Orders.{by_rank}
use Rattle.queue_rows.specs.Codes.{flag_number, phase_number}
use Rattle.queue_tables.specs.Values.{job_values, job_view, number}
use Rattle.queue_tables.proofs.Numbers.{same_number}
use Rattle.queue_scenes.specs.Jobs.{Selects, own_live}
use Rattle.queue_scenes.proofs.Lists.{each_sound, world_rising}
use Rattle.queue_scenes.proofs.Lookup.{rows_passing}
use Rattle.queue_scenes.proofs.Numbers.{AreRising, rising_filter, less_value}
use Rattle.queue_scenes.proofs.Ordered.{shows_first}
use Rattle.queue_scenes.proofs.Shown.{visible_rows, within_most}
use Rattle.queue_scenes.proofs.Statements.{select_all_live, select_all_live_is, select_live, select_live_is}
use Rattle.queue_scenes.proofs.Tests.{either_by_number, flags_added, is_live_row, is_own_live_row, live-row, own_live-row}

-- ---- ORDER BY (phase = 0) + (hold + incoming > 0), number

abbrev rank_value : Row → Value
rank_value v = binary (Arith Add) (binary (Compare Eq Binary) (column v 7) (Int (pos 0))) (binary (Compare Gt Binary) (binary (Arith Add) (column v 5) (column v 6)) (Int (pos 0)))

abbrev rank_key : Row → Row
rank_key v = rank_value v ∷ column v 0 ∷ []

equal_value : (m n : ℕ) → binary (Compare Eq Binary) (Int (pos m)) (Int (pos n)) ≡ from_truth (Some (m == n))
unfolding binary
equal_value m n = rw (value_cmp-Int (pos m) (pos n)) (ap (λ (b : Bool). from_truth (Some b)) (same_number m n))

above_value : (m n : ℕ) → binary (Compare Gt Binary) (Int (pos m)) (Int (pos n)) ≡ from_truth (Some (is_gt (int_cmp (pos m) (pos n))))
unfolding binary
above_value m n = rw (value_cmp-Int (pos m) (pos n)) refl

-- ---- of a live job that is the rank of its state

abbrev rank_in : Phase → Bool → Bool → ℕ
rank_in p h i = if state_in p h i == 3 then 1 else (if state_in p h i == 4 then 2 else 0)

waiting : (h i : Bool) → binary (Arith Add) (from_truth (Some true)) (from_truth (Some (h || i))) ≡ Int (pos (rank_in Waiting h i))
unfolding binary
waiting true i = refl
waiting false true = refl
waiting false false = refl

at_device : (h i : Bool) → h ≡ false → i ≡ false → binary (Arith Add) (from_truth (Some false)) (from_truth (Some (h || i))) ≡ Int (pos 0)
unfolding binary
at_device h i free whole = rw (free, whole) refl

added_in : (p : Phase) (j : Job) → FitsPhase p j → is_live_in p ≡ true → binary (Arith Add) (from_truth (Some (phase_number p == 0))) (from_truth (Some (j.hold || j.incoming))) ≡ Int (pos (rank_in p j.hold j.incoming))
added_in Waiting j fits live = waiting j.hold j.incoming
added_in Running j fits live = at_device j.hold j.incoming fits.0 fits.1
added_in Stopped j fits live = at_device j.hold j.incoming fits.0 fits.1
added_in _ j fits live = absurd cc

ranked : (j : Job) → IsSoundJob j → is_live j ≡ true → rank_value (job_values j) ≡ Int (pos (rank j))
ranked j sound live =
    rw (flags_added j.hold j.incoming, equal_value (phase_number j.phase) 0, above_value (flag_number j.hold + flag_number j.incoming) 0, either_by_number j.hold j.incoming) (added_in j.phase j sound.phase live)

pub HasRank : Job → Type 0
HasRank j = (is_live j ≡ true) × (rank_value (job_values j) ≡ Int (pos (rank j)))

have_ranks : (p : Job → Bool) (js : List Job) → Each IsSoundJob js → Each HasRank (filter (λ j. p j && is_live j) js)
unfolding HasRank
have_ranks p [] all = tt
have_ranks p (j ∷ js) all = elim (cases_Bool (p j && is_live j)) [
  | inl passed ↦ let live : is_live j ≡ true = (and_parts (p j) (is_live j) passed).1 in rw passed ((live, ranked j all.0 live), have_ranks p js all.1)
  | inr failed ↦ rw failed (have_ranks p js all.1)
]

-- ---- by_state is in that order

abbrev IsBefore : Job → Job → Type 0
IsBefore a b = key_cmp 0 (ascending Binary ∷ ascending Binary ∷ []) (rank_key (job_values a)) (rank_key (job_values b)) ≡ Less

-- the lower rank, and of two the lower number
abbrev IsLower : ℕ → ℕ → ℕ → ℕ → Type 0
IsLower ra na rb nb = (ra < rb) ⊎ ((ra ≡ rb) × (na < nb))

keys_less : (ra na rb nb : ℕ) → IsLower ra na rb nb → key_cmp 0 (ascending Binary ∷ ascending Binary ∷ []) (Int (pos ra) ∷ Int (pos na) ∷ []) (Int (pos rb) ∷ Int (pos nb) ∷ []) ≡ Less
keys_less ra na rb nb (inl less) = rw (less_value ra rb less) refl
keys_less ra na rb nb (inr h) = rw (h.0, tied_itself value_cmp_total (Int (pos rb)), less_value na nb h.1) refl

lower : (ra na rb nb : ℕ) → (nat_lt ra rb || (ra == rb && nat_lt na nb)) ≡ true → IsLower ra na rb nb
lower ra na rb nb e = elim (or_cases (nat_lt ra rb) (ra == rb && nat_lt na nb) e) [
  | inl less ↦ inl (ltb-true ra rb less)
  | inr both ↦ let parts = and_parts (ra == rb) (nat_lt na nb) both in inr (eqb-true ra rb parts.0, ltb-true na nb parts.1)
]

goes_before : (a b : Job) → HasRank a → HasRank b → is_before a b ≡ true → IsBefore a b
unfolding HasRank
goes_before a b x y first = rw (x.1, y.1) (keys_less (rank a) a.number (rank b) b.number (lower (rank a) a.number (rank b) b.number first))

all_behind : (j : Job) (ks : List Job) → HasRank j → Each HasRank ks → Each (λ k. is_before j k ≡ true) ks → Each (IsBefore j) ks
all_behind j [] here all first = tt
all_behind j (k ∷ ks) here all first = (goes_before j k here all.0 first.0, all_behind j ks here all.1 first.1)

ascends : (js : List Job) → Each HasRank js → AreByRank js → IsAscending IsBefore js
ascends [] all up = tt
ascends (j ∷ js) all up = (all_behind j js all.0 all.1 up.0, ascends js all.1 up.1)

rises : (js : List Job) → AreRising js → Rises js
rises [] rise = tt
rises (j ∷ js) rise = (rise.0, rises js rise.1)

-- ---- and has the same jobs

-- the states are those of one part
abbrev IsPart : Bool → Bool → Bool → ℕ → Type 0
IsPart device pending held s = ((nat_le 5 s && nat_le s 6) ≡ device) × ((nat_le 3 s && nat_le s 3) ≡ pending) × ((nat_le 4 s && nat_le s 4) ≡ held)

part_of : (p : Phase) (h i : Bool) → is_live_in p ≡ true → IsPart true false false (state_in p h i) ⊎ (IsPart false true false (state_in p h i) ⊎ IsPart false false true (state_in p h i))
part_of Waiting true i live = inr (inr (refl, refl, refl))
part_of Waiting false true live = inr (inr (refl, refl, refl))
part_of Waiting false false live = inr (inl (refl, refl, refl))
part_of Running h i live = inl (refl, refl, refl)
part_of Stopped h i live = inl (refl, refl, refl)
part_of _ h i live = absurd cc

by_state_permuted : (js : List Job) → Each HasRank js → IsPermutation js (by_state js)
unfolding HasRank
by_state_permuted [] all = IsPermutation-refl []
by_state_permuted (j ∷ js) all =
    let a = in_states 5 6 js in
    let b = in_states 3 3 js in
    let c = in_states 4 4 js in
    let more : IsPermutation (j ∷ js) (j ∷ by_state js) = IsPermutation-cons j js (by_state js) (by_state_permuted js all.1) in
    elim (part_of j.phase j.hold j.incoming all.0.0) [
      | inl e ↦ rw (e.0, e.1, e.2) more
      | inr others ↦ elim others [
        | inl e ↦
            let middle : IsPermutation ((a ++ j ∷ b) ++ c) (j ∷ by_state js) = IsPermutation-append_left c (a ++ j ∷ b) (j ∷ (a ++ b)) (IsPermutation-middle a j b) in
            rw (e.0, e.1, e.2) (IsPermutation-trans (j ∷ js) (j ∷ by_state js) ((a ++ j ∷ b) ++ c) more (IsPermutation-sym ((a ++ j ∷ b) ++ c) (j ∷ by_state js) middle))
        | inr e ↦
            let last : IsPermutation ((a ++ b) ++ j ∷ c) (j ∷ by_state js) = IsPermutation-middle (a ++ b) j c in
            rw (e.0, e.1, e.2) (IsPermutation-trans (j ∷ js) (j ∷ by_state js) ((a ++ b) ++ j ∷ c) more (IsPermutation-sym ((a ++ b) ++ j ∷ c) (j ∷ by_state js) last))
      ]
    ]

-- ---- what the SELECTs show

-- a test of rows that finds the live jobs of some
module _ (p : Job → Bool) (test : Row → Bool) (same : (j : Job) → test (job_values j) ≡ (p j && is_live j)) (w : World) (sound : IsSound w) where
  abbrev found : List Job
  found = filter (λ j. p j && is_live j) (rows w)

  have_rank : Each HasRank found
  have_rank = have_ranks p (rows w) (each_sound w.jobs sound.entries)

  live_listed : IsPermutation (filter test (map job_values (rows w))) (map job_values (by_state found))
  live_listed =
      subst (λ (vs : List Row). IsPermutation vs (map job_values (by_state found))) (sym (rows_passing job_values test (λ (j : Job). p j && is_live j) same (rows w)))
      (IsPermutation-map job_values found (by_state found) (by_state_permuted found have_rank))

  live_ascends : IsAscending (λ u v. key_cmp 0 (ascending Binary ∷ ascending Binary ∷ []) (rank_key u) (rank_key v) ≡ Less) (map job_values (by_state found))
  live_ascends =
      ascending-map (λ u v. key_cmp 0 (ascending Binary ∷ ascending Binary ∷ []) (rank_key u) (rank_key v) ≡ Less) job_values (by_state found)
      (ascends (by_state found) (each-visible HasRank None NotCompleted found have_rank)
      (by_rank found (rises found (rising_filter (λ (j : Job). p j && is_live j) (rows w) (world_rising w sound)))))

abbrev is_of : List ℕ → Job → Bool
is_of name j = bytes_eq j.owner name

pub selects_live : (name : List ℕ) (limit : Option ℕ) (most : ℕ) → most ≡ unwrap_or limit 2147483647 → (s : State) → Selects select_live.text (Words name ∷ number most ∷ []) s (λ w. visible false name NotCompleted limit (rows w))
unfolding is_own_live_row
selects_live name limit most is s = record {
  rows = visible_rows false name NotCompleted limit;
  shows = λ w sound has shown_rows h.
      let shown = by_state (own_live name (rows w)) in
      shows_first select_live (Words name ∷ number most ∷ []) job_view (is_own_live_row name) (λ (v : Row). v) rank_key (λ r. refl) (λ r. refl) (λ r. refl)
      1 most select_live_is refl s s (map job_values (rows w)) shown_rows (map job_values shown) has.schema has.rows.jobs
      (live_listed (is_of name) (is_own_live_row name) (own_live-row name) w sound) (live_ascends (is_of name) (is_own_live_row name) (own_live-row name) w sound) h
      ∙ ap (take most) (map-id (map job_values shown)) ∙ take-map job_values most shown ∙ ap (map job_values) (within_most false name NotCompleted limit most is w sound);
}

abbrev is_any : Job → Bool
is_any j = true

pub selects_all_live : (limit : Option ℕ) (most : ℕ) → most ≡ unwrap_or limit 2147483647 → (s : State) → Selects select_all_live.text (number most ∷ []) s (λ w. visible true [] NotCompleted limit (rows w))
unfolding is_live_row
selects_all_live limit most is s = record {
  rows = visible_rows true [] NotCompleted limit;
  shows = λ w sound has shown_rows h.
      let shown = by_state (filter is_live (rows w)) in
      shows_first select_all_live (number most ∷ []) job_view is_live_row (λ (v : Row). v) rank_key (λ r. refl) (λ r. refl) (λ r. refl)
      0 most select_all_live_is refl s s (map job_values (rows w)) shown_rows (map job_values shown) has.schema has.rows.jobs
      (live_listed is_any is_live_row live-row w sound) (live_ascends is_any is_live_row live-row w sound) h
      ∙ ap (take most) (map-id (map job_values shown)) ∙ take-map job_values most shown ∙ ap (map job_values) (within_most true [] NotCompleted limit most is w sound);
}
