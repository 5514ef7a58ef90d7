-- The jobs of an owner that ended, from the last one on.
use Rattle.std.proofs.Common.{◌≡◌, ◌⊎◌, inl, inr, ℕ, pos, ◌<◌, ◌≤◌, List, [], ◌∷◌, map, filter, take, Bool, true, false, not, ◌&&◌, ◌||◌, ◌==◌, Option, Some, None, refl, sym, ap, subst, ◌∙◌, arith, bytes_eq, nat_lt, Less, Greater, is_gt}
use mathlib.Core.Bool.{and-true}
use Rattle.std.specs.Prelude.{IsSome, IfSome, unwrap_or}
use Rattle.std.specs.Ordering.{int_cmp}
use Rattle.std.specs.Cmp.{int_cmp_is, tied_itself}
use Rattle.std.specs.List.{AllByRecursion as Each}
use Rattle.std.specs.List.Sorted.{IsPermutation}
use Rattle.std.proofs.lemmas.Bool.{and_cases, and_parts, cases_Bool, eqb-false, eqb-true, ltb-false, ltb-true, or_cases, or_parts}
use Rattle.std.proofs.lemmas.Int.{ints}
use Rattle.std.proofs.lemmas.List.{map-id, take-map}
use Rattle.std.proofs.lemmas.List.Sorted.{IsPermutation-refl, IsPermutation-trans, IsPermutation-cons, IsPermutation-map}
use Rattle.sqlite.specs.declared.types.Value.TheVariants.{Int, Text as Words}
use Rattle.sqlite.specs.Order.{Row, column}
use Rattle.sqlite.specs.Ops.{binary, is_true}
use Rattle.sqlite.specs.Collation.TheVariants.{Binary}
use Rattle.sqlite.specs.State.{State}
use Rattle.sqlite_sql.specs.Query.{key_cmp}
use Rattle.sqlite_sql.proofs.QueryLemmas.{key_cmp_total}
use Rattle.sqlite_sql.specs.declared.ops.BinaryOp.TheVariants.{Compare}
use Rattle.sqlite_sql.specs.declared.ops.CompareOp.TheVariants.{Eq, Gt}
use Rattle.sqlite_value.proofs.OrderLemmas.{value_cmp_total}
use Rattle.sqlite_trees.specs.Tree.{IsAscending}
use Rattle.sqlite_keyed.proofs.ListLemmas.{all_weaker, ascending-map}
use Rattle.queue_types.specs.declared.job.Job.{Job}
use Rattle.queue_types.specs.declared.job.Phase.{Phase}
use Rattle.queue_types.specs.declared.job.Phase.TheVariants.{Waiting, Running, Stopped}
use Rattle.queue_types.specs.declared.event.WhichJobs.TheVariants.{Completed}
use Rattle.queue_types.specs.Job.{is_live, is_live_in}
use Rattle.queue_core.specs.Limits.{IsMoment, IsSoundJob, FitsPhase}
use Rattle.queue_core.specs.Sound.{IsSound}
use Rattle.queue_core.specs.Visible.{by_end, placed, is_newer, visible}
use Rattle.queue_core.specs.World.{World, rows}
use Rattle.queue_core.proofs.Ordered.{each-placed, each-visible}
use Rattle.queue_tables.specs.Values.{number, moment, job_values, job_view}
use Rattle.queue_tables.proofs.Permuting.{swap_front}
use Rattle.queue_scenes.specs.Jobs.{Selects}
use Rattle.queue_scenes.proofs.Lists.{each_sound, world_rising}
use Rattle.queue_scenes.proofs.Numbers.{AreRising, rising_filter, less_value}
use Rattle.queue_scenes.proofs.Ordered.{shows_first}
use Rattle.queue_scenes.proofs.Shown.{visible_rows, within_most}
use Rattle.queue_scenes.proofs.Statements.{descending, select_all_ended, select_all_ended_is, select_ended, select_ended_is}
use Rattle.queue_scenes.proofs.Tests.{where_text_is, where_above}

-- ---- a job that ended has the moment of its end

pub HasEnd : Job → Type 0
HasEnd j = (n : ℕ) × (j.ended ≡ Some n)

-- owner = ?1 AND ended > 0
unfoldable pub is_ended_row : List ℕ → Row → Bool
is_ended_row name v = is_true (binary (Compare Eq Binary) (column v 1) (Words name)) && (is_true (binary (Compare Gt Binary) (column v 13) (Int (pos 0))) && true)

later : (n : ℕ) → 1 ≤ n → is_gt (int_cmp (pos n) (pos 0)) ≡ true
later n low = ap is_gt (sym (int_cmp_is (pos n) (pos 0) Greater (omega (arith, ints))))

none_later : (o : Option ℕ) → o ≡ None → is_true (binary (Compare Gt Binary) (moment o) (Int (pos 0))) ≡ false
unfolding binary
none_later o none = rw none refl

some_later : (o : Option ℕ) → IsSome o → IfSome o IsMoment → is_true (binary (Compare Gt Binary) (moment o) (Int (pos 0))) ≡ true
some_later None some within = absurd cc
some_later (Some n) some within = where_above n 0 ∙ later n within.0

ended_in : (p : Phase) (j : Job) → FitsPhase p j → IfSome j.ended IsMoment → is_true (binary (Compare Gt Binary) (moment j.ended) (Int (pos 0))) ≡ not (is_live_in p)
ended_in Waiting j fits within = none_later j.ended fits.2
ended_in Running j fits within = none_later j.ended fits.3
ended_in Stopped j fits within = none_later j.ended fits.3
ended_in _ j fits within = some_later j.ended fits.2 within

-- it ended, and is one of some
abbrev has_ended : (Job → Bool) → Job → Bool
has_ended p j = p j && not (is_live j)

abbrev is_of : List ℕ → Job → Bool
is_of name j = bytes_eq j.owner name

abbrev is_any : Job → Bool
is_any j = true

-- ended > 0
unfoldable pub is_any_ended_row : Row → Bool
is_any_ended_row v = is_true (binary (Compare Gt Binary) (column v 13) (Int (pos 0))) && true

any_ended-row : (j : Job) → IsSoundJob j → is_any_ended_row (job_values j) ≡ has_ended is_any j
unfolding is_any_ended_row
any_ended-row j sound = rw (ended_in j.phase j sound.phase sound.ended, and-true _) refl

ended-row : (name : List ℕ) (j : Job) → IsSoundJob j → is_ended_row name (job_values j) ≡ has_ended (is_of name) j
unfolding is_ended_row
ended-row name j sound = rw (where_text_is j.owner name, ended_in j.phase j sound.phase sound.ended, and-true _) refl

some_end : (o : Option ℕ) → IsSome o → (n : ℕ) × (o ≡ Some n)
some_end None some = absurd cc
some_end (Some n) some = (n, refl)

end_in : (p : Phase) (j : Job) → FitsPhase p j → not (is_live_in p) ≡ true → IsSome j.ended
end_in Waiting j fits over = absurd cc
end_in Running j fits over = absurd cc
end_in Stopped j fits over = absurd cc
end_in _ j fits over = fits.2

-- a test of rows that finds those of sound jobs that ended and are of some
Finds : (Row → Bool) → (Job → Bool) → Type 0
Finds test p = (j : Job) → IsSoundJob j → test (job_values j) ≡ has_ended p j

ended_kept : (test : Row → Bool) (p : Job → Bool) → Finds test p → (js : List Job) → Each IsSoundJob js → filter test (map job_values js) ≡ map job_values (filter (has_ended p) js)
unfolding Finds
ended_kept test p finds [] all = refl
ended_kept test p finds (j ∷ js) all = elim (cases_Bool (has_ended p j)) [
  | inl passed ↦ rw (finds j all.0 ∙ passed, passed, ended_kept test p finds js all.1) refl
  | inr failed ↦ rw (finds j all.0 ∙ failed, failed, ended_kept test p finds js all.1) refl
]

ends : (p : Job → Bool) (js : List Job) → Each IsSoundJob js → Each HasEnd (filter (has_ended p) js)
unfolding HasEnd
ends p [] all = tt
ends p (j ∷ js) all = elim (cases_Bool (has_ended p j)) [
  | inl passed ↦ rw passed (some_end j.ended (end_in j.phase j all.0.phase (and_parts (p j) (not (is_live j)) passed).1), ends p js all.1)
  | inr failed ↦ rw failed (ends p js all.1)
]

-- ---- ORDER BY ended DESC, number DESC

abbrev pub end_key : Row → Row
end_key v = column v 13 ∷ column v 0 ∷ []

abbrev pub IsBefore : Job → Job → Type 0
IsBefore a b = key_cmp 0 (descending ∷ descending ∷ []) (end_key (job_values a)) (end_key (job_values b)) ≡ Less

-- the one that ended last, and of two the greater number
abbrev IsLater : ℕ → ℕ → ℕ → ℕ → Type 0
IsLater ea na eb nb = (eb < ea) ⊎ ((ea ≡ eb) × (nb < na))

keys_less : (ea na eb nb : ℕ) → IsLater ea na eb nb → key_cmp 0 (descending ∷ descending ∷ []) (Int (pos ea) ∷ Int (pos na) ∷ []) (Int (pos eb) ∷ Int (pos nb) ∷ []) ≡ Less
keys_less ea na eb nb (inl less) = rw (less_value eb ea less) refl
keys_less ea na eb nb (inr h) = rw (h.0, tied_itself value_cmp_total (Int (pos eb)), less_value nb na h.1) refl

newer_later : (ea na eb nb : ℕ) → (nat_lt eb ea || (ea == eb && nat_lt nb na)) ≡ true → IsLater ea na eb nb
newer_later ea na eb nb e = elim (or_cases (nat_lt eb ea) (ea == eb && nat_lt nb na) e) [
  | inl less ↦ inl (ltb-true eb ea less)
  | inr both ↦ let parts = and_parts (ea == eb) (nat_lt nb na) both in inr (eqb-true ea eb parts.0, ltb-true nb na parts.1)
]

older_later : (ea na eb nb : ℕ) → (na ≡ nb → ⊥) → (nat_lt eb ea || (ea == eb && nat_lt nb na)) ≡ false → IsLater eb nb ea na
older_later ea na eb nb apart e =
    let parts = or_parts (nat_lt eb ea) (ea == eb && nat_lt nb na) e in
    let at_most : ea ≤ eb = ltb-false eb ea parts.0 in
    elim (cases_Bool (ea == eb)) [
      | inl same ↦
          let is : ea ≡ eb = eqb-true ea eb same in
          elim (and_cases (ea == eb) (nat_lt nb na) parts.1) [
            | inl other ↦ absurd (let no : true ≡ false = sym same ∙ other in cc)
            | inr low ↦ let under : na ≤ nb = ltb-false nb na low in inr (sym is, (let ne : (na ≡ nb) → ⊥ = apart in omega (arith, under, ne)))
          ]
      | inr other ↦ let ne : (ea ≡ eb) → ⊥ = eqb-false ea eb other in inl (omega (arith, at_most, ne))
    ]

newer_before : (a b : Job) → HasEnd a → HasEnd b → is_newer a b ≡ true → IsBefore a b
unfolding HasEnd
newer_before a b x y newer = rw (x.1, y.1) (keys_less x.0 a.number y.0 b.number (newer_later x.0 a.number y.0 b.number (rw (x.1, y.1) at newer)))

older_before : (a b : Job) → HasEnd a → HasEnd b → (a.number ≡ b.number → ⊥) → is_newer a b ≡ false → IsBefore b a
unfolding HasEnd
older_before a b x y apart older = rw (y.1, x.1) (keys_less y.0 b.number x.0 a.number (older_later x.0 a.number y.0 b.number apart (rw (x.1, y.1) at older)))

before_then : (a b c : Job) → IsBefore a b → IsBefore b c → IsBefore a c
before_then a b c first next = (key_cmp_total (descending ∷ descending ∷ []) 0).trans (end_key (job_values a)) (end_key (job_values b)) (end_key (job_values c)) first next

Differs : Job → Job → Type 0
Differs a b = a.number ≡ b.number → ⊥

all_newer : (k : Job) (j : Job) (ks : List Job) → IsBefore j k → Each (IsBefore k) ks → Each (IsBefore j) (k ∷ ks)
all_newer k j ks here all = (here, all_weaker (IsBefore k) (IsBefore j) (λ x behind. before_then j k x here behind) ks all)

placed_ascends : (j : Job) (ks : List Job) → HasEnd j → Each HasEnd ks → Each (Differs j) ks → IsAscending IsBefore ks → IsAscending IsBefore (placed j ks)
unfolding Differs
placed_ascends j [] has all apart up = (tt, tt)
placed_ascends j (k ∷ ks) has all apart up = elim (cases_Bool (is_newer k j)) [
  | inl newer ↦ rw newer (each-placed (IsBefore k) j ks (newer_before k j all.0 has newer) up.0, placed_ascends j ks has all.1 apart.1 up.1)
  | inr older ↦ rw older (all_newer k j ks (older_before k j all.0 has (λ same. apart.0 (sym same)) older) up.0, up)
]

each_by_end : (P : Job → Type 0) (js : List Job) → Each P js → Each P (by_end js)
each_by_end P js all = each-visible P None Completed js all

pub by_end_ascends : (js : List Job) → AreRising js → Each HasEnd js → IsAscending IsBefore (by_end js)
unfolding Differs
by_end_ascends [] rise all = tt
by_end_ascends (j ∷ js) rise all =
    placed_ascends j (by_end js) all.0 (each_by_end HasEnd js all.1) (each_by_end (Differs j) js (all_weaker (λ (k : Job). j.number < k.number) (Differs j) (λ k low same. omega (arith, low, same)) js rise.0)) (by_end_ascends js rise.1 all.1)

-- ---- the same jobs

placed_permuted : (j : Job) (ks : List Job) → IsPermutation (j ∷ ks) (placed j ks)
placed_permuted j [] = IsPermutation-refl (j ∷ [])
placed_permuted j (k ∷ ks) = elim (cases_Bool (is_newer k j)) [
  | inl newer ↦ rw newer (IsPermutation-trans (j ∷ k ∷ ks) (k ∷ j ∷ ks) (k ∷ placed j ks) (swap_front j k ks) (IsPermutation-cons k (j ∷ ks) (placed j ks) (placed_permuted j ks)))
  | inr older ↦ rw older (IsPermutation-refl (j ∷ k ∷ ks))
]

by_end_permuted : (js : List Job) → IsPermutation js (by_end js)
by_end_permuted [] = IsPermutation-refl []
by_end_permuted (j ∷ js) = IsPermutation-trans (j ∷ js) (j ∷ by_end js) (placed j (by_end js)) (IsPermutation-cons j js (by_end js) (by_end_permuted js)) (placed_permuted j (by_end js))

-- ---- what the SELECTs show

pub ended_of : (Job → Bool) → World → List Job
ended_of p w = filter (has_ended p) (rows w)

ended_listed : (test : Row → Bool) (p : Job → Bool) → Finds test p → (w : World) → IsSound w → IsPermutation (filter test (map job_values (rows w))) (map job_values (by_end (ended_of p w)))
unfolding ended_of
ended_listed test p finds w sound =
    subst (λ (vs : List Row). IsPermutation vs (map job_values (by_end (ended_of p w)))) (sym (ended_kept test p finds (rows w) (each_sound w.jobs sound.entries)))
    (IsPermutation-map job_values (ended_of p w) (by_end (ended_of p w)) (by_end_permuted (ended_of p w)))

ended_ascends : (p : Job → Bool) (w : World) → IsSound w → IsAscending (λ u v. key_cmp 0 (descending ∷ descending ∷ []) (end_key u) (end_key v) ≡ Less) (map job_values (by_end (ended_of p w)))
unfolding ended_of
ended_ascends p w sound =
    ascending-map (λ u v. key_cmp 0 (descending ∷ descending ∷ []) (end_key u) (end_key v) ≡ Less) job_values (by_end (ended_of p w))
    (by_end_ascends (ended_of p w) (rising_filter (has_ended p) (rows w) (world_rising w sound)) (ends p (rows w) (each_sound w.jobs sound.entries)))

pub selects_ended : (name : List ℕ) (limit : Option ℕ) (most : ℕ) → most ≡ unwrap_or limit 2147483647 → (s : State) → Selects select_ended.text (Words name ∷ number most ∷ []) s (λ w. visible false name Completed limit (rows w))
unfolding is_ended_row ended_of Finds
selects_ended name limit most is s = record {
  rows = visible_rows false name Completed limit;
  shows = λ w sound has shown_rows h.
      let shown = by_end (ended_of (is_of name) w) in
      shows_first select_ended (Words name ∷ number most ∷ []) job_view (is_ended_row name) (λ (v : Row). v) end_key (λ r. refl) (λ r. refl) (λ r. refl)
      1 most select_ended_is refl s s (map job_values (rows w)) shown_rows (map job_values shown) has.schema has.rows.jobs
      (ended_listed (is_ended_row name) (is_of name) (ended-row name) w sound) (ended_ascends (is_of name) w sound) h
      ∙ ap (take most) (map-id (map job_values shown)) ∙ take-map job_values most shown ∙ ap (map job_values) (within_most false name Completed limit most is w sound);
}

pub selects_all_ended : (limit : Option ℕ) (most : ℕ) → most ≡ unwrap_or limit 2147483647 → (s : State) → Selects select_all_ended.text (number most ∷ []) s (λ w. visible true [] Completed limit (rows w))
unfolding is_any_ended_row ended_of Finds
selects_all_ended limit most is s = record {
  rows = visible_rows true [] Completed limit;
  shows = λ w sound has shown_rows h.
      let shown = by_end (ended_of is_any w) in
      shows_first select_all_ended (number most ∷ []) job_view is_any_ended_row (λ (v : Row). v) end_key (λ r. refl) (λ r. refl) (λ r. refl)
      0 most select_all_ended_is refl s s (map job_values (rows w)) shown_rows (map job_values shown) has.schema has.rows.jobs
      (ended_listed is_any_ended_row is_any any_ended-row w sound) (ended_ascends is_any w sound) h
      ∙ ap (take most) (map-id (map job_values shown)) ∙ take-map job_values most shown ∙ ap (map job_values) (within_most true [] Completed limit most is w sound);
}
