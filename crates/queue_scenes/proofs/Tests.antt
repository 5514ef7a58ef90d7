-- What WHERE asks of a job's row, by the job.
use Rattle.std.proofs.Common.{◌≡◌, ℕ, ℤ, ◌+◌, nat_le, nat_lt, arith, pos, ap, ◌∙◌, List, Bool, true, false, ◌&&◌, ◌||◌, ◌==◌, Some, refl, bytes_eq, is_lt, is_gt}
use mathlib.Core.Bool.{and-true}
use Rattle.std.specs.Ordering.{int_cmp, is_le}
use Rattle.std.proofs.lemmas.Map.Text.{is_eq-slice_cmp}
use Rattle.sqlite.specs.declared.types.Value.TheVariants.{Int, Text as Words}
use Rattle.sqlite.specs.Order.{Row, column}
use Rattle.sqlite.specs.Ops.{binary, is_true, from_truth}
use Rattle.sqlite.specs.Collation.TheVariants.{Binary}
use Rattle.sqlite_sql.specs.declared.ops.BinaryOp.TheVariants.{Arith, Compare}
use Rattle.sqlite_sql.specs.declared.ops.ArithOp.TheVariants.{Add}
use Rattle.sqlite_sql.specs.declared.ops.CompareOp.TheVariants.{Lt, Le, Eq, Gt}
use Rattle.sqlite_value.proofs.OrderLemmas.{value_cmp-Int, value_cmp-Text}
use Rattle.queue_types.specs.declared.job.Job.{Job}
use Rattle.queue_types.specs.declared.job.Phase.{Phase}
use Rattle.queue_types.specs.declared.job.Phase.TheVariants.{Waiting}
use Rattle.queue_types.specs.Job.{is_live, is_live_in, is_running, is_running_in, is_stopped, is_stopped_in, state, state_in}
use Rattle.std.proofs.lemmas.Int.{ints}
use Rattle.std.proofs.lemmas.Bool.Decides.{nat_tests}
use Rattle.queue_core.specs.World.{has_expired}
use Rattle.queue_scenes.specs.Expiry.{latest}
use Rattle.queue_rows.specs.Codes.{phase_number, flag_number}
use Rattle.queue_tables.specs.Values.{job_values}
use Rattle.queue_tables.proofs.Numbers.{same_number}

-- ---- one comparison

bare : (b : Bool) → is_true (from_truth (Some b)) ≡ b
bare true = refl
bare false = refl

pub where_number_is : (m n : ℕ) → is_true (binary (Compare Eq Binary) (Int (pos m)) (Int (pos n))) ≡ (m == n)
unfolding binary
where_number_is m n = rw (value_cmp-Int (pos m) (pos n), bare _) (same_number m n)

pub where_text_is : (s t : List ℕ) → is_true (binary (Compare Eq Binary) (Words s) (Words t)) ≡ bytes_eq s t
unfolding binary
where_text_is s t = rw (value_cmp-Text s t, bare _) (is_eq-slice_cmp s t)

pub where_below : (m n : ℕ) → is_true (binary (Compare Lt Binary) (Int (pos m)) (Int (pos n))) ≡ is_lt (int_cmp (pos m) (pos n))
unfolding binary
where_below m n = rw (value_cmp-Int (pos m) (pos n), bare _) refl

pub where_above : (m n : ℕ) → is_true (binary (Compare Gt Binary) (Int (pos m)) (Int (pos n))) ≡ is_gt (int_cmp (pos m) (pos n))
unfolding binary
where_above m n = rw (value_cmp-Int (pos m) (pos n), bare _) refl

-- ---- phases

live_by_number : (p : Phase) → is_lt (int_cmp (pos (phase_number p)) (pos 3)) ≡ is_live_in p
live_by_number Waiting = refl
live_by_number _ = refl

running_by_number : (p : Phase) → (phase_number p == 1) ≡ is_running_in p
running_by_number Waiting = refl
running_by_number _ = refl

stopped_by_number : (p : Phase) → (phase_number p == 2) ≡ is_stopped_in p
stopped_by_number Waiting = refl
stopped_by_number _ = refl

pending_by_numbers : (p : Phase) (h i : Bool) → ((phase_number p == 0) && ((flag_number h == 0) && (flag_number i == 0))) ≡ (state_in p h i == 3)
pending_by_numbers Waiting true i = refl
pending_by_numbers Waiting false true = refl
pending_by_numbers _ _ _ = refl

-- ---- flags

pub flags_added : (h i : Bool) → binary (Arith Add) (Int (pos (flag_number h))) (Int (pos (flag_number i))) ≡ Int (pos (flag_number h + flag_number i))
unfolding binary
flags_added true true = refl
flags_added false true = refl
flags_added _ _ = refl

pub either_by_number : (h i : Bool) → is_gt (int_cmp (pos (flag_number h + flag_number i)) (pos 0)) ≡ (h || i)
either_by_number true true = refl
either_by_number false true = refl
either_by_number _ _ = refl

-- ---- WHERE, on what the row shows

-- phase = 1
unfoldable pub is_running_row : Row → Bool
is_running_row v = is_true (binary (Compare Eq Binary) (column v 7) (Int (pos 1))) && true

pub running-row : (j : Job) → is_running_row (job_values j) ≡ is_running j
unfolding is_running_row
running-row j = rw (where_number_is (phase_number j.phase) 1, and-true _) (running_by_number j.phase)

-- phase = 2
unfoldable pub is_stopped_row : Row → Bool
is_stopped_row v = is_true (binary (Compare Eq Binary) (column v 7) (Int (pos 2))) && true

pub stopped-row : (j : Job) → is_stopped_row (job_values j) ≡ is_stopped j
unfolding is_stopped_row
stopped-row j = rw (where_number_is (phase_number j.phase) 2, and-true _) (stopped_by_number j.phase)

-- phase < 3
unfoldable pub is_live_row : Row → Bool
is_live_row v = is_true (binary (Compare Lt Binary) (column v 7) (Int (pos 3))) && true

pub live-row : (j : Job) → is_live_row (job_values j) ≡ is_live j
unfolding is_live_row
live-row j = rw (where_below (phase_number j.phase) 3, and-true _) (live_by_number j.phase)

-- owner = ?1
unfoldable pub is_own_row : List ℕ → Row → Bool
is_own_row name v = is_true (binary (Compare Eq Binary) (column v 1) (Words name)) && true

pub own-row : (name : List ℕ) (j : Job) → is_own_row name (job_values j) ≡ bytes_eq j.owner name
unfolding is_own_row
own-row name j = rw (where_text_is j.owner name, and-true _) refl

-- owner = ?1 AND phase < 3
unfoldable pub is_own_live_row : List ℕ → Row → Bool
is_own_live_row name v = is_true (binary (Compare Eq Binary) (column v 1) (Words name)) && (is_true (binary (Compare Lt Binary) (column v 7) (Int (pos 3))) && true)

pub own_live-row : (name : List ℕ) (j : Job) → is_own_live_row name (job_values j) ≡ (bytes_eq j.owner name && is_live j)
unfolding is_own_live_row
own_live-row name j = rw (where_text_is j.owner name, where_below (phase_number j.phase) 3, and-true _, live_by_number j.phase) refl

-- phase = 0 AND hold = 0 AND incoming = 0
unfoldable pub is_pending_row : Row → Bool
is_pending_row v = is_true (binary (Compare Eq Binary) (column v 7) (Int (pos 0))) && (is_true (binary (Compare Eq Binary) (column v 5) (Int (pos 0))) && (is_true (binary (Compare Eq Binary) (column v 6) (Int (pos 0))) && true))

pub pending-row : (j : Job) → is_pending_row (job_values j) ≡ (state j == 3)
unfolding is_pending_row
pending-row j = rw (where_number_is (phase_number j.phase) 0, where_number_is (flag_number j.hold) 0, where_number_is (flag_number j.incoming) 0, and-true _) (pending_by_numbers j.phase j.hold j.incoming)

-- ---- phase = 0 AND hold + incoming > 0 AND created <= ?1

unfoldable pub is_expired_row : ℤ → Row → Bool
is_expired_row z v = is_true (binary (Compare Eq Binary) (column v 7) (Int (pos 0))) && (is_true (binary (Compare Gt Binary) (binary (Arith Add) (column v 5) (column v 6)) (Int (pos 0))) && (is_true (binary (Compare Le Binary) (column v 11) (Int z)) && true))

where_at_most : (m : ℕ) (z : ℤ) → is_true (binary (Compare Le Binary) (Int (pos m)) (Int z)) ≡ is_le (int_cmp (pos m) z)
unfolding binary
where_at_most m z = rw (value_cmp-Int (pos m) z, bare _) refl

held_by_numbers : (p : Phase) (h i : Bool) → ((phase_number p == 0) && (h || i)) ≡ (state_in p h i == 4)
held_by_numbers Waiting true i = refl
held_by_numbers Waiting false true = refl
held_by_numbers _ _ _ = refl

last_first : (x y a b : Bool) → (x && (y && (a && b))) ≡ (a && (b && (x && y)))
last_first true true true true = refl
last_first true true true false = refl
last_first true true false b = refl
last_first true false true true = refl
last_first true false true false = refl
last_first true false false b = refl
last_first false y true true = refl
last_first false y true false = refl
last_first false y false b = refl

-- it came so long ago
came_by : (keep now created : ℕ) → is_le (int_cmp (pos created) (latest keep now)) ≡ (nat_lt 0 keep && nat_le (created + keep) now)
came_by keep now created = grind (arith, ints, nat_tests)

pub expired-row : (keep now : ℕ) (j : Job) → is_expired_row (latest keep now) (job_values j) ≡ has_expired keep now j
unfolding is_expired_row has_expired
expired-row keep now j =
    rw (where_number_is (phase_number j.phase) 0, flags_added j.hold j.incoming, where_above (flag_number j.hold + flag_number j.incoming) 0, either_by_number j.hold j.incoming, where_at_most j.created (latest keep now), came_by keep now j.created, and-true _)
    (last_first (phase_number j.phase == 0) (j.hold || j.incoming) (nat_lt 0 keep) (nat_le (j.created + keep) now) ∙ ap (λ (b : Bool). nat_lt 0 keep && (nat_le (j.created + keep) now && b)) (held_by_numbers j.phase j.hold j.incoming))
