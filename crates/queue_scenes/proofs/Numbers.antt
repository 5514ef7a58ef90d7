-- The jobs of a world in the order of their numbers.
use Rattle.std.proofs.Common.{◌≡◌, ℕ, pos, ◌+◌, ◌<◌, List, [], ◌∷◌, map, filter, Bool, refl, sym, ◌∙◌, arith, Less}
use Rattle.std.specs.List.{AllByRecursion as Each}
use Rattle.std.specs.Cmp.{int_cmp_is}
use Rattle.std.proofs.lemmas.Int.{ints}
use Rattle.sqlite.specs.declared.types.Value.TheVariants.{Int}
use Rattle.sqlite.specs.Order.{Row, column, value_cmp}
use Rattle.sqlite.specs.Collation.TheVariants.{Binary}
use Rattle.sqlite_sql.specs.Query.{key_cmp}
use Rattle.sqlite_value.proofs.OrderLemmas.{value_cmp-Int}
use Rattle.sqlite_value.specs.Keys.{ascending}
use Rattle.sqlite_trees.specs.Tree.{IsAscending}
use Rattle.sqlite_keyed.proofs.ListLemmas.{ascending-map, ascending-filter, ascending_weaker}
use Rattle.queue_types.specs.declared.job.Job.{Job}
use Rattle.queue_core.specs.Sound.{Rise}
use Rattle.queue_core.specs.World.{Entry}
use Rattle.queue_tables.specs.Values.{job_values}
use Rattle.queue_tables.proofs.Entries.{rows_in}

abbrev pub AreRising : List Job → Type 0
AreRising = IsAscending (λ (a b : Job). a.number < b.number)

above : (n first : ℕ) (es : List Entry) (next : ℕ) → n < first → Rise first es next → Each (λ (j : Job). n < j.number) (rows_in es)
above n first [] next low rise = tt
above n first (e ∷ es) next low rise = (omega (arith, low, rise.0), above n (e.row.number + 1) es next (omega (arith, low, rise.0)) rise.1)

pub rising : (first : ℕ) (es : List Entry) (next : ℕ) → Rise first es next → AreRising (rows_in es)
rising first [] next rise = tt
rising first (e ∷ es) next rise = (above e.row.number (e.row.number + 1) es next (omega arith) rise.1, rising (e.row.number + 1) es next rise.1)

pub less_value : (m n : ℕ) → m < n → value_cmp (Int (pos m)) (Int (pos n)) ≡ Less
less_value m n low = value_cmp-Int (pos m) (pos n) ∙ sym (int_cmp_is (pos m) (pos n) Less (omega (arith, ints)))

-- ORDER BY number
abbrev pub number_key : Row → Row
number_key v = column v 0 ∷ []

by_number : (a b : Job) → a.number < b.number → key_cmp 0 (ascending Binary ∷ []) (number_key (job_values a)) (number_key (job_values b)) ≡ Less
by_number a b low = rw (less_value a.number b.number low) refl

pub numbers_ascend : (js : List Job) → AreRising js → IsAscending (λ v w. key_cmp 0 (ascending Binary ∷ []) (number_key v) (number_key w) ≡ Less) (map job_values js)
numbers_ascend js rise = ascending-map (λ v w. key_cmp 0 (ascending Binary ∷ []) (number_key v) (number_key w) ≡ Less) job_values js
    (ascending_weaker (λ (a b : Job). a.number < b.number) (λ (a b : Job). key_cmp 0 (ascending Binary ∷ []) (number_key (job_values a)) (number_key (job_values b)) ≡ Less) by_number js rise)

pub rising_filter : (p : Job → Bool) (js : List Job) → AreRising js → AreRising (filter p js)
rising_filter p js rise = ascending-filter (λ (a b : Job). a.number < b.number) p js rise
