-- The names of the operators, which are removed and added one after another.
use Rattle.std.proofs.Common.{◌≡◌, ◌<◌, ◌+◌, ℕ, zero, suc, List, [], ◌∷◌, ◌++◌, true, false, bytes_eq, filter, get_or, length, map, take, IfSome, None, Ok, Option, Some, refl, sym, ap, subst, ◌∙◌, arith, Ordering, Less, Equal, Greater, is_eq}
use Rattle.std.specs.FinMap.{get}
use Rattle.std.specs.Ordering.{is_lt}
use Rattle.std.proofs.lemmas.List.Elements.{All-from_recursion}
use Rattle.std.proofs.lemmas.Map.Text.{is_eq-slice_cmp}
use Rattle.sqlite.specs.Order.{Row}
use Rattle.sqlite.specs.State.{State, ExecutesInside}
use Rattle.queue_types.specs.declared.event.KeptReport.{KeptReport}
use Rattle.queue_types.specs.Operators.{AreOperators, is_before}
use Rattle.queue_types.proofs.ByteOrder.{Rise, rise_from}
use Rattle.queue_core.specs.World.{World}
use Rattle.queue_core.specs.Sound.{IsKept, IsSound}
use Rattle.queue_tables.specs.Tables.{book_schema, operators}
use Rattle.queue_tables.specs.Values.{operator_values, operator_view}
use Rattle.queue_tables.specs.Content.{Content, Holds, content_of}
use Rattle.queue_tables.specs.Steps.{is_named, with_operator_row, with_operators, without_operators}
use Rattle.queue_tables.proofs.Emptying.{empties}
use Rattle.queue_tables.proofs.Held.{holds_operators}
use Rattle.queue_tables.proofs.Numbers.{named_operator}
use Rattle.queue_tables.proofs.Statements.{delete_operators_text, delete_operators_is, operators_still}

pub removes_operators : (old new : State) (count : ℕ) (c : Content) → Holds c old → ExecutesInside 0 delete_operators_text [] old new (Ok count) → Holds (without_operators c) new
removes_operators old new count c has h =
    holds_operators c [] old new has
    (empties book_schema delete_operators_text 8 operators delete_operators_is.command delete_operators_is.plain refl (λ db. refl) operators_still operator_view c.operators old new [] count has.schema has.rows.operators h.0)
    h.1.is_open

-- ---- names that rise

not_tied : (o : Ordering) → is_lt o ≡ true → is_eq o ≡ false
not_tied Less e = refl
not_tied Equal e = absurd cc
not_tied Greater e = absurd cc

unlike : (a b : List ℕ) → is_before a b ≡ true → bytes_eq a b ≡ false
unlike a b before = sym (is_eq-slice_cmp a b) ∙ not_tied _ before

next_is : (i : ℕ) → suc i + 1 ≡ suc (i + 1)
next_is i = omega arith

fresh_in : (names : List (List ℕ)) (i : ℕ) (d : List ℕ) → Rise names → i < length names → filter (is_named (get_or names i d)) (map operator_values (take i names)) ≡ []
fresh_in [] i d rise below = absurd (omega (arith, below))
fresh_in (n ∷ names) zero d rise below = refl
fresh_in (n ∷ names) (suc i) d rise below =
    let name = get_or names i d in
    let other : is_named name (operator_values n) ≡ false = named_operator name n ∙ unlike n name (All-from_recursion (λ b. is_before n b ≡ true) names rise.0 i d (omega (arith, below))) in
    rw other (fresh_in names i d rise.1 (omega (arith, below)))

next_in : (names : List (List ℕ)) (i : ℕ) (d : List ℕ) → i < length names → map operator_values (take i names) ++ operator_values (get_or names i d) ∷ [] ≡ map operator_values (take (i + 1) names)
next_in [] i d below = absurd (omega (arith, below))
next_in (n ∷ names) zero d below = refl
next_in (n ∷ names) (suc i) d below =
    ap (λ (rows : List Row). operator_values n ∷ rows) (next_in names i d (omega (arith, below))) ∙ ap (λ k. map operator_values (take k (n ∷ names))) (sym (next_is i))

module _ (names : List (List ℕ)) (i : ℕ) (name : List ℕ) (below : i < length names) (is : (d : List ℕ) → name ≡ get_or names i d) where
  -- none of those that are added before a name is like it
  pub is_fresh : AreOperators names → filter (is_named name) (map operator_values (take i names)) ≡ []
  is_fresh good = rw (is []) (fresh_in names i [] (rise_from names good.rising) below)

  -- with it they are one more
  pub name_more : (w : World) (s : State) → Holds (with_operator_row (operator_values name) (content_of (with_operators (take i names) w))) s → Holds (content_of (with_operators (take (i + 1) names) w)) s
  name_more w s has =
      subst (λ (rows : List Row). Holds (record (content_of w) { operators = rows }) s) (ap (λ n. map operator_values (take i names) ++ operator_values n ∷ []) (is []) ∙ next_in names i [] below) has

-- ---- a sound world with other operators

kept_with : (names : List (List ℕ)) (w : World) (job seq : ℕ) (o : Option KeptReport) → IfSome o (IsKept w job seq) → IfSome o (IsKept (with_operators names w) job seq)
kept_with names w job seq None kept = tt
kept_with names w job seq (Some k) kept = record { job = kept.job; seq = kept.seq; there = kept.there; positive = kept.positive; count = kept.count; total = kept.total }

pub sound_with : (names : List (List ℕ)) (w : World) → AreOperators names → IsSound w → IsSound (with_operators names w)
sound_with names w good s = record {
  settings = record {
    uri_some = s.settings.uri_some;
    uri_fits = s.settings.uri_fits;
    uri_bytes = s.settings.uri_bytes;
    uri_path = s.settings.uri_path;
    name_some = s.settings.name_some;
    name_fits = s.settings.name_fits;
    name_utf8 = s.settings.name_utf8;
    estimate_fits = s.settings.estimate_fits;
    keep_fits = s.settings.keep_fits;
    operators_fit = good;
  };
  numbers = s.numbers;
  next = s.next;
  entries = s.entries;
  live = s.live;
  grants = s.grants;
  most = s.most;
  accounts = s.accounts;
  reports = λ job seq. kept_with names w job seq (get w.reports (job, seq)) (s.reports job seq);
  counts = s.counts;
  idle = s.idle;
  balances = s.balances;
}
