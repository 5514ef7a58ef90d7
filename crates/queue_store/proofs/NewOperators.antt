-- The operators of a new book, one more.
use Rattle.std.proofs.Common.{◌≡◌, ◌+◌, ◌<◌, ℕ, List, [], ◌∷◌, ◌++◌, get_or, length, map, sym, subst, ap, ◌∙◌, take}
use Rattle.std.proofs.lemmas.List.{map_more}
use Rattle.sqlite.specs.Order.{Row}
use Rattle.sqlite.specs.State.{State}
use Rattle.queue_store.specs.New.{with_operator_rows}
use Rattle.queue_tables.specs.Content.{Content, Holds}
use Rattle.queue_tables.specs.Steps.{with_operator_row}
use Rattle.queue_tables.specs.Values.{operator_values}

pub one_more : (c : Content) (s : State) (names : List (List ℕ)) (i : ℕ) (name : List ℕ) → i < length names → ((d : List ℕ) → name ≡ get_or names i d)
    → Holds (with_operator_row (operator_values name) (with_operator_rows (take i names) c)) s → Holds (with_operator_rows (take (i + 1) names) c) s
one_more c s names i name below is has =
    subst (λ (rows : List Row). Holds (record c { operators = rows }) s)
    (ap (λ (n : List ℕ). map operator_values (take i names) ++ operator_values n ∷ []) (is []) ∙ sym (map_more operator_values names i [] below)) has
