-- A query of one table without joins, groups or limits, and what of a row passes it and is shown.
use Rattle.std.specs.Prelude.{ℕ, Bool, false, List, [], ◌∷◌, None, pos, negsuc}
use Rattle.std.specs.List.{list_all}
use Rattle.sqlite.specs.declared.types.Value.TheVariants.{Int}
use Rattle.sqlite.specs.Order.{Row}
use Rattle.sqlite.specs.Term.{Term, lit, eval_all, holds}
use Rattle.sqlite.specs.Query.{Query, inner, end}
use Rattle.sqlite_value.specs.declared.keys.Key.{Key}

-- SELECT project FROM the tree WHERE filter ORDER BY order
abbrev pub plain_query : ℕ → List Term → List Term → List (Term × Key) → Query
plain_query tree filter project order = record {
  from = inner tree end;
  filter = filter;
  group = None;
  project = project;
  distinct = false;
  collations = [];
  order = order;
  limit = lit (Int (negsuc 0));
  offset = lit (Int (pos 0));
}

-- the row passes WHERE
abbrev pub passes : List Term → Row → Row → Bool
passes filter params r = list_all (holds (params ∷ r ∷ [])) filter

-- what is shown of the row
abbrev pub shown_of : List Term → Row → Row → Row
shown_of project params r = eval_all project (params ∷ r ∷ [])
