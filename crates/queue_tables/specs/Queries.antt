-- Texts that are queries.
use Rattle.std.specs.Prelude.{◌≡◌, ℕ, Bool, true, false, List, Ok, Err}
use Rattle.sqlite_ast.specs.declared.Statement.{Statement}
use Rattle.sqlite_ast.specs.declared.Statement.TheVariants as written
use Rattle.sqlite_syntax.specs.declared.statement.Parsed.{Parsed}
use Rattle.sqlite_resolve.specs.Compile.{first}
use Rattle.sqlite_resolve.specs.Lowering.{Checked}

abbrev pub is_query_statement : Statement → Bool
is_query_statement (written.Select s) = true
is_query_statement _ = false

abbrev pub parses_query : Checked Parsed → Bool
parses_query (Ok p) = is_query_statement p.statement
parses_query (Err e) = false

-- the text is a SELECT
abbrev pub IsQueryText : List ℕ → Type 0
IsQueryText sql = parses_query (first sql) ≡ true
