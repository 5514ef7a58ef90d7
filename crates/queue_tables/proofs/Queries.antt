-- A text that is a query is one under any schema: it writes nothing.
use Rattle.std.proofs.Common.{◌≡◌, ℕ, ◌+◌, List, true, inl, inr, None, Ok, Err, Result, refl, sym, ap}
use Rattle.std.proofs.lemmas.Bool.{cases_Bool}
use Rattle.sqlite_ast.specs.declared.Statement.{Statement}
use Rattle.sqlite_ast.specs.declared.Statement.TheVariants as written
use Rattle.sqlite_syntax.specs.declared.statement.Parsed.{Parsed}
use Rattle.sqlite_schema.specs.declared.command.Command.{Command}
use Rattle.sqlite_schema.specs.declared.schema.Schema.{Schema}
use Rattle.sqlite_resolve.specs.Lowering.{Checked, and_then}
use Rattle.sqlite_resolve.specs.declared.compiled.Compiled.{Compiled}
use Rattle.sqlite_resolve.specs.Compile.{first, compiled, planned, meaning, returning, command, timed, small, with_command}
use Rattle.queue_tables.specs.Queries.{is_query_statement, parses_query, IsQueryText}
use Rattle.sqlite.specs.Listing.{understood, reads_listing, is_select, if_select, listing_schema}
use Rattle.sqlite.specs.State.{State, Shown, ShowsRows, IsUnchanged, CommitsShowing}
use Rattle.sqlite.specs.Tree.{Trees}
use Rattle.sqlite.specs.Order.{Row}
use Rattle.sqlite.specs.Clock.{timed as given}

shows_none : (schema : Schema) (base : ℕ) (s : Statement) → is_query_statement s ≡ true → returning schema base s ≡ Ok None
unfolding returning
shows_none schema base (written.Select s) e = refl
shows_none schema base _ e = absurd cc

found_bare : (r : Checked Command) (formats : List (List ℕ)) (p : Parsed) (c : Compiled)
    → and_then (and_then (and_then r (λ k. Ok (k, None))) (λ found. Ok (formats, found))) (λ plan. Ok (with_command p plan)) ≡ Ok c → c.returning ≡ None
found_bare (Ok k) formats p c e = let same : with_command p (formats, (k, None)) ≡ c = cc in sym (ap (λ (d : Compiled). d.returning) same)
found_bare (Err e') formats p c e = absurd cc

planned_bare : (schema : Schema) (p : Parsed) (c : Compiled) → is_query_statement p.statement ≡ true → and_then (planned schema p) (λ plan. Ok (with_command p plan)) ≡ Ok c → c.returning ≡ None
unfolding planned meaning
planned_bare schema p c query e =
    let formats = timed schema p.formats p.statement in
    let base = small p.names + small formats in
    found_bare (command schema p.formats base p.statement) formats p c (rw (shows_none schema base p.statement query) at e)

compiled_bare : (schema : Schema) (sql : List ℕ) (c : Compiled) → IsQueryText sql → compiled schema sql ≡ Ok c → c.returning ≡ None
unfolding compiled
compiled_bare schema sql c query e = of (first sql) query e
  where
    of : (r : Checked Parsed) → parses_query r ≡ true → and_then r (λ p. and_then (planned schema p) (λ plan. Ok (with_command p plan))) ≡ Ok c → c.returning ≡ None
    of (Ok p) q h = planned_bare schema p c q h
    of (Err x) q h = absurd cc

selected : (r : Result Compiled _) (c : Compiled) → if_select r ≡ Ok c → r ≡ Ok c
selected (Ok d) c e = elim (cases_Bool (is_select d.command)) [
  | inl is ↦ rw is at e
  | inr other ↦ absurd (let f = rw other at e in cc)
]
selected (Err x) c e = absurd cc

pub query_is_bare : (schema : Schema) (sql : List ℕ) (c : Compiled) → IsQueryText sql → understood schema sql ≡ Ok c → c.returning ≡ None
unfolding understood
query_is_bare schema sql c query e = elim (cases_Bool (reads_listing schema sql)) [
  | inl listed ↦ compiled_bare listing_schema sql c query (selected (compiled listing_schema sql) c (rw listed at e))
  | inr own ↦ compiled_bare schema sql c query (rw own at e)
]

pub query_changes_nothing : (sql : List ℕ) (params : Row) (old new : State) (rows : List Row) → IsQueryText sql → Shown sql params old new rows → IsUnchanged old new
unfolding Shown
query_changes_nothing sql params old new rows query h =
    let bare = query_is_bare old.now.schema sql h.0 query h.1.is in
    let shows : ShowsRows old new sql h.0 (given params h.0.formats h.1.now) rows None = rw bare at h.2 in
    shows.3

-- a query commits nothing
pub query_never_commits : (sql : List ℕ) (params : Row) (s : State) (db : Trees) → IsQueryText sql → ¬ CommitsShowing sql params s db
unfolding CommitsShowing
query_never_commits sql params s db query h = let bare = query_is_bare s.now.schema sql h.0 query h.1.is in let some = rw bare at h.2 in cc
