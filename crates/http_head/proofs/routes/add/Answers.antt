use Rattle.std.proofs.Common.{◌≡◌, ◌<◌, ℕ, zero, suc, List, [], ◌∷◌, ◌++◌, length, take, get_or, Result, Ok, Err, None, Some, Bor, arith, inl, inr, refl, ap, ◌∙◌, subst, sym}
use Rattle.std.specs.Prelude.{map}
use Rattle.std.proofs.lemmas.List.{map_more}
use Rattle.std.proofs.lemmas.Result.{err_from_is_err_and}
use Rattle.matchit.specs.Rows.{RowsOf}
use Rattle.matchit.specs.Route.{parse_route, Scan}
use Rattle.matchit.specs.Router.{RouteOf, InsertsRead}
use Rattle.matchit.specs.declared.error.InsertError.{InsertError}
use Rattle.matchit.specs.declared.error.InsertError.TheVariants.{Conflict, InvalidCatchAll, InvalidParam, InvalidParamSegment, OutOfMemory}
use Rattle.http_head.specs.declared.routes.Route.{Route}
use Rattle.http_head.specs.declared.routes.Route.TheVariants.{Print}
use Rattle.http_head.specs.Routes.{AreFree, IsFree, placed_read, with_route, rows_of}
use Rattle.http_head.proofs.routes.add.Goals as goal

abbrev no_route : Bor (List ℕ) × Route
no_route = (record { ref_ptr = (0, 0); now = [] }, Print)

abbrev text : Bor (List ℕ) × Route → List ℕ × Route
text r = (r.0.now, r.1)

-- what an insert that went well has made of the rows
inserted : (s : Result Scan InsertError) (value : Route) (old new : RowsOf (RouteOf Route)) (u : Unit {0}) → InsertsRead s value old new (Ok u) → new ≡ placed_read s value old
inserted (Ok s) value old new u is = is.1
inserted (Err e) value old new u is = elim is.1 [
  | inl same ↦ absurd cc
  | inr same ↦ absurd cc
]

-- one path more at the end
last : (rs : List (List ℕ × Route)) (r : List ℕ × Route) (rows : RowsOf (RouteOf Route)) → rows_of (rs ++ r ∷ []) rows ≡ with_route r (rows_of rs rows)
last [] r rows = refl
last (x ∷ rs) r rows = last rs r (with_route x rows)

-- an insert of what is free fails for want of memory alone
only_wanting : (s : Result Scan InsertError) (value : Route) (old new : RowsOf (RouteOf Route)) (e : InsertError) → IsFree s old → InsertsRead s value old new (Err e) → e ≡ OutOfMemory
only_wanting (Ok s) value old new OutOfMemory free is = refl
only_wanting (Ok s) value old new (Conflict with) free is = let no : None ≡ Some is.1.0 = sym free ∙ is.1.1 in absurd cc
only_wanting (Ok s) value old new InvalidParamSegment free is = absurd is.1
only_wanting (Ok s) value old new InvalidParam free is = absurd is.1
only_wanting (Ok s) value old new InvalidCatchAll free is = absurd is.1
only_wanting (Err f) value old new e free is = absurd free

-- route i is free where those before it were added
free_at : (rs : List (Bor (List ℕ) × Route)) (i : ℕ) (rows : RowsOf (RouteOf Route)) → AreFree (map text rs) rows → i < length rs
    → IsFree (parse_route (get_or rs i no_route).0.now) (rows_of (map text (take i rs)) rows)
free_at [] i rows free h = absurd (omega (arith, h))
free_at (r ∷ rs) zero rows free h = free.0
free_at (r ∷ rs) (suc i) rows free h = free_at rs i (with_route (text r) rows) free.1 (omega (arith, h))

pub loop-path-preserved : goal.loop-path-preserved
loop-path-preserved c =
    let routes = c.args.routes.now in
    let i = c.loop-path.path-index in
    let r = get_or routes i no_route in
    inserted (parse_route r.0.now) r.1 c.loop-path.router c.insert.new.self c.in_ok-insert.field-0 c.in_ok-insert.ensures
    ∙ ap (with_route (text r)) c.loop-path.invariant
    ∙ sym (last (map text (take i routes)) (text r) c.args.router.now)
    ∙ sym (ap (λ rs. rows_of rs c.args.router.now) (map_more text routes i no_route c.loop-path-test.true))

pub returns-in_err-insert-clause-wanting : goal.returns-in_err-insert-clause-wanting
returns-in_err-insert-clause-wanting c =
    let routes = c.args.routes.now in
    let i = c.loop-path.path-index in
    let r = get_or routes i no_route in
    let told = err_from_is_err_and c.from_residual.result c.from_residual.ensures.1 in
    rw (told.1, told.2) (λ free. only_wanting (parse_route r.0.now) r.1 c.loop-path.router c.insert.new.self _
    (subst (IsFree (parse_route r.0.now)) (sym c.loop-path.invariant) (free_at routes i c.args.router.now free c.loop-path-test.true)) c.in_err-insert.ensures)
