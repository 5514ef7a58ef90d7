-- The routes of the server, and which a path has.
use Rattle.std.specs.Prelude.{◌≡◌, ◌≢◌, ◌<◌, ℕ, List, [], ◌∷◌, length, Option, None, option_map, Result, Ok, Err, codes, ⊤}
use Rattle.std.specs.List.{AllByRecursion}
use Rattle.matchit.specs.Rows.{RowsOf}
use Rattle.matchit.specs.Order.{placed}
use Rattle.matchit.specs.Route.{parse_route, Scan}
use Rattle.matchit.specs.Router.{RouteOf, nearest, route_from}
use Rattle.matchit.specs.Seek.{first}
use Rattle.matchit.specs.declared.error.InsertError.{InsertError}
use Rattle.http_head.specs.declared.routes.Route.{Route}
use Rattle.http_head.specs.declared.routes.Route.TheVariants.{Print, Report, Queue, Document}

abbrev pub placed_read : Result Scan InsertError → Route → RowsOf (RouteOf Route) → RowsOf (RouteOf Route)
placed_read (Ok s) value rows = placed (s.pattern, route_from s value) rows
placed_read (Err e) value rows = rows

-- the rows with this route in its place
abbrev pub with_route : List ℕ × Route → RowsOf (RouteOf Route) → RowsOf (RouteOf Route)
with_route r rows = placed_read (parse_route r.0) r.1 rows

-- each route's text and what answers it
abbrev pub table : List (List ℕ × Route)
table =
    (codes "/ipp/print", Print)
    ∷ (codes "/ipp/print/{job}", Print)
    ∷ (codes "/device/report", Report)
    ∷ (codes "/device/queue", Queue)
    ∷ (codes "/device/document/{job}/{n}", Document)
    ∷ []

abbrev pub rows_of : List (List ℕ × Route) → RowsOf (RouteOf Route) → RowsOf (RouteOf Route)
rows_of [] rows = rows
rows_of (r ∷ rs) rows = rows_of rs (with_route r rows)

-- what was read is a route, and none of the rows conflicts with it
abbrev pub IsFree : Result Scan InsertError → RowsOf (RouteOf Route) → Type 0
IsFree (Ok s) rows = nearest s.pattern rows ≡ None
IsFree (Err e) rows = ⊥

-- each of these is a route, and conflicts neither with the rows nor with one before it
abbrev pub AreFree : List (List ℕ × Route) → RowsOf (RouteOf Route) → Type 0
AreFree [] rows = ⊤
AreFree (r ∷ rs) rows = IsFree (parse_route r.0) rows × AreFree rs (with_route r rows)

-- the router's rows: each route of the table put in its place, one after another
abbrev pub routes : RowsOf (RouteOf Route)
routes = rows_of table []

-- the route that a path has
abbrev pub route_at : List ℕ → Option (RouteOf Route)
route_at path = first routes path

abbrev pub value_of : RouteOf Route → Route
value_of r = r.value

-- what answers a path
unfoldable pub route_of : List ℕ → Option Route
route_of path = option_map value_of (route_at path)

-- a segment of a path that is not empty (RFC 3986, section 3.3): no byte of it is a slash
abbrev pub IsSegment : List ℕ → Type 0
IsSegment s = (0 < length s) × AllByRecursion (λ b. (b < 256) × (b ≢ 47)) s
