-- What the router is asked for.
use Rattle.std.specs.Prelude.{◌≡◌, ℕ, List, [], ◌∷◌, Option, Some, None, Result, Ok, Err, if◌then◌else◌, is_some, option_map}
use Rattle.std.specs.Borrow.{Bor}
use Rattle.std.specs.Option.{option_and_then}
use Rattle.matchit.specs.Rows.{RowsOf}
use Rattle.matchit.specs.Seek.{first}
use Rattle.matchit.specs.Route.{Scan, parse_route}
use Rattle.matchit.specs.declared.error.InsertError.{InsertError}
use Rattle.matchit.specs.Router.{RouteOf, nearest, route_from}
use Rattle.matchit.specs.Order.{placed}
use Rattle.http_api.specs.declared.route.Route.{Route}
use Rattle.http_api.specs.declared.route.Kind.{Kind}
use Rattle.http_api.specs.Route.{Leads, kind_of}

-- the routes of a router
abbrev pub Routes : Type 0
Routes = RowsOf (RouteOf Kind)

-- the router finds the kind of each path that leads somewhere
abbrev pub Knows : Routes → Type 0
Knows routes = (path : List ℕ) (route : Route) → Leads path route → option_map (λ r. r.value) (first routes path) ≡ Some (kind_of route)

-- the router can take the route that a text reads as
abbrev pub CanTake : Routes → Result Scan InsertError → Type 0
CanTake routes (Ok s) = nearest s.pattern routes ≡ None
CanTake routes (Err fault) = ⊥

-- the routes with one more
abbrev pub TakesRoute : Routes → Result Scan InsertError → Kind → Routes → Type 0
TakesRoute old (Ok s) kind new = new ≡ placed (s.pattern, route_from s kind) old
TakesRoute old (Err fault) kind new = ⊥

-- the routes with one more, or None where the router can't take it
abbrev pub with_route : Routes → Result Scan InsertError → Kind → Option Routes
with_route old (Ok s) kind = if is_some (nearest s.pattern old) then None else Some (placed (s.pattern, route_from s kind) old)
with_route old (Err fault) kind = None

-- the same with each of these texts
abbrev pub with_routes : List (Bor (List ℕ) × Kind) → Routes → Option Routes
with_routes [] old = Some old
with_routes ((text, kind) ∷ more) old = option_and_then (with_routes more) (with_route old (parse_route text.now) kind)
