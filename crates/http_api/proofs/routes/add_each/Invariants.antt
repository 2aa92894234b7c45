use Rattle.std.proofs.Common.{◌≡◌, drop}
use Rattle.http_api.specs.Routes.{with_routes}
use Rattle.http_api.proofs.routes.add_each.Given as goal

-- the routes that are still to come make the whole
abbrev pub invariant-loop-route : goal.invariant-loop-route
invariant-loop-route l = with_routes (drop l.route-index l.routes) l.router ≡ with_routes l.routes l.initial.router
