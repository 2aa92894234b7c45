-- A message that is denied can be answered.
use Rattle.std.proofs.Common.{ℕ, List, Result, Ok, Err}
use Rattle.pb_base.specs.Answers.{IfRefused}
use Rattle.pb_base.specs.declared.answer.Fail.{Fail}
use Rattle.pb_base.specs.declared.answer.Fail.TheVariants.{Refused, Memory}
use Rattle.http_api.specs.declared.denied.Denied.{Denied}
use Rattle.http_api.specs.declared.denied.Denied.TheVariants.{NoPath, WrongMethod, BadCaller, BadBody}
use Rattle.http_api.specs.declared.route.Route.{Route}
use Rattle.http_api.specs.Path.{path_of}
use Rattle.http_api.specs.Response.{CanDeny}
use Rattle.http_api.specs.Route.{Leads}

can_deny : (denied : Denied) (target : List ℕ) (route : Route) → Leads (path_of target) route → CanDeny denied target
can_deny NoPath target route leads = tt
can_deny WrongMethod target route leads = (route, leads)
can_deny BadCaller target route leads = tt
can_deny BadBody target route leads = tt

pub deniable : {A : Type 0} (r : Result A (Fail Denied)) (target : List ℕ) (route : Route) → Leads (path_of target) route → IfRefused r (λ denied. CanDeny denied target)
deniable (Ok value) target route leads = tt
deniable (Err (Refused denied)) target route leads = can_deny denied target route leads
deniable (Err Memory) target route leads = tt
