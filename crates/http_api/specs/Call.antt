-- What a message asks the desk for.
--     call_at route m    the call of a message whose path leads to this route, or why there is none
use Rattle.std.specs.Prelude.{ℕ, List, Option, Some, None, Result, Ok, Err}
use Rattle.pb_base.specs.Results.{and_then}
use Rattle.desk_words.specs.declared.call.Call.{Call}
use Rattle.http_wire.specs.declared.message.Message.{Message}
use Rattle.http_api.specs.declared.denied.Denied.{Denied}
use Rattle.http_api.specs.declared.denied.Denied.TheVariants.{WrongMethod, BadCaller, BadBody}
use Rattle.http_api.specs.declared.route.Route.{Route}
use Rattle.http_api.specs.Route.{Leads}
use Rattle.http_api.specs.Request.{method_of, request_of}
use Rattle.http_api.specs.Body.{what_of}

abbrev pub or_denied : {A : Type 0} → Denied → Option A → Result A Denied
or_denied denied None = Err denied
or_denied denied (Some value) = Ok value

-- method, caller and body are tested in this order
abbrev pub call_at : Route → Message → Result Call Denied
call_at route m =
    and_then (or_denied WrongMethod (request_of route (method_of m.head.method))) (λ request.
    and_then (or_denied BadCaller m.head.caller) (λ caller.
    and_then (or_denied BadBody (what_of request m.body)) (λ what.
    Ok (record { caller = caller; what = what }))))

-- no route's path is this one
abbrev pub LeadsNowhere : List ℕ → Type 0
LeadsNowhere path = (route : Route) → ¬ Leads path route
