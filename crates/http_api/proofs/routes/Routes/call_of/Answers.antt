use Rattle.std.proofs.Common.{ap, ◌∙◌, subst}
use Rattle.http_api.specs.Path.{path_of}
use Rattle.http_api.specs.Route.{Leads}
use Rattle.http_api.proofs.Deniable.{deniable}
use Rattle.http_api.proofs.routes.Routes.call_of.Goals as goal

pub returns-in-Some-clause-lost : goal.returns-in-Some-clause-lost
returns-in-Some-clause-lost c lost =
    absurd (lost c.in-Some.route (subst (λ path. Leads path c.in-Some.route) (c.path_of.ensures ∙ ap path_of c.as_slice.ensures) c.in-Some.ensures.found))

pub returns-in-Some-clause-deniable : goal.returns-in-Some-clause-deniable
returns-in-Some-clause-deniable c =
    deniable c.call_at.result c.args.message.now.head.target c.in-Some.route (subst (λ path. Leads path c.in-Some.route) (c.path_of.ensures ∙ ap path_of c.as_slice.ensures) c.in-Some.ensures.found)
