use Rattle.http_api.proofs.Ascii.{path_text}
use Rattle.http_api.proofs.routes.Routes.find.Goals as goal

pub returns-in_default-clause-only : goal.returns-in_default-clause-only
returns-in_default-clause-only c route h = absurd (c.in_default.ensures.cases.0 (path_text c.args.path.now route h))
