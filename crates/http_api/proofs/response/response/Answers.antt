use Rattle.http_api.proofs.HeadFirst.{rest_behind}
use Rattle.http_api.proofs.response.response.Goals as goal

pub returns-in-Ok-2 : goal.returns-in-Ok-2
returns-in-Ok-2 c =
    rest_behind c.args.opening c.args.line.now c.args.rest c.as_slice.result.now c.in-Ok.front c.of.result c.args.bare
    c.if-bare.false c.as_slice.ensures c.in-Ok.ensures c.of.ensures
