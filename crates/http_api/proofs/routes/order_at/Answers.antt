use Rattle.std.proofs.Common.{◌≡◌, Some, None}
use Rattle.http_api.proofs.routes.order_at.Goals as goal

pub returns-in_err-number-clause-only : goal.returns-in_err-number-clause-only
returns-in_err-number-clause-only c number h =
    let same : None ≡ Some number = c.in_err-number.ensures.only number h in
    cc
