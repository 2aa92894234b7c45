use Rattle.std.proofs.Common.{◌≡◌, Some, None, codes, sym, subst}
use Rattle.http_api.specs.Route.{HasNumber}
use Rattle.http_api.proofs.routes.book_at.Goals as goal

pub returns-clause-only : goal.returns-clause-only
returns-clause-only c number h =
    let same : Some c.in_ok-number.number ≡ Some number = c.in_ok-number.ensures.only number (subst (λ back. HasNumber c.args.path.now (codes "/books/") number back) (sym c.end.ensures) h) in
    cc

pub returns-in_err-number-clause-only : goal.returns-in_err-number-clause-only
returns-in_err-number-clause-only c number h =
    let same : None ≡ Some number = c.in_err-number.ensures.only number (subst (λ back. HasNumber c.args.path.now (codes "/books/") number back) (sym c.end.ensures) h) in
    cc
