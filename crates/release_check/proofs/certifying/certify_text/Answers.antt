use Rattle.release_check.specs.NotReleased.{IsReportOf}
use Rattle.release_check.proofs.certifying.certify_text.Goals as goal

pub returns-in-Ok-check_book-clause-certified : goal.returns-in-Ok-check_book-clause-certified
returns-in-Ok-check_book-clause-certified c =
    let text = c.args.text.now in
    let is : IsReportOf text c.args.budget c.in-Ok.book c.in-Ok-check_book.checked.report =
    record { reads = c.in-Ok.ensures; report = c.in-Ok-check_book.ensures.report } in
    c.by_check.ensures.certified text c.args.budget is
