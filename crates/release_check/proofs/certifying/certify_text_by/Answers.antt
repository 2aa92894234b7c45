use Rattle.release_check.specs.NotReleased.{IsReportOf}
use Rattle.release_check.proofs.certifying.certify_text_by.Goals as goal

pub returns-in-Ok-check_book_by-clause-certified : goal.returns-in-Ok-check_book_by-clause-certified
returns-in-Ok-check_book_by-clause-certified g c =
    let text = c.args.text.now in
    let is : IsReportOf text c.args.budget c.in-Ok.book c.in-Ok-check_book_by.checked.report =
    record { reads = c.in-Ok.ensures; report = c.in-Ok-check_book_by.ensures.report } in
    c.by_check.ensures.certified text c.args.budget is
