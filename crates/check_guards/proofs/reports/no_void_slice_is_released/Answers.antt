use Rattle.check_guards.proofs.ReportLaws.{certified}
use Rattle.check_guards.proofs.reports.no_void_slice_is_released.Goals as goal

pub returns : goal.returns
returns c = certified c.args.book.now c.check_book.result c.check_book.ensures.cert c.check_book.ensures.released
