use Rattle.check_guards.proofs.ReportLaws.{each_good}
use Rattle.check_guards.proofs.reports.no_set_of_another_day_is_shown.Goals as goal

pub returns : goal.returns
returns c = each_good (record { book = c.args.book.now; ask = c.args.ask; budget = c.args.budget }) c.report_book.result c.report_book.ensures.report
