use Rattle.check_guards.proofs.ReportLaws.{each_refuted}
use Rattle.check_guards.proofs.reports.no_question_is_refuted_by_other_days.Goals as goal

pub returns : goal.returns
returns c = each_refuted (record { book = c.args.book.now; ask = c.args.ask; budget = c.args.budget }) c.report_book.result c.report_book.ensures.report
