use Rattle.check_guards.proofs.RuleReportLaws.{each_breaks}
use Rattle.check_guards.proofs.rules.what_is_told_to_break_does.Goals as goal

pub returns : goal.returns
returns g c = each_breaks (record { book = c.args.book.now; budget = c.args.budget }) c.check_supplements.result c.check_supplements.ensures.report
