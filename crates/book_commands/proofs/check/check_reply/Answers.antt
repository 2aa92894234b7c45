use Rattle.book_commands.proofs.SlicesTold.{few_told}
use Rattle.book_commands.proofs.TextLaws.{not_checked_told, report_told}
use Rattle.book_commands.proofs.check.check_reply.Goals as goal

pub report_reply-requires : goal.report_reply-requires
report_reply-requires g c = record { few = few_told _ _ c.in-Ok.ensures.reported.report }

pub returns-in-Ok : goal.returns-in-Ok
returns-in-Ok g c =
    report_told c.args.text.now c.args.budget.now _ _ c.report_reply.result c.codes.ensures.book (rw c.clauses.ensures.value at c.in-Ok.ensures.reported) c.report_reply.ensures

pub returns-in-Err-Refused : goal.returns-in-Err-Refused
returns-in-Err-Refused g c =
    not_checked_told c.args.text.now c.args.budget.now _ c.not_checked_reply.result (rw c.in-Err-Refused.field-0-is at c.in-Err-Refused.ensures.refused) c.not_checked_reply.ensures
