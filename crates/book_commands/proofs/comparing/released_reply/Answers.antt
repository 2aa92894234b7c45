use Rattle.book_commands.proofs.CompareLaws.{second_released, second_kept_back}
use Rattle.book_commands.proofs.TextLaws.{few_slices}
use Rattle.book_commands.proofs.comparing.released_reply.Goals as goal

pub kept_back_reply-requires : goal.kept_back_reply-requires
kept_back_reply-requires g c =
    rw c.in-Err-Refused.field-0-is
    (few_slices c.args.text.now c.args.budget.now c.in-Err-Refused.why (rw c.in-Err-Refused.field-0-is at c.in-Err-Refused.ensures.refused))

pub returns-in-Ok : goal.returns-in-Ok
returns-in-Ok g c = second_released c.args.first.now.book _ c.args.text.now c.args.span c.args.budget.now c.released_over.result c.in-Ok.ensures.book c.released_over.ensures

pub returns-in-Err-Refused : goal.returns-in-Err-Refused
returns-in-Err-Refused g c =
    second_kept_back c.args.first.now.book c.args.text.now c.args.span c.args.budget.now c.in-Err-Refused.why c.kept_back_reply.result
    (rw c.in-Err-Refused.field-0-is at c.in-Err-Refused.ensures.refused) (rw c.in-Err-Refused.field-0-is at c.kept_back_reply.ensures)
