use Rattle.book_changes.proofs.DayLaws.{never_outside}
use Rattle.book_changes.proofs.run_work.comparison.Goals as goal

pub unreachable-requires : goal.unreachable-requires
unreachable-requires c =
    never_outside c.args.first.now.book c.args.second.now.book c.args.run c.in-Err-Refused.field-0-0 c.requires.run
    (rw c.in-Err-Refused.field-0-is at c.in-Err-Refused.ensures.outside)
