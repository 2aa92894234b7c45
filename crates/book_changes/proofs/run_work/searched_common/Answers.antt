use Rattle.std.proofs.Common.{sym, subst}
use Rattle.book_changes.specs.Changes.{IsAnyCommon}
use Rattle.book_changes.proofs.RunLaws.{any_common}
use Rattle.book_changes.proofs.run_work.searched_common.Goals as goal

pub returns-clause-common : goal.returns-clause-common
returns-clause-common c =
    let one = c.args.first.now.book in
    let other = c.args.second.now.book in
    subst (IsAnyCommon one other c.args.run.first c.args.budget) (sym c.common_by-common.ensures)
    (any_common one other c.args.run.first c.args.budget c.in_ok-found.found c.in_ok-found.ensures.answer)
