-- The days so far are those on which the periods so far turn.
use Rattle.std.proofs.Common.{◌+◌, ◌*◌, ◌&&◌, [], take}
use Rattle.book_model.specs.Activity.{is_within}
use Rattle.book_model.specs.DayLists.{AddsDays}
use Rattle.book_model.specs.Slices.{changes_at}
use Rattle.book_model.proofs.change_days.turning_days.Given as goal

abbrev pub invariant-loop-period : goal.invariant-loop-period
invariant-loop-period l =
    AddsDays [] l.days.items (2 * l.period-index + 1) (λ day. is_within l.term.first l.term.last day && changes_at l.term.first (take l.period-index l.periods) day)
