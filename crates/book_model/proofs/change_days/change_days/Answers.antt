-- Sorted and without repeats, the days are those of the term on which a period turns.
use Rattle.std.proofs.Common.{eqb, ◌∙◌}
use Rattle.std.proofs.lemmas.List.Filters.{dedup_is}
use Rattle.book_model.specs.Slices.{changes_at}
use Rattle.book_model.proofs.DayOrder.{sorted_days}
use Rattle.book_model.proofs.change_days.change_days.Goals as goal

pub returns-clause-days : goal.returns-clause-days
returns-clause-days c =
    let term = c.args.term in
    let sorted = c.sort_unstable.new.self.items in
    dedup_is eqb sorted c.dedup.new.self.items c.dedup.ensures.filtered
    ∙ sorted_days term.first term.last _ (changes_at term.first c.args.periods.now) c.in_ok-days.days.items sorted c.requires c.sort_unstable.ensures.permutation c.sort_unstable.ensures.sorted c.in_ok-days.ensures
