use Rattle.std.proofs.Common.{◌∙◌, sym}
use Rattle.book_sample.proofs.Drawn.{group_fits, groups_more, groups_end}
use Rattle.book_sample.proofs.book.put_groups.Goals as goal

pub put_group-requires-clause-group : goal.put_group-requires-clause-group
put_group-requires-clause-group c = rw c.draw_group-group.ensures.group (group_fits _ _)

pub loop-number-preserved : goal.loop-number-preserved
loop-number-preserved c =
    rw (c.in_ok-put_group.ensures, c.draw_group-group.ensures.group, c.draw_group-group.ensures.state) (groups_more _ _ _ _ c.loop-number-test.true ∙ c.loop-number.invariant)

pub returns : goal.returns
returns c = sym (groups_end _ _ _ _ c.loop-number-test.false) ∙ (rw c.from-draws.ensures at c.loop-number.invariant)
