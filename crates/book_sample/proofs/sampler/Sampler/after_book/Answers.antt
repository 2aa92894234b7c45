use Rattle.std.proofs.Common.{◌∙◌}
use Rattle.book_sample.proofs.Drawn.{behind_more}
use Rattle.book_sample.proofs.sampler.Sampler.after_book.Goals as goal

pub loop-number-preserved : goal.loop-number-preserved
loop-number-preserved c = rw c.draw_group.ensures.state (behind_more _ _ _ c.loop-number-test.true ∙ c.loop-number.invariant)
