use Rattle.std.proofs.Common.{◌∙◌, sym}
use Rattle.book_sample.proofs.Drawn.{codes_more, codes_end}
use Rattle.book_sample.proofs.book.put_codes.Goals as goal

pub loop-number-preserved : goal.loop-number-preserved
loop-number-preserved c = rw c.in_ok-put_code.ensures (codes_more _ _ _ c.loop-number-test.true ∙ c.loop-number.invariant)

pub returns : goal.returns
returns c = sym (codes_end _ _ _ c.loop-number-test.false) ∙ c.loop-number.invariant
