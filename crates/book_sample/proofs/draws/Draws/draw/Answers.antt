use Rattle.std.proofs.Common.{rules}
use Rattle.book_sample.specs.Draws.{stepped, drawn}
use Rattle.book_sample.proofs.draws.Draws.draw.Goals as goal

pub returns-clause-number : goal.returns-clause-number
unfolding stepped drawn
returns-clause-number c = search rules

pub returns-clause-state : goal.returns-clause-state
unfolding stepped
returns-clause-state c = search rules
