use Rattle.book_sample.specs.Groups.{before_choice}
use Rattle.book_sample.proofs.group.draw_group.Goals as goal

pub returns-clause-group : goal.returns-clause-group
unfolding before_choice
returns-clause-group c = cc

pub returns-clause-state : goal.returns-clause-state
unfolding before_choice
returns-clause-state c = cc
