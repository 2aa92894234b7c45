use Rattle.std.proofs.Common.{◌%◌, refl}
use Rattle.std.proofs.lemmas.Bool.{eq-eqb, ne_eqb}
use Rattle.book_sample.specs.Groups.{bound_at, behind_bound}
use Rattle.book_sample.proofs.group.draw_bound.Goals as goal

pub returns-then-rest-ne15-clause-bound : goal.returns-then-rest-ne15-clause-bound
unfolding bound_at
returns-then-rest-ne15-clause-bound c = rw (ne_eqb (c.args.number % 16) 15 c.if-rest-ne15.true) refl

pub returns-then-rest-ne15-clause-state : goal.returns-then-rest-ne15-clause-state
unfolding behind_bound
returns-then-rest-ne15-clause-state c = rw (ne_eqb (c.args.number % 16) 15 c.if-rest-ne15.true) refl

pub returns-clause-bound : goal.returns-clause-bound
unfolding bound_at
returns-clause-bound c = rw (eq-eqb (c.args.number % 16) 15 c.if-rest-ne15.false) (cc)

pub returns-clause-state : goal.returns-clause-state
unfolding behind_bound
returns-clause-state c = rw (eq-eqb (c.args.number % 16) 15 c.if-rest-ne15.false) (cc)
