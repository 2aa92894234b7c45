use Rattle.std.proofs.lemmas.Bool.{eq-eqb, ne_eqb}
use Rattle.book_sample.specs.Groups.{choice_at, behind_choice}
use Rattle.book_sample.proofs.group.draw_choice.Goals as goal

pub returns-then-number-eq0-clause-choice : goal.returns-then-number-eq0-clause-choice
unfolding choice_at
returns-then-number-eq0-clause-choice c = rw (eq-eqb c.args.number 0 c.if-number-eq0.true) (cc)

pub returns-then-number-eq0-clause-state : goal.returns-then-number-eq0-clause-state
unfolding behind_choice
returns-then-number-eq0-clause-state c = rw (eq-eqb c.args.number 0 c.if-number-eq0.true) (cc)

pub returns-else-number-eq0-clause-choice : goal.returns-else-number-eq0-clause-choice
unfolding choice_at
returns-else-number-eq0-clause-choice c = rw (ne_eqb c.args.number 0 c.if-number-eq0.false) (cc)

pub returns-else-number-eq0-clause-state : goal.returns-else-number-eq0-clause-state
unfolding behind_choice
returns-else-number-eq0-clause-state c = rw (ne_eqb c.args.number 0 c.if-number-eq0.false) (cc)
