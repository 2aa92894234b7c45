use Rattle.rule_text.proofs.reader.Reader.take_factor.Goals as goal

pub returns-in-Minus : goal.returns-in-Minus
returns-in-Minus c = rw c.in-Minus.is (c.minus.ensures c.args.codes.now)

pub returns-in-Opening : goal.returns-in-Opening
returns-in-Opening c = rw c.in-Opening.is (c.opening.ensures c.args.codes.now)
