use Rattle.derivation.proofs.ReadLaws.{pair_first}
use Rattle.derivation.proofs.line.read_pair.Goals as goal

pub returns-clause-pairs : goal.returns-clause-pairs
returns-clause-pairs c = pair_first c.args.words.now c.next_literal.new.self c.next_number.new.self c.in_ok-lit.lit c.in_ok-with.with c.in_ok-lit.ensures c.in_ok-with.ensures
