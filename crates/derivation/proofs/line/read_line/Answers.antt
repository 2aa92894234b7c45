use Rattle.derivation.proofs.ReadLaws.{other_read, other_pairs}
use Rattle.derivation.proofs.line.read_line.Goals as goal

pub returns-clause-line : goal.returns-clause-line
returns-clause-line c =
    other_read c.read_other.result c.args.text.now c.in-Some.keyword.now c.as_slice.result.now c.of-words.result c.next.new.self c.eq.result _ c.of-words.ensures c.in-Some.ensures
    c.eq.ensures c.as_slice.ensures c.if-eq.false c.read_other.ensures.line

pub returns-clause-pairs : goal.returns-clause-pairs
returns-clause-pairs c = other_pairs c.read_other.result _ c.read_other.ensures.pairs
