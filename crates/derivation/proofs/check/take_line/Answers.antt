use Rattle.std.proofs.Common.{List, sym, subst, arith}
use Rattle.std.specs.Option.{IfSome}
use Rattle.clause_pool.specs.declared.chain.Pair.{Pair}
use Rattle.derivation.specs.Reading.{HasPairs, stage_of}
use Rattle.derivation.proofs.KeptLaws.{taken_as_read}
use Rattle.derivation.proofs.check.take_line.Goals as goal

pub take_read-requires-clause-pairs : goal.take_read-requires-clause-pairs
take_read-requires-clause-pairs c =
    let Some : List Pair → Type 0 = λ ps. IfSome c.in_ok-line.line (λ l. HasPairs l ps) in
    subst Some (sym c.deref.ensures.value) c.in_ok-line.ensures.pairs

pub returns-clause-answer : goal.returns-clause-answer
returns-clause-answer c =
    taken_as_read c.take_read.result c.args.book.now c.args.slices.now (stage_of c.args.stage) c.args.text.now c.in_ok-line.line c.read_line.new.pairs.items c.deref.result.now (omega arith) c.requires.named
    c.in_ok-line.ensures.line c.deref.ensures.value c.take_read.ensures.answer
