use Rattle.std.proofs.Common.{◌≡◌, ◌<◌, length, sym, ◌∙◌, arith}
use Rattle.std.proofs.lemmas.Bool.{eqb-true, eqb-false}
use Rattle.derivation.proofs.ReadLaws.{step_unread, step_empty, step_made}
use Rattle.derivation.proofs.line.read_step.Goals as goal

pub returns-then-not-are_pairs-clause-line : goal.returns-then-not-are_pairs-clause-line
returns-then-not-are_pairs-clause-line c =
    step_unread c.args.words c.next_number.new.self c.in-Some.start c.in_ok-are_pairs.are_pairs c.read_pairs.new.pairs.items c.in-Some.ensures c.in_ok-are_pairs.ensures c.if-not-are_pairs.true

pub returns-then-is_empty-clause-line : goal.returns-then-is_empty-clause-line
returns-then-is_empty-clause-line c =
    let counted = eqb-true _ 0 (sym c.is_empty.ensures ∙ c.if-is_empty.true) in
    let none : length c.read_pairs.new.pairs.items ≡ 0 = omega (arith, counted, c.read_pairs.new.pairs.ok.0) in
    step_empty c.args.words c.next_number.new.self c.in-Some.start c.in_ok-are_pairs.are_pairs c.read_pairs.new.pairs.items c.in-Some.ensures c.in_ok-are_pairs.ensures c.if-not-are_pairs.false none

pub returns-clause-line : goal.returns-clause-line
returns-clause-line c =
    let counted = eqb-false _ 0 (sym c.is_empty.ensures ∙ c.if-is_empty.false) in
    let some : 0 < length c.read_pairs.new.pairs.items = omega (arith, counted, c.read_pairs.new.pairs.ok.0) in
    step_made c.args.words c.next_number.new.self c.in-Some.start c.in_ok-are_pairs.are_pairs c.read_pairs.new.pairs.items c.in-Some.ensures c.in_ok-are_pairs.ensures c.if-not-are_pairs.false some
