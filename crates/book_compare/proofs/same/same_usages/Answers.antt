use Rattle.std.proofs.Common.{get_or, arith}
use Rattle.book_compare.proofs.SameLaws.{same_step}
use Rattle.book_compare.proofs.StepRuns.{read_zero}
use Rattle.book_compare.proofs.same.same_usages.Goals as goal

pub loop-place-preserved : goal.loop-place-preserved
loop-place-preserved c =
    let i = c.loop-place.place in
    same_step c.args.numbers.now c.args.first.now c.args.own.now c.args.second.now c.args.other.now i (get_or c.args.own.now i 0) (get_or c.args.other.now i 0) (omega arith) (omega (arith, c.if-own-other.false))
    (read_zero c.args.own.now i (omega arith)) (read_zero c.args.other.now i (omega (arith, c.if-own-other.false))) c.loop-place.invariant (c.in_ok-same_usage.ensures c.if-not-branch.false)

pub returns : goal.returns
returns c = λ _. record {
  count = c.if-own-other.false;
  each = λ k u w within. c.loop-place.invariant k u w (omega (arith, within, c.loop-place-test.false));
}
