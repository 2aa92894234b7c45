use Rattle.std.proofs.Common.{arith}
use Rattle.book_clauses.specs.BookClauses.{supplement_days}
use Rattle.book_clauses.proofs.StepLaws.{guards_more}
use Rattle.book_clauses.proofs.periods.put_supplements.Goals as goal

pub loop-rule-preserved : goal.loop-rule-preserved
loop-rule-preserved c =
    let below = c.loop-rule-test.true in
    record {
      few = omega (arith, c.in_ok-put_period.ensures.few, c.loop-rule.invariant.few);
      kept = λ d h. c.in_ok-put_period.ensures.kept d (c.loop-rule.invariant.kept d h);
      have =
          guards_more supplement_days c.args.book.now c.loop-rule.periods.items c.put_period.new.periods.items c.args.rules.now c.loop-rule.rule-index c.rule-item.result
          (omega (arith, below)) c.rule-item.is c.in_ok-put_period.ensures.kept c.loop-rule.invariant.have c.in_ok-put_period.ensures.has;
    }
