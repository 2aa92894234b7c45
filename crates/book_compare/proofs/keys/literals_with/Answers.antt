use Rattle.std.proofs.Common.{sym, ◌∙◌, arith}
use Rattle.book_compare.proofs.StepRuns.{with_more, with_other}
use Rattle.book_compare.proofs.keys.literals_with.Goals as goal
use Rattle.book_compare.proofs.keys.literals_with.Goals.{then-uses_key+in_ok-push, else-uses_key}

pub loop-usage-preserved : goal.loop-usage-preserved
loop-usage-preserved c =
    elim c.if-uses_key.branch [
      | then-uses_key+in_ok-push w ↦
          rw (w.lits-is)
          (with_more c.args.book.now c.args.key.now c.args.usages.now c.loop-usage.usage-index c.usage-item.result c.loop-usage.lits.items _ (omega arith) c.usage-item.is c.loop-usage.invariant
          w.push.new.self.items (sym c.uses_key.ensures ∙ w.if-uses_key.true) w.in_ok-push.ensures.items)
      | else-uses_key w ↦
          rw (w.lits-is)
          (with_other c.args.book.now c.args.key.now c.args.usages.now c.loop-usage.usage-index c.usage-item.result c.loop-usage.lits.items _ (omega arith) c.usage-item.is c.loop-usage.invariant
          (sym c.uses_key.ensures ∙ w.if-uses_key.false))
    ]
