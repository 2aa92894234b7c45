use Rattle.std.proofs.Common.{rules}
use Rattle.wide_clauses.proofs.ChainsMade.{all_coded, all_literal, any_coded, any_literal}
use Rattle.wide_clauses.proofs.wide.WideEncoder.+parts.Goals as goal

pub all_of-returns : goal.all_of-returns
all_of-returns t c =
    let left = c.loop-left in
    let part = c.in_ok-lit.ensures in
    let own = c.in_ok-one_of.ensures in
    record {
      made =
          all_coded c.args.self.now left.self c.part-2.new.self c.one_of.new.self c.args.left c.args.right left.rest c.shape.result
          left.lits.items c.deref.result.now c.in_ok-lit.lit c.not-3.result
          left.invariant.lits left.invariant.clauses left.invariant.next left.invariant.truth
          c.shape.ensures c.in_default.not-And part.made part.literal (search rules) (search rules) own.clauses (search rules) own.truth;
      literal = all_literal c.args.self.now left.self c.part-2.new.self c.args.left c.args.right left.rest c.shape.result c.new-named.result
          left.invariant.next c.shape.ensures c.in_default.not-And part.made.next (search rules);
    }

pub any_of-returns : goal.any_of-returns
any_of-returns t c =
    let left = c.loop-left in
    let part = c.in_ok-lit.ensures in
    let own = c.in_ok-one_of.ensures in
    record {
      made =
          any_coded c.args.self.now left.self c.part-2.new.self c.one_of.new.self c.args.left c.args.right left.rest c.shape.result
          left.lits.items c.deref.result.now c.in_ok-lit.lit c.new-named.result
          left.invariant.lits left.invariant.clauses left.invariant.next left.invariant.truth
          c.shape.ensures c.in_default.not-Or part.made part.literal (search rules) (search rules) own.clauses (search rules) own.truth;
      literal = any_literal c.args.self.now left.self c.part-2.new.self c.args.left c.args.right left.rest c.shape.result c.new-named.result
          left.invariant.next c.shape.ensures c.in_default.not-Or part.made.next (search rules);
    }
