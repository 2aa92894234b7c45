use Rattle.std.proofs.Common.{◌≡◌, ◌≤◌, ◌++◌, ◌+◌}
use Rattle.pb_base.specs.Rule.{both, either, nodes}
use Rattle.wide_clauses.specs.Chains.{all_literals, any_literals, in_all, in_any, taken, wide_clauses}
use Rattle.wide_clauses.proofs.wide.WideEncoder.+parts.Given as goal

abbrev pub decreases-part : goal.decreases-part
decreases-part l = nodes l.part + nodes l.part

abbrev pub decreases-any_of : goal.decreases-any_of
decreases-any_of l = nodes l.left + nodes l.left + nodes l.right + nodes l.right + 1

abbrev pub decreases-all_of : goal.decreases-all_of
decreases-all_of l = nodes l.left + nodes l.left + nodes l.right + nodes l.right + 1

-- of a chain the parts are left that stand left of those that were coded
abbrev pub invariant-any_of-loop-left : goal.invariant-any_of-loop-left
invariant-any_of-loop-left l = record {
  lits : l.lits.items ++ any_literals l.fn.self.truth l.self.next l.rest ≡ any_literals l.fn.self.truth l.fn.self.next (either l.fn.left l.fn.right);
  clauses : l.self.pool.clauses ++ wide_clauses l.fn.self.truth l.self.next l.rest in_any
      ≡ l.fn.self.pool.clauses ++ wide_clauses l.fn.self.truth l.fn.self.next (either l.fn.left l.fn.right) in_any;
  next : l.self.next + taken l.rest in_any ≡ l.fn.self.next + taken (either l.fn.left l.fn.right) in_any;
  truth : l.self.truth ≡ l.fn.self.truth;
  smaller : nodes l.rest ≤ nodes l.fn.left;
}

abbrev pub decreases-any_of-loop-left : goal.decreases-any_of-loop-left
decreases-any_of-loop-left l = nodes l.rest

abbrev pub invariant-all_of-loop-left : goal.invariant-all_of-loop-left
invariant-all_of-loop-left l = record {
  lits : l.lits.items ++ all_literals l.fn.self.truth l.self.next l.rest ≡ all_literals l.fn.self.truth l.fn.self.next (both l.fn.left l.fn.right);
  clauses : l.self.pool.clauses ++ wide_clauses l.fn.self.truth l.self.next l.rest in_all
      ≡ l.fn.self.pool.clauses ++ wide_clauses l.fn.self.truth l.fn.self.next (both l.fn.left l.fn.right) in_all;
  next : l.self.next + taken l.rest in_all ≡ l.fn.self.next + taken (both l.fn.left l.fn.right) in_all;
  truth : l.self.truth ≡ l.fn.self.truth;
  smaller : nodes l.rest ≤ nodes l.fn.left;
}

abbrev pub decreases-all_of-loop-left : goal.decreases-all_of-loop-left
decreases-all_of-loop-left l = nodes l.rest
