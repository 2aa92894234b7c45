use Rattle.std.proofs.Common.{◌≡◌, ◌++◌, ◌≤◌, IsTrue, length, reverse, ◌+◌}
use Rattle.pb_base.specs.Rule.{codes_below, nodes}
use Rattle.rule_text.specs.Printing.{printed}
use Rattle.rule_text.proofs.print.+write.Given as goal

abbrev pub decreases-write_backward : goal.decreases-write_backward
decreases-write_backward l = nodes l.rule + nodes l.rule

abbrev pub decreases-write_bracketed : goal.decreases-write_bracketed
decreases-write_bracketed l = nodes l.rule + nodes l.rule + 1

-- what is left to write is the front of the text
abbrev pub invariant-write_backward-sides : goal.invariant-write_backward-sides
invariant-write_backward-sides l = record {
  below : IsTrue (codes_below (length l.codes) l.rest);
  smaller : nodes l.rest ≤ nodes l.fn.rule;
  same : l.text.items ++ reverse (printed l.codes l.rest) ≡ l.fn.text.items ++ reverse (printed l.codes l.fn.rule);
}

abbrev pub decreases-write_backward-sides : goal.decreases-write_backward-sides
decreases-write_backward-sides l = nodes l.rest
