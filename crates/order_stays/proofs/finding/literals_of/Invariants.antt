use Rattle.std.proofs.Common.{◌≡◌, ◌++◌, drop}
use Rattle.order_stays.specs.Stays.{codes_literals}
use Rattle.order_stays.proofs.finding.literals_of.Given as goal

abbrev pub invariant-loop-code : goal.invariant-loop-code
invariant-loop-code l = l.lits.items ++ codes_literals (drop l.code-index l.kept) ≡ codes_literals l.kept
