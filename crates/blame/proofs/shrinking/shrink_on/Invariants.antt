use Rattle.std.proofs.Common.{ℕ, ◌<◌}
use Rattle.blame.specs.Cases.{GuardsCase, MarksCase}
use Rattle.blame.specs.Guarding.{IsSettled}
use Rattle.blame.proofs.shrinking.shrink_on.Given as goal

abbrev pub invariant-loop-at : goal.invariant-loop-at
invariant-loop-at l = GuardsCase l.case l.solver × MarksCase l.case l.budget l.marks

abbrev pub invariant-loop-at-2 : goal.invariant-loop-at-2
invariant-loop-at-2 l = record {
  guarding : GuardsCase l.case l.solver;
  marked : MarksCase l.case l.budget l.marks;
  settled : (k : ℕ) → k < l.at → IsSettled k l.marks;
}
