-- The rules of this code are marked, and those that fire are to be tried, where it is in the set.
use Rattle.std.proofs.Common.{sym, ◌∙◌, arith}
use Rattle.supplement.proofs.WorklistLemmas.{holds_start, listed_here, absent_here, holds_all, marked_all_of}
use Rattle.supplement.proofs.completion.rules_to_try.Goals as goal
use Rattle.supplement.proofs.completion.rules_to_try.Goals.{then-has+in_ok-add_rules_of, else-has}

pub loop-code-init : goal.loop-code-init
loop-code-init c = rw c.over-worklist.ensures (holds_start c.args.supplements.now c.args.occurrences.now c.args.day c.args.set.now c.args.standing.now c.args.marks.now c.requires.standing c.requires.marks)

pub loop-code-preserved : goal.loop-code-preserved
loop-code-preserved c =
    let rules = c.args.supplements.now in
    let standing = c.args.standing.now in
    elim c.if-has.branch [
      | then-has+in_ok-add_rules_of w ↦
          let now = w.in_ok-add_rules_of.ensures in
          rw (w.worklist-is, w.marks-is) (listed_here c.loop-code.code rules c.args.occurrences.now c.args.day c.args.set.now standing c.loop-code.worklist _ c.loop-code.marks _
          (record { candidates = now.candidates; keeps = now.keeps; added = now.added; tryable = now.tryable; marked = now.marks }) c.loop-code.invariant)
      | else-has w ↦
          rw (w.worklist-is, w.marks-is) (absent_here c.loop-code.code rules c.args.occurrences.now c.args.day c.args.set.now standing c.loop-code.worklist c.loop-code.marks
          (sym c.has.ensures ∙ w.if-has.false) c.loop-code.invariant)
    ]

pub returns-clause-firing : goal.returns-clause-firing
returns-clause-firing c =
    holds_all c.loop-code.code c.args.supplements.now c.args.occurrences.now c.args.day c.args.set.now c.args.standing.now c.loop-code.worklist c.loop-code.marks (omega arith)
    c.requires.standing c.requires.occurrences c.loop-code.invariant

pub returns-clause-marked : goal.returns-clause-marked
returns-clause-marked c =
    marked_all_of c.loop-code.code c.args.supplements.now c.args.occurrences.now c.args.day c.args.set.now c.args.standing.now c.loop-code.worklist c.loop-code.marks (omega arith)
    c.requires.occurrences c.loop-code.invariant
