use Rattle.std.proofs.Common.{◌≡◌, take}
use Rattle.propagate.specs.Quiet.{Quiet}
use Rattle.solver.specs.Answer.{AreHeld}
use Rattle.solver.specs.Search.{AreOpened, IsSettled}
use Rattle.solver.proofs.assume.assume_each.Given as goal

abbrev pub invariant-loop-lit : goal.invariant-loop-lit
invariant-loop-lit l = (l.engine.clauses ≡ l.initial.engine.clauses) × (l.engine.vars ≡ l.initial.engine.vars) × Quiet l.engine.clauses l.engine.lits
    × IsSettled l.engine × AreOpened l.assumptions l.engine × AreHeld (take l.lit-index l.assumptions) l.engine.lits
