use Rattle.std.proofs.Common.{ℕ, List, [], ◌∷◌, ◌++◌, ap, sym, subst, ◌∙◌}
use Rattle.clause_pool.specs.Clause.{IsBelow, AreBelow, clause_of}
use Rattle.clause_pool.proofs.ClauseLaws.{all_push, IsBelow-clause_of}
use Rattle.book_tests.proofs.questions.put_clauses.Goals as goal

pub loop-byte-preserved-then-byte-eq59 : goal.loop-byte-preserved-then-byte-eq59
loop-byte-preserved-then-byte-eq59 c =
    let added = c.in_ok-add.ensures.ok ∙ ap (λ (d : List ℕ). c.loop-byte.pool.clauses ++ clause_of d ∷ []) c.deref.ensures.value in (
      subst (AreBelow 72) (sym added) (all_push (IsBelow 72) c.loop-byte.pool.clauses (clause_of c.loop-byte.clause.items) c.loop-byte.invariant.0 (IsBelow-clause_of 72 c.loop-byte.clause.items c.loop-byte.invariant.1)),
      subst (IsBelow 72) (sym c.clear.ensures.items) tt,
    )
