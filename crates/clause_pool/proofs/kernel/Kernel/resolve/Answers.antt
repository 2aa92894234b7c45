use Rattle.std.proofs.Common.{rules, List, ℕ, [], ◌∷◌, ◌++◌, ap, ◌∙◌}
use Rattle.clause_pool.specs.Clause.{clause_of}
use Rattle.clause_pool.proofs.ChainLaws.{bounds-push, derived_grown}
use Rattle.clause_pool.proofs.kernel.Kernel.resolve.Goals as goal

pub returns-clause-bounds : goal.returns-clause-bounds
returns-clause-bounds c = bounds-push c.args.self.now.clauses c.add_reserved.new.self.clauses c.args.start c.args.pairs.now c.run_chain.new.running (search rules) (search rules)

pub invariant_of-self-2 : goal.invariant_of-self-2
invariant_of-self-2 c =
    let clauses : List (List ℕ) = c.self.inside.pool.clauses in
    let written = ap clause_of c.deref.ensures.value ∙ c.in_ok-write.ensures in
    derived_grown _ c.args.start c.args.pairs.now c.run_chain.new.running c.add_reserved.new.self.clauses c.push.new.self.starts c.push.new.self.pairs c.self.invariant c.requires c.in_ok-run_chain.ensures
    (c.add_reserved.ensures.clauses ∙ ap (λ (cs : List (List ℕ)). cs ++ clause_of c.deref.result.now ∷ []) c.reserve.ensures.clauses ∙ ap (λ (x : List ℕ). clauses ++ x ∷ []) written)
    c.in_ok-push.ensures.starts c.in_ok-push.ensures.pairs
