use Rattle.std.proofs.Common.{rules, ◌≡◌, List, ℕ, [], ◌∷◌, ◌++◌, Ok, ap, sym, subst, ◌∙◌}
use Rattle.clause_pool.specs.Chain.{chain}
use Rattle.clause_pool.specs.Derivation.{Derivation}
use Rattle.clause_pool.specs.Clause.{clause_of}
use Rattle.clause_pool.proofs.ChainLaws.{bounds-push, derived_grown}
use Rattle.clause_pool.proofs.kernel.Kernel.append.Goals as goal

pub returns-clause-bounds : goal.returns-clause-bounds
returns-clause-bounds c = bounds-push c.args.self.now.clauses c.add_reserved.new.self.clauses c.args.start c.args.pairs.now (clause_of c.args.lits.now) c.requires.resolvent (search rules)

pub invariant_of-self-2 : goal.invariant_of-self-2
invariant_of-self-2 c =
    let clauses : List (List ℕ) = c.self.inside.pool.clauses in
    let made = subst (λ (k : Derivation). chain k.clauses c.args.start c.args.pairs.now ≡ Ok (clause_of c.args.lits.now)) (sym c.self.view_is) c.requires.resolvent in
    derived_grown _ c.args.start c.args.pairs.now (clause_of c.args.lits.now) c.add_reserved.new.self.clauses c.push.new.self.starts c.push.new.self.pairs c.self.invariant c.requires.some made
    (c.add_reserved.ensures.clauses ∙ ap (λ (cs : List (List ℕ)). cs ++ clause_of c.args.lits.now ∷ []) c.reserve.ensures.clauses)
    c.in_ok-push.ensures.starts c.in_ok-push.ensures.pairs
