use Rattle.std.proofs.Common.{ℕ, List, refl, subst}
use Rattle.solver.specs.Marks.{IsResolved}
use Rattle.solver.proofs.MarkLaws.{chain_resolved}
use Rattle.solver.proofs.resolution.Resolution.resolve.Goals as goal

pub returns-clause-chain : goal.returns-clause-chain
returns-clause-chain c =
    chain_resolved c.args.pool.now.clauses c.args.self.now _ c.args.lit c.args.with c.requires.chain c.requires.there c.requires.is_marked c.requires.pivot refl c.in_ok-push.ensures.items
    (subst (λ (d : List ℕ). IsResolved c.args.self.now.marks.items c.replace_marks.new.marks.items c.args.lit d) c.requires.clause c.in_ok-replace_marks.ensures.resolved) c.in_ok-replace_marks.ensures.touched
