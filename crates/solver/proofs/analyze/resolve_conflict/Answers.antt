use Rattle.std.proofs.Common.{ℕ, ◌<◌, List, length, sym, subst}
use Rattle.solver.proofs.MarkLaws.{chain_begins, some_pair}
use Rattle.solver.proofs.analyze.resolve_conflict.Goals as goal

pub find_uip-requires-clause-chain : goal.find_uip-requires-clause-chain
find_uip-requires-clause-chain c =
    chain_begins c.args.pool.now.clauses c.begin.new.self c.args.at (subst (λ (cs : List (List ℕ)). c.args.at < length cs) c.requires.ready.attached c.requires.conflict.attached)
    c.begin.ensures.start c.begin.ensures.pairs c.in_ok-begin.ensures.marks c.in_ok-begin.ensures.touched

pub returns-clause-some : goal.returns-clause-some
returns-clause-some c =
    some_pair c.args.engine.now c.args.pool.now.clauses c.minimize.new.resolution c.in_ok-place.place c.level.ensures.trail (sym c.requires.ready.attached) c.requires.conflict.quiet c.in_ok-minimize.ensures.chain c.in_ok-minimize.ensures.uip
