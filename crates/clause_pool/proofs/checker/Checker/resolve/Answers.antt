use Rattle.std.proofs.Common.{rules}
use Rattle.clause_pool.proofs.ChainLaws.{bounds-push}
use Rattle.clause_pool.proofs.checker.Checker.resolve.Goals as goal

pub returns-clause-bounds : goal.returns-clause-bounds
returns-clause-bounds c = bounds-push c.args.self.now c.add_reserved.new.self.clauses c.args.start c.args.pairs.now c.run_chain.new.running (search rules) (search rules)
