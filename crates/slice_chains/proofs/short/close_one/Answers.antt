use Rattle.slice_chains.proofs.ClosingLaws.{closed_one}
use Rattle.slice_chains.proofs.short.close_one.Goals as goal

pub returns : goal.returns
returns c = closed_one c.args.kernel.now.clauses c.args.asked.question c.args.asked.goal c.in_ok-at-2.at c.in_ok-at-2.ensures.closed
