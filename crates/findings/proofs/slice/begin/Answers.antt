use Rattle.std.proofs.Common.{◌*◌}
use Rattle.findings.proofs.AgainLaws.{below_grown}
use Rattle.findings.proofs.slice.begin.Goals as goal

pub new-requires-clause-below : goal.new-requires-clause-below
new-requires-clause-below c =
    below_grown (2 * c.args.vars) c.args.clauses.clauses c.of-kernel.result c.derive_in.new.kernel c.of-kernel.ensures c.requires.below c.derive_in.ensures
