use Rattle.std.proofs.Common.{arith}
use Rattle.derivation.specs.Reading.{so_far_of}
use Rattle.derivation.proofs.NamedLaws.{named_derived}
use Rattle.derivation.proofs.after.derive.Goals as goal

pub returns-in-Ok-clause-named : goal.returns-in-Ok-clause-named
returns-in-Ok-clause-named c = λ named. named_derived (so_far_of c.args.slice.now) c.resolve.new.self c.resolve.ensures.bounds (omega arith) named
