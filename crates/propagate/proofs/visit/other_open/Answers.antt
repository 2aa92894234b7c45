use Rattle.std.proofs.Common.{refl}
use Rattle.propagate.proofs.KeepLaws.{has_at}
use Rattle.propagate.proofs.visit.other_open.Goals as goal

pub is_false-requires : goal.is_false-requires
is_false-requires c = c.requires _ (has_at c.args.codes.now c.loop-code.code-index _ c.loop-code-test.true refl)
