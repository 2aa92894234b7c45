use Rattle.std.proofs.Common.{refl}
use Rattle.blame.proofs.ToldLaws.{moved_among}
use Rattle.blame.proofs.telling.blamed_of.Goals as goal

pub blamed_again-requires-clause-used : goal.blamed_again-requires-clause-used
blamed_again-requires-clause-used c =
    moved_among c.args.entries.items c.deref.result.now c.in_ok-used.used.items c.in_ok-used.used.items c.deref.ensures.value refl c.in_ok-used.ensures
