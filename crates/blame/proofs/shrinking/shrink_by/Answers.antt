use Rattle.std.proofs.Common.{length, refl}
use Rattle.blame.proofs.KeptLaws.{marked_untried}
use Rattle.blame.proofs.shrinking.shrink_by.Goals as goal

pub shrink_on-requires-clause-marked : goal.shrink_on-requires-clause-marked
shrink_on-requires-clause-marked c =
    marked_untried c.args.book.now c.args.day c.args.rule.now c.args.first.now c.args.budget (length c.args.first.now) c.in_ok-marks.marks refl
    c.in_ok-marks.ensures.kept c.in_ok-marks.ensures.needed c.in_ok-marks.ensures.left c.requires.none
