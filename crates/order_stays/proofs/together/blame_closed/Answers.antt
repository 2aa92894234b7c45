use Rattle.std.proofs.Common.{length, subst}
use Rattle.pb_base.specs.Rule.{Rule}
use Rattle.blame.specs.Blame.{AreBlamed}
use Rattle.order_stays.proofs.StayLaws.{always_fits}
use Rattle.order_stays.proofs.together.blame_closed.Goals as goal

pub blame_by-requires-clause-rule : goal.blame_by-requires-clause-rule
blame_by-requires-clause-rule c = always_fits (length c.args.book.now.codes) c.args.always.now c.requires.always

pub apart_with-requires-clause-clash : goal.apart_with-requires-clause-clash
apart_with-requires-clause-clash c =
    subst (λ (f : Rule). AreBlamed c.args.book.now c.args.day c.args.chosen.now f c.args.budget c.in-Some.clash) c.requires.always
    (rw c.in-Some.is at c.in_ok-hinted.ensures)
