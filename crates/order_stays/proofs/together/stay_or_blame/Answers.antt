use Rattle.std.proofs.Common.{length, subst}
use Rattle.pb_base.specs.Rule.{Rule}
use Rattle.blame.specs.Blame.{AreBlamed}
use Rattle.order_stays.proofs.StayLaws.{always_fits}
use Rattle.order_stays.proofs.together.stay_or_blame.Goals as goal

pub blame_near-requires-clause-rule : goal.blame_near-requires-clause-rule
blame_near-requires-clause-rule c = always_fits (length c.args.book.now.codes) c.in_ok-always.always c.in_ok-always.ensures

pub apart-requires-clause-clash : goal.apart-requires-clause-clash
apart-requires-clause-clash c =
    subst (λ (f : Rule). AreBlamed c.args.book.now c.args.day c.args.chosen.now f c.args.budget c.in-Some.clash) c.in_ok-always.ensures
    (rw c.in-Some.is at c.in_ok-near.ensures)
