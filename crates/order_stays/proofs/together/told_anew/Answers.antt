use Rattle.std.proofs.Common.{length, subst}
use Rattle.pb_base.specs.Rule.{Rule}
use Rattle.blame.specs.Blame.{AreBlamed, IsGivenUp}
use Rattle.blame.specs.Entries.{all_entries}
use Rattle.blame.proofs.ListLaws.{among_self}
use Rattle.order_stays.proofs.FindLaws.{car_told}
use Rattle.order_stays.proofs.StayLaws.{always_fits}
use Rattle.order_stays.proofs.together.told_anew.Goals as goal

pub find_or_blame-requires-clause-rule : goal.find_or_blame-requires-clause-rule
find_or_blame-requires-clause-rule c = always_fits (length c.args.book.now.codes) c.args.always.now c.requires.always

pub returns-in-Car : goal.returns-in-Car
returns-in-Car c = car_told c.args.book.now c.args.day c.args.chosen.now c.args.always.now c.in-Car.car (rw c.in-Car.is at c.in_ok-told.ensures)

pub apart-requires-clause-clash : goal.apart-requires-clause-clash
apart-requires-clause-clash c =
    subst (λ (f : Rule). AreBlamed c.args.book.now c.args.day c.args.chosen.now f c.args.budget c.in-NoCar.clash) c.requires.always
    (rw c.in-NoCar.is at c.in_ok-told.ensures)

pub returns-in-Undecided : goal.returns-in-Undecided
returns-in-Undecided c = record {
  kept = c.args.chosen.now;
  among = among_self c.args.chosen.now;
  left = subst (λ (f : Rule). IsGivenUp c.args.book.now f (all_entries c.args.book.now c.args.day c.args.chosen.now) c.args.budget c.in-Undecided.learnt.clauses)
      c.requires.always (rw c.in-Undecided.is at c.in_ok-told.ensures);
}
