use Rattle.std.proofs.Common.{sym, ◌∙◌}
use Rattle.left_cars.proofs.StateLaws.{only_shown, both_open}
use Rattle.left_cars.proofs.free.state_of.Goals as goal

pub state_beside-requires-clause-shown : goal.state_beside-requires-clause-shown
state_beside-requires-clause-shown c =
    only_shown c.args.book.now c.args.day c.args.chosen.now c.args.seen.now c.args.place c.in-Some.value c.requires.seen (c.requires.all c.args.place c.requires.place)
    (sym c.only_value.ensures ∙ c.in-Some.is)

pub returns-in-None-clause-state : goal.returns-in-None-clause-state
returns-in-None-clause-state c = (
  sym c.is_chosen.ensures ∙ c.if-is_chosen.false,
  both_open c.args.book.now c.args.day c.args.chosen.now c.args.seen.now c.args.place c.requires.seen (sym c.only_value.ensures ∙ c.in-None.is),
)
