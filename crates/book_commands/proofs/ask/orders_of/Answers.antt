use Rattle.book_commands.proofs.ask.orders_of.Goals as goal

pub returns : goal.returns
returns c = c.left_laws.ensures.asked c.args.day c.args.formula.now c.args.budget.now c.args.told.now c.requires.within c.requires.right
