use Rattle.book_commands.proofs.AskLaws.{told_right}
use Rattle.book_commands.proofs.ask.formula_reply.Goals as goal

pub orders_of-requires-clause-right : goal.orders_of-requires-clause-right
orders_of-requires-clause-right c = rw c.clauses.ensures.value at c.in_ok-told.ensures

pub returns : goal.returns
returns c =
    told_right c.args.book.now c.args.day c.args.formula.now c.args.budget.now c.in_ok-told.told c.told_reply.result (rw c.clauses.ensures.value at c.in_ok-told.ensures) c.orders_of.ensures
    c.told_reply.ensures
