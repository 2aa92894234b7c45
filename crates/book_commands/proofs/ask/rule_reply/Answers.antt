use Rattle.std.proofs.Common.{◌≡◌, Ok}
use Rattle.rule_text.specs.Reading.{rule_of}
use Rattle.book_commands.proofs.AskLaws.{by_read, read_fits}
use Rattle.book_commands.proofs.ask.rule_reply.Goals as goal

pub formula_reply-requires-clause-fits : goal.formula_reply-requires-clause-fits
formula_reply-requires-clause-fits c =
    let read : rule_of c.args.book.now.codes c.args.rule.now ≡ Ok c.in-Ok.formula = rw (c.bytes.ensures.value, c.codes.ensures.value) at c.in-Ok.ensures.answer in
    read_fits c.args.book.now.codes c.args.rule.now c.in-Ok.formula read

pub returns-in-Ok : goal.returns-in-Ok
returns-in-Ok c =
    let read : rule_of c.args.book.now.codes c.args.rule.now ≡ Ok c.in-Ok.formula = rw (c.bytes.ensures.value, c.codes.ensures.value) at c.in-Ok.ensures.answer in
    by_read c.args.book.now c.args.day c.args.budget.now (rule_of c.args.book.now.codes c.args.rule.now) (Ok c.in-Ok.formula) c.formula_reply.result read c.formula_reply.ensures
