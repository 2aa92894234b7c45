use Rattle.book_model.specs.Activity.{is_within}
use Rattle.free_answers.proofs.AnswerLaws.{day_in_term}
use Rattle.free_answers.proofs.answer.orders_of.Goals as goal

pub returns : goal.returns
returns c =
    let within = day_in_term c.args.book.now c.args.day c.args.names.now c.requires.faultless in
    c.left_laws.ensures.free c.args.day c.args.chosen.now c.args.budget c.args.freedom.now within c.requires.free
