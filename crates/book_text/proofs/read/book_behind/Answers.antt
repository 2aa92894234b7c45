use Rattle.book_text.specs.Records.{no_records}
use Rattle.book_text.proofs.PassLemmas.{rows-said}
use Rattle.book_text.proofs.read.book_behind.Goals as goal

pub surveyed_book-requires-clause-rows : goal.surveyed_book-requires-clause-rows
surveyed_book-requires-clause-rows c = (c.args.rows.now, c.requires.count, c.in_ok-survey.ensures.names, c.in_ok-survey.ensures.said)

pub returns : goal.returns
returns c =
    let survey = c.in_ok-survey.survey in
    let second = rows-said c.args.heading survey.names 2 no_records c.args.rows.now survey.entries.items survey.texts c.in_ok-survey.ensures.said in
    rw (c.in_ok-survey.ensures.names, second) c.surveyed_book.ensures
