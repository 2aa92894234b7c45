use Rattle.std.proofs.Common.{subst}
use Rattle.desk_words.specs.declared.call.What.{What}
use Rattle.answering.specs.Answers.{course_of}
use Rattle.answering.proofs.BookNames.{is_dealt}
use Rattle.answering.proofs.EventNames.{released_book}
use Rattle.answering.proofs.NewOrders.{places_alone, places_order}
use Rattle.answering.proofs.headline.headline_laws.Goals as goal

pub returns-clause-orders : goal.returns-clause-orders
returns-clause-orders c call number order h said new is valid left answers =
    places_order call.caller number order h said new valid left (subst (λ (w : What). course_of call.caller w h said new) is answers)

pub returns-clause-alone : goal.returns-clause-alone
returns-clause-alone c call number order h said new is valid left answers alone =
    places_alone call.caller number order h said new alone valid left
    (subst (λ (w : What). course_of call.caller w h said new) is answers)

pub returns-clause-books : goal.returns-clause-books
returns-clause-books c = released_book

pub returns-clause-calls : goal.returns-clause-calls
returns-clause-calls c call h said new valid answers = is_dealt call h said new valid answers
