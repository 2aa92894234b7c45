use Rattle.std.proofs.Common.{ℕ, refl, sym, subst, ◌∙◌, arith}
use Rattle.std.proofs.lemmas.Result.{err_from_is_err_and}
use Rattle.book_model.specs.Groups.{AreGroups}
use Rattle.book_text.specs.PartialBook.{records_of}
use Rattle.book_text.specs.Records.{no_records}
use Rattle.book_text.proofs.BookLaw.{passes-book, passes-positions}
use Rattle.book_text.proofs.PassLemmas.{rows-said, said-counts}
use Rattle.book_text.proofs.ReadLemmas.{refused-through}
use Rattle.book_text.proofs.read.surveyed_book.Goals as goal

pub second_pass-requires-clause-count : goal.second_pass-requires-clause-count
second_pass-requires-clause-count c =
    let counts = said-counts c.args.heading c.requires.rows.0 c.args.survey.entries.items c.args.survey.texts c.requires.rows.3 in
    counts.0 ∙ sym counts.1

pub second_pass-requires-clause-few : goal.second_pass-requires-clause-few
second_pass-requires-clause-few c =
    let counts = said-counts c.args.heading c.requires.rows.0 c.args.survey.entries.items c.args.survey.texts c.requires.rows.3 in
    omega (arith, counts.0, c.requires.rows.1)

pub returns-in_err-partial : goal.returns-in_err-partial
returns-in_err-partial c =
    let p = err_from_is_err_and c.from_residual.result c.from_residual.ensures.1 in
    rw (p.1, p.2) (refused-through _ _ _ _ c.in_err-partial.ensures.value)

pub whole_book-requires-clause-book : goal.whole_book-requires-clause-book
whole_book-requires-clause-book c =
    let survey = c.args.survey in
    let second = rows-said c.args.heading survey.names 2 no_records c.requires.rows.0 survey.entries.items survey.texts c.requires.rows.3 in
    passes-book c.args.heading c.requires.rows.0 survey.names (records_of c.in_ok-partial.partial) c.requires.term c.requires.rows.2 (second ∙ c.in_ok-partial.ensures.value)

pub whole_book-requires-clause-grouped : goal.whole_book-requires-clause-grouped
whole_book-requires-clause-grouped c =
    let survey = c.args.survey in
    let book = c.in_ok-partial.partial in
    let second = rows-said c.args.heading survey.names 2 no_records c.requires.rows.0 survey.entries.items survey.texts c.requires.rows.3 in
    subst (λ (n : ℕ). AreGroups n book.variants.items book.groups)
    (passes-positions c.args.heading c.requires.rows.0 survey.names (records_of book) c.requires.rows.2 (second ∙ c.in_ok-partial.ensures.value)) c.in_ok-partial.ensures.grouped

pub returns : goal.returns
returns c = rw (c.in_ok-partial.ensures.value, c.whole_book.ensures) refl
