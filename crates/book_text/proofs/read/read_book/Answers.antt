use Rattle.std.proofs.Common.{refl, sym, ◌∙◌}
use Rattle.book_text.proofs.ReadLemmas.{book_of-large, book_of-not_utf8, book_of-rows}
use Rattle.book_text.proofs.read.read_book.Goals as goal

pub returns-then-text-gt-MOST_TEXT_BYTES : goal.returns-then-text-gt-MOST_TEXT_BYTES
returns-then-text-gt-MOST_TEXT_BYTES c = rw (c.fault.ensures, book_of-large c.args.text.now c.if-text-gt-MOST_TEXT_BYTES.true) refl

pub returns-then-not-is_text : goal.returns-then-not-is_text
returns-then-not-is_text c =
    rw (c.fault-then-not-is_text.ensures, book_of-not_utf8 c.args.text.now c.if-text-gt-MOST_TEXT_BYTES.false (sym c.is_text.ensures ∙ c.if-not-is_text.true)) refl

pub returns : goal.returns
returns c =
    rw (book_of-rows c.args.text.now c.if-text-gt-MOST_TEXT_BYTES.false (sym c.is_text.ensures ∙ c.if-not-is_text.false))
    (rw c.of-rows.ensures.rows at c.book_of_rows.ensures)
