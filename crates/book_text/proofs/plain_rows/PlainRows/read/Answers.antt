use Rattle.std.proofs.Common.{sym, ◌∙◌, arith}
use Rattle.std.proofs.lemmas.Bool.Decides.{nat_tests}
use Rattle.book_text.proofs.PlainLemmas.{nothing_left}
use Rattle.book_text.proofs.plain_rows.PlainRows.read.Goals as goal

pub returns-then-is_empty-clause-next : goal.returns-then-is_empty-clause-next
returns-then-is_empty-clause-next c =
    sym c.self.view_is ∙ sym c.from_next_row-text.ensures.rows
    ∙ nothing_left c.from_next_row-text.result.now (grind (arith, nat_tests, c.if-is_empty.true, c.is_empty.ensures))
