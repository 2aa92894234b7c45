use Rattle.std.proofs.Common.{sym, subst, arith}
use Rattle.csv.specs.Reading.{strip_bom}
use Rattle.book_text.specs.Plain.{IsPlainText}
use Rattle.book_text.proofs.PlainLemmas.{no_quote_without}
use Rattle.book_text.proofs.RowsLemmas.{strip_bom-shorter}
use Rattle.book_text.proofs.plain_rows.PlainRows.of.Goals as goal

pub invariant_of-result : goal.invariant_of-result
invariant_of-result c =
    let text = c.args.text.now in
    let plain : IsPlainText (strip_bom text) = record { plain = no_quote_without text c.requires.plain; few = omega (arith, strip_bom-shorter text, c.requires.few) } in
    subst IsPlainText (sym c.without_mark.ensures) plain
