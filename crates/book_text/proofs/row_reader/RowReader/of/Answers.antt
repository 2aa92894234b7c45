use Rattle.std.proofs.Common.{◌+◌, ◌≤◌, List, length, refl, sym, subst, arith}
use Rattle.csv.specs.Reading.{strip_bom}
use Rattle.csv.specs.declared.parser.State.TheVariants as st
use Rattle.book_text.specs.Plain.{plain_rows}
use Rattle.book_text.specs.Rows.{Row}
use Rattle.book_text.proofs.RowsLemmas.{rows-count, strip_bom-shorter}
use Rattle.book_text.proofs.row_reader.RowReader.of.Goals as goal

pub returns-in-None-clause-count : goal.returns-in-None-clause-count
returns-in-None-clause-count c =
    let text = strip_bom c.args.text.now in
    let count : length (plain_rows text) ≤ length text = rows-count (length text + 1) st.StartRecord text refl in
    subst (λ (rows : List Row). length rows ≤ length c.args.text.now) (sym c.of-in-None.ensures) (omega (arith, count, strip_bom-shorter c.args.text.now))
