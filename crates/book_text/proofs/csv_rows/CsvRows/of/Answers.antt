use Rattle.std.proofs.Common.{◌+◌, length, refl, ◌∙◌, inr, arith}
use Rattle.csv.specs.Reading.{strip_bom}
use Rattle.csv.specs.declared.parser.State.TheVariants as st
use Rattle.book_text.proofs.RowsLemmas.{rows-count, strip_bom-shorter}
use Rattle.book_text.proofs.csv_rows.CsvRows.of.Goals as goal

pub invariant_of-result : goal.invariant_of-result
invariant_of-result c = λ going.
    let fr = c.from_reader-reader.ensures in
    let headers = c.has_headers.ensures in
    let flexible = c.flexible.ensures in
    record {
      untrimmed = rw (flexible, headers) at fr.trim ∙ c.new.ensures.trim;
      flexible = rw flexible at fr.flexible;
      ready = inr (inr (rw (flexible, headers) at fr.has_headers, fr.headers));
      config = rw (flexible, headers) at fr.config ∙ c.new.ensures.config;
      between = rw fr.state refl;
      text = (strip_bom c.args.text.now, fr.source, omega (arith, strip_bom-shorter c.args.text.now));
    }

pub returns-clause-count : goal.returns-clause-count
returns-clause-count c =
    let fr = c.from_reader-reader.ensures in
    let text = strip_bom c.args.text.now in
    rw (fr.state, fr.source) (omega (arith, rows-count (length text + 1) st.StartRecord text refl, strip_bom-shorter c.args.text.now))
