use Rattle.csv.specs.Records.{fields_of}
use Rattle.book_text.proofs.RowsLemmas.{read-gives}
use Rattle.book_text.proofs.csv_rows.CsvRows.read.Goals as goal

pub invariant_of-self : goal.invariant_of-self
invariant_of-self c =
    let is = c.self.invariant c.if-self.false in
    let got = c.in-Ok.ensures in
    (read-gives c.in-Ok.found c.self.inside.reader c.read_byte_record.new.self (fields_of c.read_byte_record.new.row) is (got.reads is.untrimmed is.ready) (got.ready is.untrimmed) got.flexible).reading

pub returns-in-Ok-clause-next : goal.returns-in-Ok-clause-next
returns-in-Ok-clause-next c =
    let is = c.self.invariant c.if-self.false in
    let got = c.in-Ok.ensures in
    let left = rw c.if-self.false at c.self.view_is in
    rw (← left) (read-gives c.in-Ok.found c.self.inside.reader c.read_byte_record.new.self (fields_of c.read_byte_record.new.row) is (got.reads is.untrimmed is.ready) (got.ready is.untrimmed) got.flexible).next

pub returns-in-Ok-clause-short : goal.returns-in-Ok-clause-short
returns-in-Ok-clause-short c =
    let is = c.self.invariant c.if-self.false in
    let got = c.in-Ok.ensures in
    (read-gives c.in-Ok.found c.self.inside.reader c.read_byte_record.new.self (fields_of c.read_byte_record.new.row) is (got.reads is.untrimmed is.ready) (got.ready is.untrimmed) got.flexible).short
