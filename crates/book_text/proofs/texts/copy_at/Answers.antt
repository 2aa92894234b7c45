use Rattle.std.proofs.Common.{sym}
use Rattle.csv.specs.Records.{fields_of}
use Rattle.book_text.proofs.FieldLemmas.{field-found, field-past}
use Rattle.book_text.proofs.texts.copy_at.Goals as goal

pub returns-in-Some : goal.returns-in-Some
returns-in-Some c = field-found (fields_of c.args.copies.now) c.args.place c.in-Some.text.now (sym c.in-Some.ensures.value)

pub returns-in-None : goal.returns-in-None
returns-in-None c = field-past (fields_of c.args.copies.now) c.args.place (sym c.in-None.ensures.value)
