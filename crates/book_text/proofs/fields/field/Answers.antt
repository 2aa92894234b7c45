use Rattle.std.proofs.Common.{sym}
use Rattle.book_text.proofs.FieldLemmas.{field-found, field-past}
use Rattle.book_text.proofs.fields.field.Goals as goal

pub returns-in-Some : goal.returns-in-Some
returns-in-Some c = field-found c.args.row.now c.args.place c.in-Some.text.now (sym c.in-Some.ensures)

pub returns-in-None : goal.returns-in-None
returns-in-None c = field-past c.args.row.now c.args.place (sym c.in-None.ensures)
