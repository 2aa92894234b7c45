use Rattle.std.proofs.Common.{◌≡◌, List, ℕ, map, ap, sym, ◌∙◌}
use Rattle.std.specs.Borrow.{Bor}
use Rattle.csv.specs.Records.{field_at}
use Rattle.book_text.proofs.FieldLemmas.{field-found}
use Rattle.book_text.proofs.PlainLemmas.{field_there}
use Rattle.book_text.proofs.text_row.TextRow.part.Goals as goal

pub returns-in-Some : goal.returns-in-Some
returns-in-Some c =
    let left : map (λ f. f.now) c.self.inside.parted.items ≡ c.args.self.now = rw c.if-self.false at c.self.view_is in
    let found = c.in-Some.ensures.lookup in
    field-found c.args.self.now c.args.place c.in-Some.text.now.now (sym (
    field_there c.deref.result.now c.args.place c.in-Some.text.now found.3.0 found.1
    ∙ ap (λ (fields : List (Bor (List ℕ))). field_at (map (λ f. f.now) fields) c.args.place) c.deref.ensures.value ∙ ap (λ row. field_at row c.args.place) left))
