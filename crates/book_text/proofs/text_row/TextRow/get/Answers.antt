use Rattle.std.proofs.Common.{◌≡◌, List, ℕ, map, ap, ◌∙◌}
use Rattle.std.specs.Borrow.{Bor}
use Rattle.csv.specs.Records.{field_at}
use Rattle.book_text.proofs.PlainLemmas.{field_there, no_field_there}
use Rattle.book_text.proofs.text_row.TextRow.get.Goals as goal

pub returns-in-Some : goal.returns-in-Some
returns-in-Some c =
    let left : map (λ f. f.now) c.self.inside.parted.items ≡ c.args.self.now = rw c.if-self.false at c.self.view_is in
    let found = c.in-Some.ensures.lookup in
    field_there c.deref.result.now c.args.place c.in-Some.text.now found.3.0 found.1
    ∙ ap (λ (fields : List (Bor (List ℕ))). field_at (map (λ f. f.now) fields) c.args.place) c.deref.ensures.value ∙ ap (λ row. field_at row c.args.place) left

pub returns-in-None : goal.returns-in-None
returns-in-None c =
    let left : map (λ f. f.now) c.self.inside.parted.items ≡ c.args.self.now = rw c.if-self.false at c.self.view_is in
    no_field_there c.deref.result.now c.args.place c.in-None.ensures.lookup.3
    ∙ ap (λ (fields : List (Bor (List ℕ))). field_at (map (λ f. f.now) fields) c.args.place) c.deref.ensures.value ∙ ap (λ row. field_at row c.args.place) left
