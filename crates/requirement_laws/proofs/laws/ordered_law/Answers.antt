use Rattle.std.proofs.Common.{◌≡◌, true, IsTrue, sym, ◌∙◌}
use Rattle.std.proofs.lemmas.Bool.{and_from, le-leb}
use Rattle.book_model.specs.Activity.{is_within}
use Rattle.release.specs.Orders.{IsBuilt, can_be_built, supplemented}
use Rattle.requirement_laws.proofs.laws.ordered_law.Goals as goal

pub returns : goal.returns
returns c = λ budget rs notes place r report there none day names formed asked accepted.
    let released = c.args.released.now in
    let b = released.book in
    let is_release = c.book-book.ensures.release in
    let can : can_be_built b day names ≡ true = sym (c.order_laws.ensures.accepts released day names is_release formed) ∙ accepted in
    let built : IsBuilt b day names = c.order_laws.ensures.built released day names is_release formed can in
    let in_term : IsTrue (is_within b.first b.last day) = and_from _ _ (le-leb b.first day formed.first) (le-leb day b.last formed.last) in
    let law = rw c.book-book.ensures.value at c.kept_law.ensures in
    law budget rs notes place r report there none day in_term asked (supplemented b day names) built.good
