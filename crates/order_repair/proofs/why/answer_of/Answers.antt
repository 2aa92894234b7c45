use Rattle.std.proofs.Common.{◌∙◌, ℕ, List, ap, sym, subst}
use Rattle.pb_base.specs.Places.{places_of}
use Rattle.order_repair.specs.Ordered.{AreOrdered}
use Rattle.order_repair.proofs.OrderLaws.{chosen_ordered}
use Rattle.order_repair.proofs.why.answer_of.Goals as goal

pub repair_of-requires-clause-ordered : goal.repair_of-requires-clause-ordered
repair_of-requires-clause-ordered c =
    let b = c.args.book.now in
    let chosen_are = c.deref.ensures.value ∙ c.in_ok-chosen.ensures.places ∙ ap (λ (codes : List (List ℕ)). places_of codes c.args.names.now) c.codes.ensures.value in
    subst (AreOrdered b c.args.day) (sym chosen_are) (chosen_ordered b c.args.day c.args.names.now c.requires.faultless)
