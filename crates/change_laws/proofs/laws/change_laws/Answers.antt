use Rattle.std.proofs.Common.{◌∙◌, ap, subst}
use Rattle.std.specs.List.{IsDistinct}
use Rattle.pb_base.specs.Names.{same_name}
use Rattle.book_model.specs.Contents.{Contents}
use Rattle.change_laws.proofs.OrderLaws.{Builds, orders_alike}
use Rattle.change_laws.proofs.laws.change_laws.Goals as goal

pub returns : goal.returns
returns c = λ budget r notes day run told none within.
    let first = c.args.first.now in
    let second = c.args.second.now in
    let own : Builds first.book = record {
      accepts_are = λ on names formed. c.order_laws.ensures.accepts first on names c.book-one.ensures.release formed;
      good = λ on names formed built. (c.order_laws.ensures.built first on names c.book-one.ensures.release formed built).good;
      apart = subst (IsDistinct same_name) (c.codes.ensures.value ∙ ap (λ (b : Contents). b.codes) c.book-one.ensures.value) c.names_law.ensures.distinct;
    } in
    let other : Builds second.book = record {
      accepts_are = λ on names formed. c.order_laws.ensures.accepts second on names c.book-other.ensures.release formed;
      good = λ on names formed built. (c.order_laws.ensures.built second on names c.book-other.ensures.release formed built).good;
      apart = subst (IsDistinct same_name) (c.codes-2.ensures.value ∙ ap (λ (b : Contents). b.codes) c.book-other.ensures.value) c.names_law-2.ensures.distinct;
    } in
    orders_alike first.book second.book budget r notes day own other run told none within
