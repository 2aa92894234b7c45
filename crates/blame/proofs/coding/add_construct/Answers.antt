use Rattle.std.proofs.Common.{◌≡◌, sym, ap, subst, arith}
use Rattle.std.specs.Prelude.{OnOk}
use Rattle.clausify.specs.Encoding.{EncodesItem}
use Rattle.clausify.specs.Formulas.{connectives}
use Rattle.clausify.specs.Items.{Item, construct_item}
use Rattle.blame.specs.Blame.{entry_item}
use Rattle.blame.specs.declared.entries.Entry.TheVariants.{Construct}
use Rattle.blame.proofs.CodeLaws.{construct_there}
use Rattle.blame.proofs.coding.add_construct.Goals as goal

pub add_demand-requires-clause-room : goal.add_demand-requires-clause-room
add_demand-requires-clause-room c =
    let item : entry_item c.args.book.now (Construct c.args.place) ≡ construct_item c.index-constructs-place.result =
    construct_there c.args.book.now c.args.place c.constructs-constructs.result.now c.index-constructs-place.result c.constructs-constructs.ensures.value c.requires.there c.index-constructs-place.is in
    omega (arith, c.requires.room, ap (λ (i : Item). connectives i.rule) item)

pub returns : goal.returns
returns c =
    let item : entry_item c.args.book.now (Construct c.args.place) ≡ construct_item c.index-constructs-place.result =
    construct_there c.args.book.now c.args.place c.constructs-constructs.result.now c.index-constructs-place.result c.constructs-constructs.ensures.value c.requires.there c.index-constructs-place.is in
    subst (λ (i : Item). OnOk c.add_demand.result (EncodesItem c.args.encoder.now c.add_demand.new.encoder i)) (sym item) c.add_demand.ensures
