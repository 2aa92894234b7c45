use Rattle.std.proofs.Common.{◌≡◌, sym, ap, subst, arith}
use Rattle.std.specs.Prelude.{OnOk}
use Rattle.clausify.specs.Encoding.{EncodesItem}
use Rattle.clausify.specs.Formulas.{connectives}
use Rattle.clausify.specs.Items.{Item, supplement_item}
use Rattle.blame.specs.Blame.{entry_item}
use Rattle.blame.specs.declared.entries.Entry.TheVariants.{Supplement}
use Rattle.blame.proofs.CodeLaws.{supplement_there}
use Rattle.blame.proofs.coding.add_supplement.Goals as goal

pub supplement-requires : goal.supplement-requires
supplement-requires c =
    let item : entry_item c.args.book.now (Supplement c.args.place) ≡ supplement_item c.index-supplements-place.result =
    supplement_there c.args.book.now c.args.place c.supplements-supplements.result.now c.index-supplements-place.result c.supplements-supplements.ensures.value c.requires.there c.index-supplements-place.is in
    omega (arith, c.requires.room, ap (λ (i : Item). connectives i.rule) item)

pub returns : goal.returns
returns c =
    let item : entry_item c.args.book.now (Supplement c.args.place) ≡ supplement_item c.index-supplements-place.result =
    supplement_there c.args.book.now c.args.place c.supplements-supplements.result.now c.index-supplements-place.result c.supplements-supplements.ensures.value c.requires.there c.index-supplements-place.is in
    subst (λ (i : Item). OnOk c.supplement.result (EncodesItem c.args.encoder.now c.supplement.new.self i)) (sym item) c.supplement.ensures
