use Rattle.std.proofs.Common.{◌-◌, length, length-drop, drop, sym, ◌∙◌, arith}
use Rattle.std.proofs.lemmas.List.{take_all}
use Rattle.book_text.proofs.PlainLemmas.{marked, unmarked}
use Rattle.book_text.proofs.plain_rows.without_mark.Goals as goal

pub returns-then-not-has_mark : goal.returns-then-not-has_mark
returns-then-not-has_mark c = unmarked c.args.text.now (sym c.has_mark.ensures.value ∙ c.if-not-has_mark.true)

pub returns : goal.returns
returns c =
    let text = c.args.text.now in
    take_all (length text - 3) (drop 3 text) (omega (arith, length-drop 3 text)) ∙ marked text (sym c.has_mark.ensures.value ∙ c.if-not-has_mark.false)
