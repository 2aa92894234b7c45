use Rattle.std.proofs.Common.{◌<◌, ◌≤◌, ◌++◌, length, get_or, subst, ap, ◌∙◌, arith}
use Rattle.std.specs.List.{AllByRecursion}
use Rattle.std.proofs.lemmas.List.{take_all, get_or_default}
use Rattle.derivation.specs.declared.closing.Closing.{Closing}
use Rattle.derivation.specs.Written.{LineFits, close_lines, written}
use Rattle.derivation.proofs.TextLaws.{one_closing_more, one_closing_fits}
use Rattle.derivation.proofs.write.put_closings.Goals as goal

pub loop-closing-preserved : goal.loop-closing-preserved
loop-closing-preserved c =
    let closings = c.args.closings.now in
    let i = c.loop-closing.closing-index in
    let none : Closing = record { question = 0; at = 0 } in
    let here : Closing = get_or closings i none in
    let below : i < length closings = omega arith in
    record {
      text = one_closing_more c.args.text.now c.loop-closing.text c.put_close_line.new.text closings i here below (get_or_default closings i none here below) c.loop-closing.invariant.text c.in_ok-put_close_line.ensures.text;
      fit = one_closing_fits closings i here below (get_or_default closings i none here below) c.loop-closing.invariant.fit c.put_close_line.ensures.fits;
    }

pub returns : goal.returns
returns c =
    let closings = c.args.closings.now in
    let whole = take_all c.loop-closing.closing-index closings (let past : length closings ≤ c.loop-closing.closing-index = omega arith in past) in
    record {
      text = c.loop-closing.invariant.text ∙ ap (λ cs. c.args.text.now ++ written (close_lines cs)) whole;
      fit = subst (λ cs. AllByRecursion LineFits (close_lines cs)) whole c.loop-closing.invariant.fit;
    }
