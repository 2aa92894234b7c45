use Rattle.std.proofs.Common.{◌≡◌, ◌<◌, ◌∙◌, Some, length, length-drop, take, get_or, ap, sym, arith, rules}
use Rattle.derivation.specs.Kept.{literal_kept}
use Rattle.derivation.proofs.FrontLaws.{behind_sign, plus_kept, minus_kept}
use Rattle.derivation.proofs.word.front_literal.Goals as goal

pub returns-then-sign-eq43-clause-literal : goal.returns-then-sign-eq43-clause-literal
returns-then-sign-eq43-clause-literal c =
    let some : 0 < length c.args.text.now = omega (arith, c.in-len1-up.len_at_least) in
    let sign : get_or c.args.text.now 0 0 ≡ 43 = search rules in
    let number = behind_sign c.args.text.now c.in_ok-front.front.end _ c.in_ok-front.front.value c.in_ok-front.ensures.number (omega (arith, length-drop 1 c.args.text.now)) in
    ap (λ n. literal_kept (take n c.args.text.now)) c.signed.ensures.end ∙ plus_kept c.args.text.now c.in_ok-front.front.end c.in_ok-front.front.value some sign number ∙ ap Some (sym c.signed.ensures.literal)

pub returns-then-sign-eq45-clause-literal : goal.returns-then-sign-eq45-clause-literal
returns-then-sign-eq45-clause-literal c =
    let some : 0 < length c.args.text.now = omega (arith, c.in-len1-up.len_at_least) in
    let sign : get_or c.args.text.now 0 0 ≡ 45 = search rules in
    let number = behind_sign c.args.text.now c.in_ok-front.front.end _ c.in_ok-front.front.value c.in_ok-front.ensures.number (omega (arith, length-drop 1 c.args.text.now)) in
    ap (λ n. literal_kept (take n c.args.text.now)) c.signed-then-sign-eq45.ensures.end ∙ minus_kept c.args.text.now c.in_ok-front.front.end c.in_ok-front.front.value some sign number ∙ ap Some (sym c.signed-then-sign-eq45.ensures.literal)
