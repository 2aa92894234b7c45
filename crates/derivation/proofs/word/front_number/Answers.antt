use Rattle.std.proofs.Common.{sym, ◌∙◌, arith}
use Rattle.derivation.proofs.FrontLaws.{ends_digits, number_is_kept}
use Rattle.derivation.proofs.word.front_number.Goals as goal

pub returns-then-front-text-clause-number : goal.returns-then-front-text-clause-number
returns-then-front-text-clause-number c =
    number_is_kept c.args.text.now c.leading_digits-front.result c.leading_digits-front.ensures (omega arith) (sym c.has_number_form.ensures ∙ c.if-not-has_number_form.false)

pub returns-clause-number : goal.returns-clause-number
returns-clause-number c =
    number_is_kept c.args.text.now c.leading_digits-front.result c.leading_digits-front.ensures (omega arith) (sym c.has_number_form.ensures ∙ c.if-not-has_number_form.false)

pub returns-clause-end : goal.returns-clause-end
returns-clause-end c = ends_digits c.args.separator c.args.text.now c.leading_digits-front.result c.requires c.leading_digits-front.ensures (λ _. c.if-text-front.false)
