use Rattle.std.proofs.Common.{◌≡◌, ◌+◌, ◌*◌, ◌∙◌, ℕ, drop, sym, ap}
use Rattle.std.proofs.lemmas.List.{at_drop_more}
use Rattle.pb_base.specs.Digits.{value_from, value_of}
use Rattle.http_wire.proofs.Numbers.{too_large}
use Rattle.http_wire.proofs.judge.number_up_to.Goals as goal

pub returns-then-value-limit-clause-number : goal.returns-then-value-limit-clause-number
returns-then-value-limit-clause-number c =
    let digits = c.args.digits.now in
    let place = c.loop-digit.digit-index in
    let whole : value_from (10 * c.loop-digit.value + c.from.result) (drop (place + 1) digits) ≡ value_of digits =
    ap (λ (digit : ℕ). value_from (10 * c.loop-digit.value + digit) (drop (place + 1) digits)) c.from.ensures
    ∙ sym (at_drop_more (value_from c.loop-digit.value) digits place 0 c.loop-digit-test.true) ∙ c.loop-digit.invariant.rest in
    sym (too_large c.args.limit _ digits (drop (place + 1) digits) c.if-value-limit.true whole)
