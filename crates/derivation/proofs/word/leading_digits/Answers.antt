use Rattle.std.proofs.Common.{◌≡◌, ◌<◌, ◌+◌, ◌-◌, ◌*◌, ◌^◌, ◌∙◌, ℕ, true, length, slice_index_or, sym, arith}
use Rattle.pb_base.specs.Digits.{is_digit}
use Rattle.derivation.proofs.FrontLaws.{room_for_digit, power_next, digit_is, digits_more, value_next}
use Rattle.derivation.proofs.word.leading_digits.Goals as goal

pub overflow_mul-value : goal.overflow_mul-value
overflow_mul-value c =
    let room : 10 * c.loop-end.value + 9 < 2 ^ 64 = room_for_digit c.loop-end.value c.loop-end.end c.loop-end.invariant.small (omega (arith, c.loop-end-test.true, c.min-most.ensures)) in
    omega (arith, room)

pub overflow_add-value : goal.overflow_add-value
overflow_add-value c =
    let room : 10 * c.loop-end.value + 9 < 2 ^ 64 = room_for_digit c.loop-end.value c.loop-end.end c.loop-end.invariant.small (omega (arith, c.loop-end-test.true, c.min-most.ensures)) in
    let byte : ℕ = slice_index_or c.args.text.now c.loop-end.end 0 in
    let digit : is_digit byte ≡ true = sym c.is_ascii_digit.ensures.value ∙ c.if-not-is_ascii_digit.false in
    let range = digit_is byte digit in
    omega (arith, room, c.from.ensures, range.1)

pub loop-end-preserved : goal.loop-end-preserved
loop-end-preserved c =
    let text = c.args.text.now in
    let end = c.loop-end.end in
    let byte : ℕ = slice_index_or text end 0 in
    let inside : end < length text = omega (arith, c.loop-end-test.true, c.min-most.ensures) in
    let digit : is_digit byte ≡ true = sym c.is_ascii_digit.ensures.value ∙ c.if-not-is_ascii_digit.false in
    let range = digit_is byte digit in
    let sum : 10 * c.loop-end.value + (byte - 48) ≡ 10 * c.loop-end.value + c.from.result = omega (arith, c.from.ensures) in
    record {
      within = omega (arith, c.loop-end-test.true);
      digits = digits_more text end inside c.loop-end.invariant.digits digit;
      value = value_next text end c.loop-end.value inside c.loop-end.invariant.value ∙ sum;
      small = power_next c.loop-end.value end c.from.result c.loop-end.invariant.small (omega (arith, c.from.ensures, range.1));
    }
