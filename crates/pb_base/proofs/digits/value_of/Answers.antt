use Rattle.std.proofs.Common.{arith, ◌≡◌, ◌≤◌, ◌<◌, ◌+◌, ◌*◌, ◌^◌, ◌&&◌, ◌∙◌, ℕ, true, drop, sym, slice_index_or}
use Rattle.std.specs.List.{list_all}
use Rattle.std.proofs.lemmas.List.{at_drop_more}
use Rattle.pb_base.specs.Digits.{is_digit}
use Rattle.pb_base.proofs.DigitRoom.{digit_small, power_up_to, room_for_digit}
use Rattle.pb_base.proofs.digits.value_of.Goals as goal

pub overflow_mul-value : goal.overflow_mul-value
overflow_mul-value c =
    let room : 10 * c.loop-b.value + 9 < 2 ^ 64 = room_for_digit c.loop-b.value c.loop-b.b-index c.args.most c.loop-b.invariant.small (omega (arith, c.loop-b-test.true, c.loop-b.invariant.short)) c.requires.most in
    omega (arith, room)

pub overflow_add-value : goal.overflow_add-value
overflow_add-value c =
    let room : 10 * c.loop-b.value + 9 < 2 ^ 64 = room_for_digit c.loop-b.value c.loop-b.b-index c.args.most c.loop-b.invariant.small (omega (arith, c.loop-b-test.true, c.loop-b.invariant.short)) c.requires.most in
    let byte : ℕ = slice_index_or c.args.text.now c.loop-b.b-index 0 in
    let digits : (is_digit byte && list_all is_digit (drop (c.loop-b.b-index + 1) c.args.text.now)) ≡ true = sym (at_drop_more (list_all is_digit) c.args.text.now c.loop-b.b-index 0 c.loop-b-test.true) ∙ c.loop-b.invariant.digits in
    let small : byte ≤ 57 = digit_small byte (list_all is_digit (drop (c.loop-b.b-index + 1) c.args.text.now)) digits in
    omega (arith, room, c.from.ensures, small)

pub returns-clause-small : goal.returns-clause-small
returns-clause-small c =
    let more : 10 ^ c.loop-b.b-index ≤ 10 ^ c.args.most = power_up_to c.loop-b.b-index c.args.most (omega (arith, c.loop-b.auto.b-index-end, c.loop-b.invariant.short)) in
    omega (arith, more, c.loop-b.invariant.small)
