-- Room for digits in a number.
use Rattle.std.proofs.Common.{◌≡◌, ◌≤◌, ◌<◌, ◌+◌, ◌*◌, ◌^◌, ℕ, lit<, arith, Bool, true, ◌&&◌, leb-true}
use Rattle.std.proofs.Math.Nat.{pow-le-pow_right}
use Rattle.std.proofs.lemmas.Grind.{pow_more}
use Rattle.std.specs.Cmp.{first_so, second_so}
use Rattle.std.specs.Prelude.{nat_le}
use Rattle.pb_base.specs.Digits.{is_digit}

pub power_up_to : (i j : ℕ) → i ≤ j → 10 ^ i ≤ 10 ^ j
power_up_to i j h = pow-le-pow_right {n = 10} (lit< tt) h

-- a value of so few digits has room for one digit more
pub room_for_digit : (value i most : ℕ) → value < 10 ^ i → i + 1 ≤ most → most ≤ 19 → 10 * value + 9 < 2 ^ 64
room_for_digit value i most small more few =
    let longer : 10 ^ (i + 1) ≡ 10 ^ i * 10 = pow_more 10 i in
    let below : 10 ^ (i + 1) ≤ 10 ^ 19 = power_up_to (i + 1) 19 (omega (arith, more, few)) in
    let top : 10 ^ 19 < 2 ^ 64 = lit< tt in
    omega (arith, small, longer, below, top)

-- the first of some digits is at most 9
pub digit_small : (byte : ℕ) (others : Bool) → (is_digit byte && others) ≡ true → byte ≤ 57
digit_small byte others digits =
    leb-true byte 57 (second_so (nat_le 48 byte) (nat_le byte 57) (first_so (is_digit byte) others digits))
