use Rattle.std.proofs.Common.{◌≡◌, ◌≤◌, drop, true}
use Rattle.std.specs.List.{list_all}
use Rattle.pb_base.specs.Digits.{is_digit, value_from, value_of}
use Rattle.http_wire.proofs.judge.number_up_to.Given as goal

-- the digits that are left make the number whole
abbrev pub invariant-loop-digit : goal.invariant-loop-digit
invariant-loop-digit l = record {
  rest : value_from l.value (drop l.digit-index l.digits) ≡ value_of l.digits;
  digits : list_all is_digit (drop l.digit-index l.digits) ≡ true;
  small : l.value ≤ l.limit;
  limit : l.limit ≤ 1048576;
}
