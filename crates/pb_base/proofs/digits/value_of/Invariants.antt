use Rattle.std.proofs.Common.{◌≡◌, ◌<◌, ◌≤◌, ◌^◌, length, drop, true}
use Rattle.std.specs.List.{list_all}
use Rattle.pb_base.specs.Digits.{is_digit, value_from, value_of}
use Rattle.pb_base.proofs.digits.value_of.Given as goal

-- the digits that are left make the value whole, and it has no more digits than were read
abbrev pub invariant-loop-b : goal.invariant-loop-b
invariant-loop-b l = record {
  rest : value_from l.value (drop l.b-index l.text) ≡ value_of l.text;
  digits : list_all is_digit (drop l.b-index l.text) ≡ true;
  short : length l.text ≤ l.most;
  small : l.value < 10 ^ l.b-index;
}
