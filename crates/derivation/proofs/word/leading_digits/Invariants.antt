use Rattle.std.proofs.Common.{◌≡◌, ◌<◌, ◌≤◌, ◌^◌, ◌-◌, take, true}
use Rattle.std.specs.List.{list_all}
use Rattle.pb_base.specs.Digits.{is_digit, value_of}
use Rattle.derivation.proofs.word.leading_digits.Given as goal

abbrev pub invariant-loop-end : goal.invariant-loop-end
invariant-loop-end l = record {
  within : l.end ≤ l.most;
  digits : list_all is_digit (take l.end l.text) ≡ true;
  value : value_of (take l.end l.text) ≡ l.value;
  small : l.value < 10 ^ l.end;
}

abbrev pub decreases-loop-end : goal.decreases-loop-end
decreases-loop-end l = l.most - l.end
