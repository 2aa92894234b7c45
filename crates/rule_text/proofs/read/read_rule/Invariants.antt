use Rattle.std.proofs.Common.{◌≡◌, ◌-◌, ◌≤◌, false, length, drop}
use Rattle.rule_text.specs.Token.{tokens, tokens_from}
use Rattle.rule_text.specs.Steps.{begin}
use Rattle.rule_text.specs.Views.{state_of}
use Rattle.rule_text.proofs.StepLemmas.{read_from}
use Rattle.rule_text.proofs.read.read_rule.Given as goal

-- what is left reads on to what the whole text reads as
abbrev pub invariant-loop-at : goal.invariant-loop-at
invariant-loop-at l = record {
  within : l.at ≤ length l.text;
  same : read_from l.codes (length l.text) (state_of l.reader) (tokens_from false l.at (drop l.at l.text)) ≡ read_from l.codes (length l.text) begin (tokens l.text);
}

abbrev pub decreases-loop-at : goal.decreases-loop-at
decreases-loop-at l = length l.text - l.at
