use Rattle.std.proofs.Common.{◌≡◌, ◌+◌, ◌≤◌, drop}
use Rattle.std.specs.Prelude.{count_by}
use Rattle.free_answers.specs.FreeText.{is_open}
use Rattle.free_answers.proofs.text.open_count.Given as goal

abbrev pub invariant-loop-state : goal.invariant-loop-state
invariant-loop-state l = (l.count + count_by is_open (drop l.state-index l.states) ≡ count_by is_open l.states) × (l.count ≤ l.state-index)
