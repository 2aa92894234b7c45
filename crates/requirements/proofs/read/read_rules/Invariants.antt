use Rattle.std.proofs.Common.{◌≡◌, ◌≤◌, ◌+◌, [], All, length, drop}
use Rattle.requirements.specs.Pass.{pass}
use Rattle.requirements.specs.Requirements.{with_requirement, RequirementFits}
use Rattle.requirements.proofs.read.read_rules.Given as goal

-- the pass over what is left gives what the whole pass does
abbrev pub invariant-loop-k : goal.invariant-loop-k
invariant-loop-k l = record {
  rest : pass (with_requirement l.codes) (l.k + 1) l.all.items (drop l.k l.stated) ≡ pass (with_requirement l.codes) 1 [] l.stated;
  fit : All (RequirementFits (length l.codes)) l.all.items;
  few : length l.all.items ≤ l.k;
}
