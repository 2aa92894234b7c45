-- A pass over the rows, or over what they state: each joins what was made of those before it, and the first fault ends it.
use Rattle.std.specs.Prelude.{ℕ, ◌+◌, List, [], ◌∷◌, Result, Ok}
use Rattle.pb_base.specs.Results.{and_then}
use Rattle.requirements.specs.Fault.{at_row}
use Rattle.requirements.specs.declared.fault.RequirementFault.{RequirementFault}
use Rattle.requirements.specs.declared.fault.RequirementKind.{RequirementKind}

-- what the rows make, step by step, where the first of them has the number n
unfoldable pub pass : {S X : Type 0} → (S → X → Result S RequirementKind) → ℕ → S → List X → Result S RequirementFault
pass step n state [] = Ok state
pass step n state (row ∷ rows) = and_then (at_row n (step state row)) (λ next. pass step (n + 1) next rows)
