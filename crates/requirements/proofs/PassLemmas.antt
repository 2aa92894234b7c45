-- One step of a pass.
use Rattle.std.proofs.Common.{◌≡◌, ◌+◌, ◌<◌, ℕ, List, [], ◌∷◌, Result, Ok, Err, refl, ◌∙◌, ap, length, get_or, drop, arith}
use Rattle.std.proofs.lemmas.List.{drop_more, drop_all}
use Rattle.requirements.specs.Pass.{pass}
use Rattle.requirements.specs.declared.fault.RequirementFault.{RequirementFault}
use Rattle.requirements.specs.declared.fault.RequirementKind.{RequirementKind}

module _ {S X : Type 0} (step : S → X → Result S RequirementKind) where
  pub pass-more : (n : ℕ) (state next : S) (x : X) (rest : List X) → step state x ≡ Ok next → pass step n state (x ∷ rest) ≡ pass step (n + 1) next rest
  unfolding pass
  pass-more n state next x rest e = rw e refl

  pub pass-fault : (n : ℕ) (state : S) (x : X) (rest : List X) (kind : RequirementKind) → step state x ≡ Err kind → pass step n state (x ∷ rest) ≡ Err (record { row = n; kind = kind })
  unfolding pass
  pass-fault n state x rest kind e = rw e refl

  pub pass-end : (n : ℕ) (state : S) → pass step n state [] ≡ Ok state
  unfolding pass
  pass-end n state = refl
