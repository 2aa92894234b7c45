-- How many clauses may be learnt in a search.
use Rattle.std.specs.Prelude.{ℕ, ◌<◌, ◌≤◌}
use Rattle.pb_base.specs.declared.limits.TheConstants.{MOST_BUDGET}

pub record IsBudget (budget : ℕ) : Type 0 where
  pub some : 0 < budget
  pub most : budget ≤ MOST_BUDGET
