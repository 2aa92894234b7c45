-- What is asked on slices.
use Rattle.std.specs.Prelude.{ℕ, ◌<◌, ◌≤◌, ◌^◌, List, All, length}
use Rattle.pb_base.specs.declared.limits.TheConstants.{MOST_BUDGET}
use Rattle.book_model.specs.Contents.{Contents}
use Rattle.requirements.specs.Requirements.{RequirementFits}
use Rattle.requirements.specs.declared.requirement.Requirement.{Requirement}

-- requirements of the book, which are not too many, and a budget
pub record AreAskable (b : Contents) (budget : ℕ) (rs : List Requirement) : Type 0 where
  pub fit : All (RequirementFits (length b.codes)) rs
  pub few : length rs < 2 ^ 31
  pub some : 0 < budget
  pub most : budget ≤ MOST_BUDGET
