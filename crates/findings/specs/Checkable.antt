-- What may be checked.
--     IsCheckable b s     a slice of the book with no more questions than may be asked
--     IsEffort effort     a budget within its bounds
use Rattle.std.specs.Prelude.{◌<◌, ◌≤◌}
use Rattle.pb_base.specs.declared.limits.TheConstants.{MOST_BUDGET, MOST_QUESTIONS}
use Rattle.book_model.specs.Contents.{Contents}
use Rattle.book_model.specs.Slices.{IsOrdered, IsSteady}
use Rattle.book_model.specs.declared.record.Slice.{Slice}
use Rattle.derivation.specs.Limits.{asked_of}
use Rattle.findings.specs.declared.task.Effort.{Effort}

pub record IsCheckable (b : Contents) (s : Slice) : Type 0 where
  pub steady : IsSteady b s
  pub order : IsOrdered s
  pub few : asked_of b s ≤ MOST_QUESTIONS

pub record IsEffort (effort : Effort) : Type 0 where
  pub some : 0 < effort.budget
  pub budget : effort.budget ≤ MOST_BUDGET
