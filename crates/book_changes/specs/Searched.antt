-- What the search for a car of both books says.
use Rattle.rules_met.specs.declared.answer.RuleAnswer.{RuleAnswer}
use Rattle.rules_met.specs.declared.answer.RuleAnswer.TheVariants.{Met, NotMet, Left}
use Rattle.book_changes.specs.declared.run.Common.{Common}
use Rattle.book_changes.specs.declared.run.Common.TheVariants.{Shared, Nowhere, Undecided}

abbrev pub common_by : RuleAnswer → Common
common_by (Met x) = Shared
common_by NotMet = Nowhere
common_by Left = Undecided
