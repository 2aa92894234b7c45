-- What an order comes to.
--     outcome_of_set b day y       what a completed set comes to
--     outcome_of b day names       the first fault of the order, or what its completed codes come to
use Rattle.std.specs.Prelude.{ℕ, Bool, List, Option, None, Some, Result, Ok}
use Rattle.pb_base.specs.NamedSet.{named}
use Rattle.pb_base.specs.Results.{unless}
use Rattle.book_model.specs.Contents.{Contents}
use Rattle.book_model.specs.Parts.{parts}
use Rattle.supplement.specs.Completion.{completion_of}
use Rattle.parts_usage.specs.Broken.{first_broken_of}
use Rattle.parts_usage.specs.Unfit.{first_unfit_of}
use Rattle.parts_usage.specs.Fault.{order_fault}
use Rattle.parts_usage.specs.declared.fault.OrderFault.{OrderFault}
use Rattle.parts_usage.specs.declared.unfit.Unfit.{Unfit}
use Rattle.parts_usage.specs.declared.judgement.Outcome.{Outcome}
use Rattle.parts_usage.specs.declared.judgement.Outcome.TheVariants as outcome

-- a broken rule refuses first, then a position that doesn't fit
abbrev pub judged : Option ℕ → Option Unfit → Outcome → Outcome
judged (Some rule) unfit accepted = outcome.Refused rule
judged None (Some u) accepted = outcome.Unfit u.position u.count
judged None None accepted = accepted

abbrev pub outcome_of_set : Contents → ℕ → List Bool → Outcome
outcome_of_set b day y = judged (first_broken_of b day y) (first_unfit_of b day y) (outcome.Accepted y (parts b day y))

abbrev pub outcome_of : Contents → ℕ → List (List ℕ) → Result Outcome OrderFault
outcome_of b day names = unless (order_fault b day names) (Ok (outcome_of_set b day (completion_of b day (named b.codes names)).set))
