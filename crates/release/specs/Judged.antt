-- What an order against a released book comes to, which never fails to fit.
--     as_outcome judged           the same as what an order comes to against any book
--     refused_by judged           the place of the rule that refuses, if one does
--     fitting_outcome b day y     what a completed set comes to whose parts fit
use Rattle.std.specs.Prelude.{ℕ, Bool, List, Option, None, Some}
use Rattle.book_model.specs.Contents.{Contents}
use Rattle.book_model.specs.Parts.{parts}
use Rattle.parts_usage.specs.Broken.{first_broken_of}
use Rattle.parts_usage.specs.Outcome.{judged}
use Rattle.parts_usage.specs.declared.judgement.Outcome.{Outcome}
use Rattle.parts_usage.specs.declared.judgement.Outcome.TheVariants as outcome
use Rattle.release.specs.declared.judging.Judged.{Judged}
use Rattle.release.specs.declared.judging.Judged.TheVariants.{Accepted, Refused}

abbrev pub as_outcome : Judged → Outcome
as_outcome (Accepted set list) = outcome.Accepted set list
as_outcome (Refused rule) = outcome.Refused rule

abbrev pub refused_by : Judged → Option ℕ
refused_by (Accepted set list) = None
refused_by (Refused rule) = Some rule

abbrev pub fitting_outcome : Contents → ℕ → List Bool → Outcome
fitting_outcome b day y = judged (first_broken_of b day y) None (outcome.Accepted y (parts b day y))
