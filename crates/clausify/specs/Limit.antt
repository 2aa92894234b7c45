-- When a slice is coded: where its questions are at most MOST_QUESTIONS. Want of memory is free there.
use Rattle.std.specs.Prelude.{◌≡◌, ℕ, ◌≤◌, ◌<◌, Result, Ok, Err, length}
use Rattle.pb_base.specs.declared.answer.Fail.{Fail}
use Rattle.pb_base.specs.declared.answer.Fail.TheVariants.{Refused, Memory}
use Rattle.pb_base.specs.declared.limits.TheConstants.{MOST_QUESTIONS}
use Rattle.book_model.specs.Contents.{Contents}
use Rattle.clausify.specs.Questions.{questions}
use Rattle.clausify.specs.Coded.{IsCoded}
use Rattle.clausify.specs.declared.question.Coded.{Coded}

abbrev pub CodesWithin : Contents → ℕ → Result Coded (Fail ℕ) → Type 0
CodesWithin b day (Ok coded) = (length (questions b day) ≤ MOST_QUESTIONS) × IsCoded b day coded
CodesWithin b day (Err (Refused count)) = (count ≡ length (questions b day)) × (MOST_QUESTIONS < count)
CodesWithin b day (Err Memory) = length (questions b day) ≤ MOST_QUESTIONS
