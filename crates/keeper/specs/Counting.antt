-- What a keeper answers and counts by what its store came to.
use Rattle.std.specs.Prelude.{ℕ, false, Result, Ok, Err}
use Rattle.pb_base.specs.declared.answer.Fail.{Fail}
use Rattle.pb_base.specs.declared.answer.Fail.TheVariants as fail
use Rattle.pb_outside.specs.Faults.{Faults, raised}
use Rattle.pb_outside.specs.declared.error.OutError.{OutError}
use Rattle.pb_outside.specs.declared.error.OutError.TheVariants.{Failed, Memory}

-- so many faults so far, of a keeper that never says that no call fails from here on
abbrev pub fallible : ℕ → Faults
fallible faults = record { count = faults; faultless = false }

module _ {T E : Type 0} where
  -- want of memory is told as such, and every other failure as one
  abbrev pub answer_of : Result T (Fail E) → Result T OutError
  answer_of (Ok answer) = Ok answer
  answer_of (Err fail.Memory) = Err Memory
  answer_of (Err (fail.Refused why)) = Err Failed

  -- want of memory counts nothing, and every other failure one fault
  abbrev pub faults_after : Result T (Fail E) → ℕ → ℕ
  faults_after (Ok answer) faults = faults
  faults_after (Err fail.Memory) faults = faults
  faults_after (Err (fail.Refused why)) faults = raised faults
