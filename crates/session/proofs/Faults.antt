-- Reads that went well, and what came before them.
use Rattle.std.proofs.Common.{◌≡◌, ◌∙◌, ℕ, Bool, true, false, refl, subst, arith}
use Rattle.std.specs.Prelude.{Err}
use Rattle.pb_base.specs.Answers.{ForRefusal, IfRefused}
use Rattle.pb_base.specs.declared.answer.Fail.{Fail}
use Rattle.pb_base.specs.declared.answer.Fail.TheVariants.{Refused, Memory as NoRoom}
use Rattle.pb_outside.specs.Faults.{Faults, Rose, Fails, IsLater}
use Rattle.http_wire.specs.Stream.{ReadFails}
use Rattle.http_wire.specs.declared.fault.ReadFault.{ReadFault}
use Rattle.session.specs.Session.{IsCounted}
use Rattle.session.specs.Steps.{IsQuiet}
use Rattle.session.specs.declared.end.SessionEnd.{SessionEnd}
use Rattle.session.specs.declared.end.SessionEnd.TheVariants.{Done, Broken, ReadFault as ReadFailed, WriteFault, Memory}

pub later_twice : (x y z : Faults) → IsLater x y → IsLater y z → IsLater x z
later_twice x y z first second = record {
  never_falls = let a = first.never_falls in let b = second.never_falls in omega arith;
  kept = λ faultless. second.kept (first.kept faultless);
}

pub quiet_twice : (x y z : Faults) → IsQuiet x y → IsQuiet y z → IsQuiet x z
quiet_twice x y z first second = record {
  count = second.count ∙ first.count;
  later = later_twice x y z first.later second.later;
}

-- what failed later had not been ruled out before
was_possible : (before after : Bool) → (before ≡ true → after ≡ true) → after ≡ false → before ≡ false
was_possible false after kept possible = refl
was_possible true after kept possible = let is : after ≡ true = kept refl in cc

fails_behind : (x y z : Faults) → IsQuiet x y → Fails y z → Fails x z
fails_behind x y z quiet fails = record {
  rose = subst (λ (n : ℕ). Rose n z.count) quiet.count fails.rose;
  possible = was_possible x.faultless y.faultless quiet.later.kept fails.possible;
}

pub read_fails_behind : (x y z : Faults) (fault : ReadFault) → IsQuiet x y → ReadFails y z fault → ReadFails x z fault
read_fails_behind x y z fault quiet fails = record {
  count_before = fails.count_before ∙ quiet.count;
  count_after = fails.count_after;
  fails = fails_behind x y z quiet fails.fails;
}

-- of a refusal
pub refusal : {E : Type 0} (U : Type 0) (fail : Fail E) (P : E → Type 0) → IfRefused {U = U} (Err fail) P → ForRefusal fail P
refusal U (Refused fault) P h = h
refusal U NoRoom P h = h

pub counted_behind : (end : SessionEnd) (x y z : Faults) → IsQuiet x y → IsCounted end y z → IsCounted end x z
counted_behind Done x y z quiet counted = counted ∙ quiet.count
counted_behind Broken x y z quiet counted = counted ∙ quiet.count
counted_behind (ReadFailed fault) x y z quiet counted = read_fails_behind x y z fault quiet counted
counted_behind (WriteFault fault) x y z quiet counted = tt
counted_behind Memory x y z quiet counted = tt
